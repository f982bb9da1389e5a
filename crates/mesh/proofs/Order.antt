-- The order of cutting does not matter (document 01, "Blends"; 001, section 3): what is left of a blend is what is left of its halves, by any cut.
use Prim.Native.Nat.{ℕ, zero, suc, ◌≤◌, ◌<◌}
use native.Mathlib.Omega.{arith}
use mathlib.Core.Path.{◌≡◌, refl, sym, ap, subst, ◌∙◌, fun_ext}
use mathlib.Core.Logic.{◌⊎◌, inl, inr, ⊎_elim}
use mathlib.Core.Bool.{Bool, true, false, cond}
use mathlib.Core.List.Memᴰ
use mathlib.Core.List.{List, [], ◌∷◌, ◌++◌, Memᴰ}
use borrow.Author.Tests.{eqb-true, eqb-false}
use lib.Dec.{eqb}
use Rattle.axis.specs.Triple.{Knots}
use Rattle.axis.specs.declared.Side.{Side}
use Rattle.axis.specs.declared.Side.TheVariants.{Lower as lower, Upper as upper}
use Rattle.mesh.specs.Lines.{other, Mesh, HasLine}
use Rattle.mesh.specs.declared.Direction.{Direction}
use Rattle.mesh.specs.declared.Direction.TheVariants.{Upright as upright, Level as level}
use Rattle.mesh.specs.Blends.{crossed, along, cuts, halve, cutter, leaves, leaves_of, size, live, RiseB, Rising}
use Rattle.mesh.specs.Order.{Uncut, Comes, here, cut, Left, Step, replace, drop, Steps, done, step, Cutting, Coarser, LeftOf, SameMembers}
use Rattle.mesh.specs.declared.Blend.{Blend}
use Rattle.axis.proofs.Tests.{either, true_not_false, joined_mem, mem_joined}
use Rattle.mesh.proofs.Cuts.{crossed_rises, WithinB, within_b_refl, within_b_trans, Cut, cut_fact, cut_test, halve_rises, halve_within, halve_smaller, halve_anchor, size_positive, Crossing, upright_level, level_upright, crossing_back, cut_stays, halves_commute, FromB, wholeB, partB, swap, cutter_none, cutter_cuts, halve_knots}

-- a cut blend, and one that no line cuts
pub uncut_of : (M : Mesh) (d : Direction) (B : Blend) → RiseB B → cutter M d B ≡ 0 → cutter M (other d) B ≡ 0 → Uncut M B
uncut_of M upright B h p q upright = cutter_none M upright B h p
uncut_of M upright B h p q level = cutter_none M level B h q
uncut_of M level B h p q upright = cutter_none M upright B h q
uncut_of M level B h p q level = cutter_none M level B h p

pub cut_or_not : (M : Mesh) (B : Blend) → RiseB B → Uncut M B ⊎ ((d : Direction) × (z : ℕ) × (cuts M d z B ≡ true))
cut_or_not M B h =
    ⊎_elim
    (λ p. ⊎_elim (λ q. inl (uncut_of M upright B h (eqb-true _ _ p) (eqb-true _ _ q))) (cutter_of level) (either (eqb (cutter M level B) 0)))
    (cutter_of upright)
    (either (eqb (cutter M upright B) 0))
  where
    cutter_of : (d : Direction) → eqb (cutter M d B) 0 ≡ false → Uncut M B ⊎ ((d : Direction) × (z : ℕ) × (cuts M d z B ≡ true))
    cutter_of d e = inr (d, cutter M d B, cutter_cuts M d B h (eqb-false _ _ e))

-- Induction by cutting: what is true of a blend that no line cuts, and of a cut one if of both its halves, is true of every rising blend.
pub by_cutting : (M : Mesh) (P : Blend → Type 0) → ((B : Blend) → RiseB B → Uncut M B → P B) →
    ((B : Blend) (d : Direction) (z : ℕ) → RiseB B → cuts M d z B ≡ true → ((s : Side) → P (halve d s z B)) → P B) → (B : Blend) → RiseB B → P B
by_cutting M P whole parts B h = within (size B) B h (omega arith)
  where
    within : (f : ℕ) (B : Blend) → RiseB B → size B ≤ f → P B
    within zero B h le = absurd (omega (arith, size_positive B h))
    within (suc f) B h le =
        ⊎_elim (whole B h)
        (λ r. let i = (cut_fact M r.0 r.1 B r.2).inside in
        parts B r.0 r.1 h r.2
        (λ s. within f (halve r.0 s r.1 B) (halve_rises r.0 s r.1 B h i) (omega (arith, halve_smaller r.0 s r.1 B h i))))
        (cut_or_not M B h)

pub comes_trans : {M : Mesh} {B C D : Blend} → Comes M B C → Comes M C D → Comes M B D
comes_trans here q = q
comes_trans (cut d z s p r) q = cut d z s p (comes_trans r q)

-- a chain is extended at its front
pub left_front : {M : Mesh} {B C : Blend} (d : Direction) (z : ℕ) (s : Side) → cuts M d z B ≡ true → Left M (halve d s z B) C → Left M B C
left_front d z s p l = record { comes = cut d z s p l.comes; uncut = l.uncut }

left_from : (M : Mesh) (d : Direction) (y : ℕ) (B X C : Blend) → FromB M d y B X → Left M X C → Left M B C
left_from M d y B X C (wholeB e) l = subst (λ (Y : Blend). Left M Y C) e l
left_from M d y B X C (partB v c e) l = left_front d y v (cut_test M d y B c) (subst (λ (Y : Blend). Left M Y C) e l)

-- A chain from B begins with a cut at y, and a line at z cuts B too: what is left comes from a half by z. `after` is this for the half by y.
module _ (M : Mesh) (y z : ℕ) (s : Side) (B C : Blend) where
  abbrev Onward : Direction → Direction → Type 0
  Onward d e = Cut M d z (halve e s y B) → (u : Side) × Left M (halve d u z (halve e s y B)) C

  same_way : (d : Direction) → Cut M d z B → Cut M d y B → Left M (halve d s y B) C → Onward d d → (w : Side) × Left M (halve d w z B) C
  same_way d c b l after =
      ⊎_elim (λ e. (s, subst (λ (x : ℕ). Left M (halve d s x B) C) (eqb-true y z e) l))
      (λ e. ⊎_elim
      (λ r. let k = after r.0 in let f = r.1 k.0 in (f.0, left_from M d y _ _ C f.1 k.1))
      (λ r. (r.0, left_from M d y _ _ C r.1 l))
      (swap M d s y z B b c (eqb-false y z e)))
      (either (eqb y z))

  cross_way : {d e : Direction} → Crossing d e → RiseB B → Cut M d z B → Cut M e y B → Onward d e → (w : Side) × Left M (halve d w z B) C
  cross_way {d} {e} x h c b after =
      let k = after (cut_stays M x s y z B h b.inside c) in
      let still = cut_stays M (crossing_back x) k.0 z y B h c.inside b in
      (k.0, left_front e y s (cut_test M e y (halve d k.0 z B) still) (subst (λ (Y : Blend). Left M Y C) (halves_commute x s k.0 y z B) k.1))

  either_direction : (d e : Direction) → RiseB B → Cut M d z B → Cut M e y B → Left M (halve e s y B) C → Onward d e → (w : Side) × Left M (halve d w z B) C
  either_direction upright upright h c b l after = same_way upright c b l after
  either_direction upright level h c b l after = cross_way upright_level h c b after
  either_direction level upright h c b l after = cross_way level_upright h c b after
  either_direction level level h c b l after = same_way level c b l after

-- The key: what is left of a blend is left of one of its halves, by any cut.
pub some_half : (M : Mesh) (d : Direction) (z : ℕ) {B C : Blend} → RiseB B → Cut M d z B → Comes M B C → Uncut M C → (w : Side) × Left M (halve d w z B) C
some_half M d z {B} h c here u = absurd (true_not_false _ (cut_test M d z B c) (u d z))
some_half M d z {B} {C} h c (cut e y s p r) u =
    let b = cut_fact M e y B p in
    either_direction M y z s B C d e h c b (record { comes = r; uncut = u })
    (λ k. some_half M d z (halve_rises e s y B h b.inside) k r u)

pub left_of_half : (M : Mesh) (d : Direction) (z : ℕ) {B C : Blend} → RiseB B → cuts M d z B ≡ true → Left M B C →
    Left M (halve d lower z B) C ⊎ Left M (halve d upper z B) C
left_of_half M d z {B} {C} h p l =
    let r = some_half M d z h (cut_fact M d z B p) l.comes l.uncut in
    by_side r.0 r.1
  where
    by_side : (w : Side) → Left M (halve d w z B) C → Left M (halve d lower z B) C ⊎ Left M (halve d upper z B) C
    by_side lower l = inl l
    by_side upper l = inr l

-- Of a blend that no line cuts only itself is left.
comes_uncut : {M : Mesh} {B C : Blend} → Uncut M B → Comes M B C → C ≡ B
comes_uncut u here = refl
comes_uncut u (cut d z s p r) = absurd (true_not_false _ p (u d z))

pub left_uncut : {M : Mesh} {B C : Blend} → Uncut M B → Left M B C → C ≡ B
left_uncut u l = comes_uncut u l.comes

pub left_itself : {M : Mesh} {B : Blend} → Uncut M B → Left M B B
left_itself u = record { comes = here; uncut = u }

-- A list holds exactly what is left of B.
pub record Exact (M : Mesh) (B : Blend) (cs : List Blend) : Type 0 where
  pub left : (C : Blend) → Memᴰ C cs → Left M B C
  pub all : (C : Blend) → Left M B C → Memᴰ C cs

exact_uncut : (M : Mesh) (B : Blend) → Uncut M B → Exact M B (B ∷ [])
exact_uncut M B u =
    record {
      left = λ C m. subst (λ (X : Blend). Left M B X) (sym (Memᴰ.eq_of_singleton m)) (left_itself u);
      all = λ C l. Memᴰ.head (left_uncut u l);
    }

-- What is left of both halves is what is left of the blend: so a function that cuts is exact where it is on smaller blends, whichever cut it takes.
pub exact_halves : (M : Mesh) (d : Direction) (z : ℕ) (B : Blend) (of : Blend → List Blend) → RiseB B → cuts M d z B ≡ true →
    ((A : Blend) → RiseB A → size A < size B → Exact M A (of A)) → Exact M B (of (halve d lower z B) ++ of (halve d upper z B))
exact_halves M d z B of h p smaller =
    record {
      left = λ C m.
          ⊎_elim (λ m. left_front d z lower p ((exact lower).left C m)) (λ m. left_front d z upper p ((exact upper).left C m))
          (Memᴰ.append_cases (of (halve d lower z B)) m);
      all = λ C l.
          ⊎_elim (λ l. Memᴰ.append_left _ ((exact lower).all C l)) (λ l. Memᴰ.append_right (of (halve d lower z B)) ((exact upper).all C l))
          (left_of_half M d z h p l);
    }
  where
    exact : (s : Side) → Exact M (halve d s z B) (of (halve d s z B))
    exact s =
        let i = (cut_fact M d z B p).inside in
        smaller (halve d s z B) (halve_rises d s z B h i) (halve_smaller d s z B h i)

exact_test : (M : Mesh) (B : Blend) (b : Bool) (xs ys : List Blend) → (b ≡ true → Exact M B xs) → (b ≡ false → Exact M B ys) → Exact M B (cond b xs ys)
exact_test M B true xs ys f g = f refl
exact_test M B false xs ys f g = g refl

-- `leaves` is exactly what is left, whichever direction is tried first, if the fuel is enough.
pub leaves_exact : (f : ℕ) (M : Mesh) (d : Direction) (B : Blend) → RiseB B → size B ≤ f → Exact M B (leaves f M d B)
unfolding leaves
leaves_exact zero M d B h le = absurd (omega (arith, size_positive B h))
leaves_exact (suc f) M d B h le =
    exact_test M B (eqb (cutter M d B) 0) _ _
    (λ p. exact_test M B (eqb (cutter M (other d) B) 0) _ _ (λ q. exact_uncut M B (uncut_of M d B h (eqb-true _ _ p) (eqb-true _ _ q)))
    (λ q. exact_halves M (other d) (cutter M (other d) B) B (leaves f M d) h (cutter_cuts M (other d) B h (eqb-false _ _ q))
    (λ A r lt. leaves_exact f M d A r (omega arith))))
    (λ p. exact_halves M d (cutter M d B) B (leaves f M (other d)) h (cutter_cuts M d B h (eqb-false _ _ p))
    (λ A r lt. leaves_exact f M (other d) A r (omega arith)))

-- A chain stays within its start's support and rises.
pub comes_rises : {M : Mesh} {B C : Blend} → RiseB B → Comes M B C → RiseB C
comes_rises h here = h
comes_rises {M} {B} h (cut d z s p r) = comes_rises (halve_rises d s z B h (cut_fact M d z B p).inside) r

pub comes_within : {M : Mesh} {B C : Blend} → RiseB B → Comes M B C → WithinB B C
comes_within {M} {B} h here = within_b_refl B
comes_within {M} {B} h (cut d z s p r) =
    let i = (cut_fact M d z B p).inside in
    within_b_trans (halve_within d s z B h i) (comes_within (halve_rises d s z B h i) r)

pub cut_on_line : (M : Mesh) (d : Direction) (z : ℕ) (B : Blend) → RiseB B → Cut M d z B → HasLine M d z
cut_on_line M d z B h c =
    let a = crossed_rises (other d) B h in
    ((along d B).l, c.covered (along d B).l (omega arith) (omega arith))

-- and keeps an axis's knots on lines
pub comes_on_lines : {M : Mesh} {B C : Blend} (d : Direction) → RiseB B → Knots (HasLine M d) (crossed d B) →
    Comes M B C → Knots (HasLine M d) (crossed d C)
comes_on_lines d h k here = k
comes_on_lines {M} {B} d h k (cut e z s p r) =
    let c = cut_fact M e z B p in
    comes_on_lines d (halve_rises e s z B h c.inside)
    (halve_knots (HasLine M) d e s z B k (cut_on_line M e z B h c)) r

-- Lists: what is left of some blends.
pub leaves_of_left : (M : Mesh) (bs : List Blend) → Rising bs → (C : Blend) → Memᴰ C (leaves_of M bs) → LeftOf M bs C
unfolding leaves_of
leaves_of_left M bs h C m =
    let r = joined_mem (λ B. leaves (size B) M upright B) bs C m in
    (r.0, r.1, (leaves_exact (size r.0) M upright r.0 (h r.0 r.1) (omega arith)).left C r.2)

pub left_leaves_of : (M : Mesh) (bs : List Blend) → Rising bs → (C : Blend) → LeftOf M bs C → Memᴰ C (leaves_of M bs)
unfolding leaves_of
left_leaves_of M bs h C r =
    mem_joined (λ B. leaves (size B) M upright B) bs r.0 C r.1
    ((leaves_exact (size r.0) M upright r.0 (h r.0 r.1) (omega arith)).all C r.2)

pub leaves_of_rises : (M : Mesh) (bs : List Blend) → Rising bs → Rising (leaves_of M bs)
leaves_of_rises M bs h C m = let r = leaves_of_left M bs h C m in comes_rises (h r.0 r.1) r.2.comes

-- membership around one entry
module _ {A : Blend} (xs : List Blend) (B : Blend) (ys : List Blend) where
  in_middle : Memᴰ A (xs ++ B ∷ ys) → (A ≡ B) ⊎ Memᴰ A (xs ++ ys)
  in_middle m =
      ⊎_elim (λ m. inr (Memᴰ.append_left ys m)) (λ m. ⊎_elim inl (λ m. inr (Memᴰ.append_right xs m)) (Memᴰ.cases_cons m))
      (Memᴰ.append_cases xs m)

  pub middle : A ≡ B → Memᴰ A (xs ++ B ∷ ys)
  middle e = Memᴰ.append_right xs (Memᴰ.head e)

  around : Memᴰ A (xs ++ ys) → Memᴰ A (xs ++ B ∷ ys)
  around m =
      ⊎_elim (λ m. Memᴰ.append_left (B ∷ ys) m) (λ m. Memᴰ.append_right xs (Memᴰ.tail m)) (Memᴰ.append_cases xs m)

-- a blend and its two halves in its place
module _ {A : Blend} (xs : List Blend) (B : Blend) (ys : List Blend) (d : Direction) (z : ℕ) where
  in_halves : Memᴰ A (xs ++ halve d lower z B ∷ halve d upper z B ∷ ys) → ((s : Side) × (A ≡ halve d s z B)) ⊎ Memᴰ A (xs ++ ys)
  in_halves m =
      ⊎_elim (λ e. inl (lower, e))
      (λ m. ⊎_elim (λ e. inl (upper, e)) inr (in_middle xs (halve d upper z B) ys m))
      (in_middle xs (halve d lower z B) (halve d upper z B ∷ ys) m)

  around_halves : Memᴰ A (xs ++ ys) → Memᴰ A (xs ++ halve d lower z B ∷ halve d upper z B ∷ ys)
  around_halves m = around xs (halve d lower z B) (halve d upper z B ∷ ys) (around xs (halve d upper z B) ys m)

-- A step keeps what is left.
pub step_rises : {M : Mesh} {xs ys : List Blend} → Step M xs ys → Rising xs → Rising ys
step_rises {M} (replace xs B ys d z p) h A m =
    ⊎_elim (λ r. subst RiseB (sym r.1) (halve_rises d r.0 z B (h B (middle xs B ys refl)) (cut_fact M d z B p).inside))
    (λ m. h A (around xs B ys m))
    (in_halves xs B ys d z m)
step_rises (drop xs B ys m) h A n = h A (around xs B ys n)

step_left : {M : Mesh} {xs ys : List Blend} → Step M xs ys → Rising xs → (C : Blend) → LeftOf M xs C → LeftOf M ys C
step_left {M} (replace xs B ys d z p) h C r =
    ⊎_elim
    (λ e. ⊎_elim (λ l. (halve d lower z B, middle xs _ (halve d upper z B ∷ ys) refl, l))
    (λ l. (halve d upper z B, around xs _ (halve d upper z B ∷ ys) (middle xs _ ys refl), l))
    (left_of_half M d z (h B (middle xs B ys refl)) p (subst (λ (X : Blend). Left M X C) e r.2)))
    (λ m. (r.0, around_halves xs B ys d z m, r.2))
    (in_middle xs B ys r.1)
step_left (drop xs B ys m) h C r =
    ⊎_elim (λ e. (r.0, Memᴰ.cast e m, r.2)) (λ n. (r.0, n, r.2)) (in_middle xs B ys r.1)

step_back : {M : Mesh} {xs ys : List Blend} → Step M xs ys → (C : Blend) → LeftOf M ys C → LeftOf M xs C
step_back {M} (replace xs B ys d z p) C r =
    ⊎_elim (λ e. (B, middle xs B ys refl, left_front d z e.0 p (subst (λ (X : Blend). Left M X C) e.1 r.2)))
    (λ m. (r.0, around xs B ys m, r.2))
    (in_halves xs B ys d z r.1)
step_back (drop xs B ys m) C r = (r.0, around xs B ys r.1, r.2)

steps_left : {M : Mesh} {xs ys : List Blend} → Steps M xs ys → Rising xs → (C : Blend) → LeftOf M xs C → LeftOf M ys C
steps_left done h C r = r
steps_left (step t ts) h C r = steps_left ts (step_rises t h) C (step_left t h C r)

steps_back : {M : Mesh} {xs ys : List Blend} → Steps M xs ys → (C : Blend) → LeftOf M ys C → LeftOf M xs C
steps_back done C r = r
steps_back (step t ts) C r = step_back t C (steps_back ts C r)

-- Any order of cutting ends with the same blends.
pub any_order : (M : Mesh) (bs cs : List Blend) → Rising bs → Cutting M bs cs → SameMembers cs (leaves_of M bs)
any_order M bs cs h c C = (
  λ m. left_leaves_of M bs h C (steps_back c.steps C (C, m, left_itself (c.end C m))),
  λ m. let r = steps_left c.steps h C (leaves_of_left M bs h C m) in Memᴰ.cast (left_uncut (c.end r.0 r.1) r.2) r.1,
)

-- A finer mesh (001, theorem 1): it cuts whatever the coarser one cuts, and what it leaves of a blend it leaves of what the coarser one left.
pub finer_cuts : (M N : Mesh) → Coarser M N → (d : Direction) (z : ℕ) (B : Blend) → cuts M d z B ≡ true → cuts N d z B ≡ true
finer_cuts M N g d z B p =
    let c = cut_fact M d z B p in
    cut_test N d z B (record { inside = c.inside; covered = λ k lo hi. g d z k (c.covered k lo hi) })

pub finer_comes : {M N : Mesh} {B C : Blend} → Coarser M N → Comes M B C → Comes N B C
finer_comes g here = here
finer_comes {M} {N} {B} g (cut d z s p r) = cut d z s (finer_cuts M N g d z B p) (finer_comes g r)

pub finer_back : {M N : Mesh} {B D C : Blend} → Coarser M N → Left M B D → Left N D C → Left N B C
finer_back g l n = record { comes = comes_trans (finer_comes g l.comes) n.comes; uncut = n.uncut }

pub finer : (M N : Mesh) → Coarser M N → (B C : Blend) → RiseB B → Left N B C → (D : Blend) × Left M B D × Left N D C
finer M N g B C h l =
    by_cutting M (λ X. Left N X C → (D : Blend) × Left M X D × Left N D C) (λ X r u l. (X, left_itself u, l))
    (λ X d z r p halves l. let w = some_half N d z r (cut_fact N d z X (finer_cuts M N g d z X p)) l.comes l.uncut in
    let k = halves w.0 w.1 in (k.0, left_front d z w.0 p k.1, k.2))
    B h l

-- So a finer mesh may start from what the coarser one left, in any list of it.
pub finer_leaves : (M N : Mesh) → Coarser M N → (bs ds : List Blend) → Rising bs → SameMembers ds (leaves_of M bs) →
    SameMembers (leaves_of N ds) (leaves_of N bs)
finer_leaves M N g bs ds h same C = (
  λ m. let r = leaves_of_left N ds rising C m in
      let l = leaves_of_left M bs h r.0 ((same r.0).0 r.1) in
      left_leaves_of N bs h C (l.0, l.1, finer_back g l.2 r.2),
  λ m. let r = leaves_of_left N bs h C m in
      let l = finer M N g r.0 C (h r.0 r.1) r.2 in
      left_leaves_of N ds rising C (l.0, (same l.0).1 (left_leaves_of M bs h l.0 (r.0, r.1, l.1)), l.2),
)
  where
    rising : Rising ds
    rising D m = leaves_of_rises M bs h D ((same D).0 m)

-- At its own anchor something is left of a blend.
pub keeps_anchor : (M : Mesh) (B : Blend) → RiseB B → (C : Blend) × Left M B C × (C.across.m ≡ B.across.m) × (C.up.m ≡ B.up.m)
keeps_anchor M B h =
    by_cutting M (λ X. (C : Blend) × Left M X C × (C.across.m ≡ X.across.m) × (C.up.m ≡ X.up.m)) (λ X r u. (X, left_itself u, refl, refl))
    (λ X d z r p halves. let s = halve_anchor d z X in
    let k = halves s.0 in (k.0, left_front d z s.0 p k.1, k.2 ∙ s.1, k.3 ∙ s.2))
    B h

-- Meshes of equal unit steps have the same live blends.
pub same_steps : (w h : ℕ) (M N : Mesh) → ((d : Direction) (z k : ℕ) → M d z k ≡ N d z k) → live w h M ≡ live w h N
same_steps w h M N e = ap (live w h) (fun_ext (λ d. fun_ext (λ z. fun_ext (λ k. e d z k))))
