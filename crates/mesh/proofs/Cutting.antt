-- Cutting a blend: its halves as the code makes them, and what is kept.
use Prim.Native.Nat.{ℕ, zero, suc, ◌+◌, ◌≤◌, ◌<◌}
use native.Mathlib.Omega.{arith}
use borrow.Author.Tests.{eq-eqb, ne_eqb}
use mathlib.Core.Path.{◌≡◌, refl, sym, ap, ◌∙◌}
use mathlib.Core.Bool.{Bool, true, false, cond}
use mathlib.Core.List.{List, [], ◌∷◌, ◌++◌, append-nil}
use lib.ListN.{length, get_or, take}
use Rattle.axis.specs.Range.{every, joined}
use Rattle.axis.specs.Triple.{half}
use Rattle.axis.specs.declared.Side.{Side}
use Rattle.axis.specs.declared.Side.TheVariants.{Lower as lower, Upper as upper}
use Rattle.mesh.specs.Lines.{other, Mesh}
use Rattle.mesh.specs.declared.Direction.{Direction}
use Rattle.mesh.specs.declared.Direction.TheVariants.{Upright as upright, Level as level}
use Rattle.mesh.specs.Bytes.{step_on, keep, keep_all}
use Rattle.mesh.specs.Sound.{Proper, none}
use Rattle.mesh.specs.Blends.{crossed, cutter, halve, leaves, leaves_of, size}
use Rattle.axis.specs.declared.Triple.{Triple}
use Rattle.mesh.specs.declared.Blend.{Blend}
use Rattle.axis.proofs.Tests.{true_not_false}
use Rattle.axis.proofs.Members.{joined_more}
use Rattle.mesh.proofs.Cuts.{put, halve_own, cut_fact, cutter_cuts, rise_b_of, halve_proper, halve_within, halve_smaller, WithinB}

-- whether the line at a knot covers the n steps from knot b on
abbrev pub over : List ℕ → ℕ → ℕ → ℕ → Bool
over steps b n z = every b n (step_on steps z)

-- what is left of a blend that lines of a direction cut: also where the other direction is tried first, and none of its lines cuts
leaves_cut : (f : ℕ) (M : Mesh) (d : Direction) (x : Blend) (tried : Bool) → (cutter M d x ≡ 0 → ⊥) → (tried ≡ true → cutter M (other d) x ≡ 0) →
    leaves (suc f) M (cond tried (other d) d) x ≡
    leaves f M (other d) (halve d lower (cutter M d x) x) ++ leaves f M (other d) (halve d upper (cutter M d x) x)
unfolding leaves
leaves_cut f M upright x true ne none = rw (eq-eqb _ _ (none refl), ne_eqb _ _ ne)
leaves_cut f M level x true ne none = rw (eq-eqb _ _ (none refl), ne_eqb _ _ ne)
leaves_cut f M d x false ne none = rw (ne_eqb _ _ ne)

leaves_none : (f : ℕ) (M : Mesh) (d : Direction) (x : Blend) → cutter M d x ≡ 0 → cutter M (other d) x ≡ 0 → leaves f M d x ≡ x ∷ []
unfolding leaves
leaves_none zero M d x e e' = refl
leaves_none (suc f) M d x e e' = rw (eq-eqb _ _ e, eq-eqb _ _ e')

pub keep_all_append : (places : List ℕ) (xs ys : List Blend) → keep_all places (xs ++ ys) ≡ keep_all (keep_all places xs) ys
unfolding keep_all
keep_all_append places [] ys = refl
keep_all_append places (x ∷ xs) ys = keep_all_append (keep places x) xs ys

-- the places q are the places p with what is left of a blend kept besides, lines of direction d tried first
abbrev pub Cut : Mesh → Direction → Blend → List ℕ → List ℕ → Type 0
Cut M d x p q = (f : ℕ) → size x ≤ f → q ≡ keep_all p (leaves f M d x)

-- what is left of a half, and the places q are the places p with what is left of the halves on the first i of some sides
abbrev pub handed : ℕ → Mesh → Direction → Blend → Side → List Blend
handed f M d x s = leaves f M (other d) (halve d s (cutter M d x) x)

abbrev pub Handed : Mesh → Direction → Blend → List Side → ℕ → List ℕ → List ℕ → Type 0
Handed M d x ss i p q = (f : ℕ) → size x ≤ suc f → q ≡ keep_all p (joined (handed f M d x) (take i ss))

pub handed_none : (M : Mesh) (d : Direction) (x : Blend) (ss : List Side) (p : List ℕ) → Handed M d x ss 0 p p
unfolding keep_all
handed_none M d x ss p f le = refl

-- a half as the code makes it
put_half : (d : Direction) (s : Side) (z : ℕ) (x : Blend) (t : Triple) → t ≡ half s z (crossed d x) → put d x t ≡ halve d s z x
put_half d s z x t e = ap (put d x) e ∙ halve_own d x s z

-- a proper blend, smaller than another and not beyond it
record Smaller (x y : Blend) : Type 0 where
  proper : Proper y
  less : size y < size x
  within : WithinB x y

-- What the recursion counts down: a half is smaller, and a blend is handed on as it is once at most.
abbrev pub ahead : Blend → Bool → ℕ
ahead x tried = size x + size x + cond tried 0 1

half_ahead : {x y : Blend} (tried : Bool) (t : ℕ) → Smaller x y → ahead x tried ≡ t → ahead y false < t
half_ahead {x} {y} tried t h e = fall (size x) (size y) (cond tried 0 1) e h.less
  where
    fall : (a b k : ℕ) → a + a + k ≡ t → b < a → b + b + 1 < t
    fall a b k e h = omega arith

pub handed_ahead : (x : Blend) (tried : Bool) (t : ℕ) → ahead x tried ≡ t → tried ≡ false → ahead x true < t
handed_ahead x tried t e h = fall (size x) (rw h at e)
  where
    fall : (a : ℕ) → a + a + 1 ≡ t → a + a + 0 < t
    fall a e = omega arith

-- a line that cuts a proper blend, as the code finds it
pub record Found (M : Mesh) (d : Direction) (x : Blend) (z : ℕ) : Type 0 where
  pub ok : Proper x
  pub is : z ≡ cutter M d x
  pub some : z ≡ 0 → ⊥

-- Cutting both halves, one after the other, cuts the blend; and a half may be handed on.
module _ {M : Mesh} {d : Direction} {x : Blend} {z : ℕ} (F : Found M d x z) where
  put_smaller : (s : Side) (t : Triple) → t ≡ half s z (crossed d x) → Smaller x (put d x t)
  put_smaller s t e =
      let y = cutter M d x in
      let rises = rise_b_of F.ok in
      let i = (cut_fact M d y x (cutter_cuts M d x rises (λ q. F.some (F.is ∙ q)))).inside in
      rw (put_half d s z x t e, F.is)
      (record { proper = halve_proper d s y x F.ok i; less = halve_smaller d s y x rises i; within = halve_within d s y x rises i })

  pub half_asks : (tried : Bool) (n : ℕ) → ahead x tried ≡ n → (s : Side) (t : Triple) → t ≡ half s z (crossed d x) →
      (ahead (put d x t) false < n) × Proper (put d x t) × (false ≡ true → cutter M d (put d x t) ≡ 0) ×
      ((put d x t).across.r ≤ x.across.r) × ((put d x t).up.r ≤ x.up.r)
  half_asks tried n e s t h =
      let less = put_smaller s t h in
      (half_ahead tried n less e, less.proper, λ q. absurd (true_not_false _ q refl), less.within.across.hi, less.within.up.hi)

  pub cut_halves : (tried : Bool) (t u : Triple) (p q r : List ℕ) → (tried ≡ true → cutter M (other d) x ≡ 0) →
      t ≡ half lower z (crossed d x) → u ≡ half upper z (crossed d x) →
      Cut M (other d) (put d x t) p q → Cut M (other d) (put d x u) q r → Cut M (cond tried (other d) d) x p r
  cut_halves tried t u p q r none e e' first second zero le = absurd (omega (arith, (put_smaller lower t e).less))
  cut_halves tried t u p q r none e e' first second (suc f) le =
      second f (omega (arith, (put_smaller upper u e').less))
      ∙ ap (λ (l : List ℕ). keep_all l (leaves f M (other d) (put d x u))) (first f (omega (arith, (put_smaller lower t e).less)))
      ∙ rw (leaves_cut f M d x tried (λ q. F.some (F.is ∙ q)) none, keep_all_append, put_half d lower z x t e, put_half d upper z x u e', F.is)

  pub handed_more : (ss : List Side) (i : ℕ) (t : Triple) (p q r : List ℕ) → i < length ss → t ≡ half (get_or ss i lower) z (crossed d x) →
      Handed M d x ss i p q → Cut M (other d) (put d x t) q r → Handed M d x ss (i + 1) p r
  handed_more ss i t p q r lt e first next f le =
      let s = get_or ss i lower in
      let same : put d x t ≡ halve d s (cutter M d x) x = rw (← F.is) (put_half d s z x t e) in
      next f (omega (arith, (put_smaller s t e).less)) ∙ ap (λ (l : List ℕ). keep_all l (leaves f M (other d) (put d x t))) (first f le) ∙
      rw (same, joined_more (handed f M d x) ss i lower lt) (sym (keep_all_append p (joined (handed f M d x) (take i ss)) (handed f M d x s)))

  pub handed_both : (tried : Bool) (p r : List ℕ) → (tried ≡ true → cutter M (other d) x ≡ 0) →
      Handed M d x (lower ∷ upper ∷ []) 2 p r → Cut M (cond tried (other d) d) x p r
  handed_both tried p r none both zero le = absurd (omega (arith, (put_smaller lower _ refl).less))
  handed_both tried p r none both (suc f) le =
      both f le ∙ rw (append-nil (handed f M d x upper), leaves_cut f M d x tried (λ q. F.some (F.is ∙ q)) none)

-- a blend that no line cuts is kept as it is
pub cut_kept : (M : Mesh) (d : Direction) (x : Blend) (p q : List ℕ) → cutter M d x ≡ 0 → cutter M (other d) x ≡ 0 → q ≡ keep p x → Cut M d x p q
unfolding keep_all
cut_kept M d x p q e e' h f le = h ∙ rw (leaves_none f M d x e e')

-- cutting the first of some blends
pub cut_first : (M : Mesh) (x : Blend) (xs : List Blend) (p q : List ℕ) → Cut M upright x p q →
    keep_all q (leaves_of M xs) ≡ keep_all p (leaves_of M (x ∷ xs))
unfolding leaves_of
cut_first M x xs p q h =
    ap (λ (l : List ℕ). keep_all l (leaves_of M xs)) (h (size x) (omega arith)) ∙ sym (keep_all_append p (leaves (size x) M upright x) (leaves_of M xs))
