-- Two tables walked side by side: a new blend has the anchor of the next old one, or of none.
use Prim.Native.Nat.{ℕ, zero, suc, ◌+◌, ◌≤◌, ◌<◌}
use native.Mathlib.Omega.{arith}
use native.Mathlib.Numerals.{add-one}
use mathlib.Core.Path.{◌≡◌, refl, sym, ap, subst, ◌∙◌}
use mathlib.Core.Logic.{◌⊎◌, ⊎_elim}
use mathlib.Core.Bool.{true, false}
use mathlib.Core.List.Memᴰ
use mathlib.Core.List.{List, [], ◌∷◌, Memᴰ}
use borrow.Author.Tests.{eq-eqb, lt-ltb, le-ltb}
use lib.ListN.{length, get_or, take, drop, take-append-drop}
use Rattle.axis.proofs.Tests.{and_of, false_of, cond_true, cond_false}
use Rattle.axis.proofs.Distinct.{Ascending}
use Rattle.mesh.specs.declared.Blend.{Blend}
use Rattle.mesh.specs.Lines.{Mesh}
use Rattle.mesh.specs.Blends.{anchored, place, once, leaves_of, refine, first_four, live}
use Rattle.mesh.specs.Order.{Coarser}
use Rattle.mesh.specs.Sound.{sound}
use Rattle.mesh.proofs.TableOrder.{anchored_at, once_mem, once_distinct}
use Rattle.mesh.proofs.Ascending.{order_ascending}
use Rattle.mesh.proofs.SoundMaps.{live_leaves, own_anchors}
use Rattle.mesh.proofs.NewAnchors.{anchor_kept}
use Rattle.mesh.proofs.Places.{at_inj}
use Rattle.maps.specs.Values.{place_of, kept_or}
use Rattle.maps.specs.Inner.{Grown}

-- what is left of an ordered list is ordered, and its entries are the list's
rises_on : (bs : List Blend) → Ascending place bs → (i : ℕ) → Ascending place (drop i bs)
rises_on bs up zero = up
rises_on [] up (suc i) = tt
rises_on (B ∷ bs) up (suc i) = rises_on bs up.1 i

of_left : (bs : List Blend) (i : ℕ) (B : Blend) → Memᴰ B (drop i bs) → Memᴰ B bs
of_left bs i B m = subst (Memᴰ B) (take-append-drop i bs) (Memᴰ.append_right (take i bs) m)

-- the blend with an anchor stands where the walk has come to, or nowhere
place_at : (bs : List Blend) (j : ℕ) (y : Blend) (rest : List Blend) → Ascending place bs → drop j bs ≡ y ∷ rest → (m n : ℕ) → anchored m n y ≡ true →
    place_of bs m n ≡ j
place_at [] j y rest up e m n on = absurd (Memᴰ.not-nil (of_left [] j y (subst (Memᴰ y) (sym e) (Memᴰ.head refl))))
place_at (B ∷ bs) zero y rest up e m n on =
    ⊎_elim (λ q. cond_true _ _ _ (subst (λ (X : Blend). anchored m n X ≡ true) q on))
    (λ k.
    ⊎_elim (λ q. cond_true _ _ _ (subst (λ (X : Blend). anchored m n X ≡ true) (sym q) on))
    (λ j. let first = up.0 y k in let back = (rises_on (y ∷ rest) (subst (Ascending place) e up) 0).0 B j in absurd (omega arith))
    (Memᴰ.cases_cons (subst (Memᴰ B) e (Memᴰ.head refl))))
    (Memᴰ.cases_cons (subst (Memᴰ y) (sym e) (Memᴰ.head refl)))
place_at (B ∷ bs) (suc j) y rest up e m n on =
    let later = of_left bs j y (subst (Memᴰ y) (sym e) (Memᴰ.head refl)) in
    let off : anchored m n B ≡ false = false_of _ (λ t.
    let a = anchored_at m n B t in
    let b = anchored_at m n y on in
    let lt = up.0 y later in
    omega (arith, a.0, a.1, b.0, b.1)) in
    rw off (ap (λ k. k + 1) (place_at bs j y rest up.1 e m n on) ∙ add-one j)

place_none : (bs : List Blend) (m n : ℕ) → ((B : Blend) → Memᴰ B bs → anchored m n B ≡ false) → length bs ≤ place_of bs m n
place_none [] m n none = omega arith
place_none (B ∷ bs) m n none =
    let rest = place_none bs m n (λ C k. none C (Memᴰ.tail k)) in
    rw (none B (Memᴰ.head refl)) (omega arith)

-- The old blends that are left and the new ones that are left: whichever old blend has the anchor of a new one that is left is left itself, and each old
-- one that is left has its anchor among the new ones that are.
pub record Walking (old new : List Blend) (j i : ℕ) : Type 0 where
  pub left_too : (B C : Blend) → Memᴰ B old → Memᴰ C (drop i new) → place B ≡ place C → Memᴰ B (drop j old)
  pub ahead : (B : Blend) → Memᴰ B (drop j old) → (C : Blend) × Memᴰ C (drop i new) × (place C ≡ place B)

module _ (old new : List Blend) (grown : Grown old new) where
  pub walking_none : Walking old new 0 0
  walking_none = record { left_too = λ B C m k e. m; ahead = grown.among }

  module _ {j i : ℕ} (at : Walking old new j i) {x : Blend} (new_turn : drop i new ≡ x ∷ drop (i + 1) new) where
    after : (C : Blend) → Memᴰ C (drop (i + 1) new) → place x < place C
    after = (subst (Ascending place) new_turn (rises_on new grown.rising_new i)).0

    here_or_later : (C : Blend) → Memᴰ C (drop i new) → (C ≡ x) ⊎ Memᴰ C (drop (i + 1) new)
    here_or_later C m = Memᴰ.cases_cons (subst (Memᴰ C) new_turn m)

    is_left : (C : Blend) → Memᴰ C (drop (i + 1) new) → Memᴰ C (drop i new)
    is_left C m = subst (Memᴰ C) (sym new_turn) (Memᴰ.tail m)

    -- The next old blend has the anchor of the next new one:
    module _ {y : Blend} (old_turn : drop j old ≡ y ∷ drop (j + 1) old) (same : place y ≡ place x) where
      after_old : (B : Blend) → Memᴰ B (drop (j + 1) old) → place y < place B
      after_old = (subst (Ascending place) old_turn (rises_on old grown.rising j)).0

      pub walking_both : Walking old new (j + 1) (i + 1)
      walking_both =
          record {
            left_too = λ B C m k e.
                ⊎_elim (λ q. let p = ap place q in let lt = after C k in absurd (omega arith))
                (λ m. m)
                (Memᴰ.cases_cons (subst (Memᴰ B) old_turn (at.left_too B C m (is_left C k) e)));
            ahead = λ B m.
                let r = at.ahead B (subst (Memᴰ B) (sym old_turn) (Memᴰ.tail m)) in
                ⊎_elim (λ q. let p = ap place q in let lt = after_old B m in let e = r.2 in absurd (omega arith))
                (λ k. (r.0, k, r.2)) (here_or_later r.0 r.1);
          }

    -- it has not, so no old one has:
    module _ (other : (y : Blend) (olds : List Blend) → drop j old ≡ y ∷ olds → place y ≡ place x → ⊥) where
      none_left : (olds : List Blend) → drop j old ≡ olds → (B : Blend) → Memᴰ B olds → place x < place B
      none_left [] e B m = absurd (Memᴰ.not-nil m)
      none_left (y ∷ olds) e B m =
          let r = at.ahead y (subst (Memᴰ y) (sym e) (Memᴰ.head refl)) in
          let first : place x < place y =
          ⊎_elim (λ q. absurd (other y olds e (sym r.2 ∙ ap place q))) (λ k. let lt = after r.0 k in let p = r.2 in omega arith) (here_or_later r.0
          r.1) in
          ⊎_elim (λ q. let p = ap place q in omega arith)
          (λ k. let lt = (subst (Ascending place) e (rises_on old grown.rising j)).0 B k in omega arith) (Memᴰ.cases_cons m)

      pub none_old : (B : Blend) → Memᴰ B old → place B ≡ place x → ⊥
      none_old B m e =
          let lt = none_left (drop j old) refl B (at.left_too B x m (subst (Memᴰ x) (sym new_turn) (Memᴰ.head refl)) e) in omega arith

      pub walking_new : Walking old new j (i + 1)
      walking_new =
          record {
            left_too = λ B C m k e. at.left_too B C m (is_left C k) e;
            ahead = λ B m.
                let r = at.ahead B m in
                ⊎_elim (λ q. absurd (none_old B (of_left old j B m) (sym r.2 ∙ ap place q))) (λ k. (r.0, k, r.2))
                (here_or_later r.0 r.1);
          }

-- What a split keeps of a list beside the old blends: the entry of the next old blend where that has the anchor, else what is new there.
module _ (bs : List Blend) (up : Ascending place bs) (xs : List ℕ) (new : ℕ) (x : Blend) (hx : x.up.m < 131) where
  pub kept_same : (j : ℕ) (y : Blend) (rest : List Blend) → j < length bs → drop j bs ≡ y ∷ rest → place y ≡ place x → y.up.m < 131 →
      kept_or new bs xs x ≡ get_or xs j 0
  kept_same j y rest lt e same hy =
      let a = at_inj y.across.m y.up.m x.across.m x.up.m hy hx same in
      let is = place_at bs j y rest up e x.across.m x.up.m (and_of _ _ (eq-eqb _ _ a.0) (eq-eqb _ _ a.1)) in
      rw (is, lt-ltb j (length bs) lt)

  pub kept_none : ((B : Blend) → Memᴰ B bs → place B ≡ place x → ⊥) → kept_or new bs xs x ≡ new
  kept_none none =
      let le = place_none bs x.across.m x.up.m (λ B m. false_of _ (λ t. let a = anchored_at _ _ B t in none B m (rw (a.0, a.1)))) in
      cond_false _ _ _ (le-ltb _ _ le)

-- The live blends of a sound map are in table order; a finer mesh leaves something at each of their anchors.
module _ (w h : ℕ) (hw : 1 ≤ w) (hh : 1 ≤ h) (high : h ≤ 128) where
  live_rising : (M : Mesh) → sound w h (live w h M) ≡ true → Ascending place (live w h M)
  unfolding live refine
  live_rising M s =
      order_ascending w h high (once (leaves_of M (first_four w h))) (once_distinct _)
      (λ B C b c. own_anchors w h hw hh M s B C (is_live B b) (is_live C c))
    where
      is_live : (B : Blend) → Memᴰ B (once (leaves_of M (first_four w h))) → Memᴰ B (live w h M)
      is_live B b = (live_leaves w h hw hh M B).1 (once_mem _ B b)

  pub live_grown : (M N : Mesh) → Coarser M N → sound w h (live w h M) ≡ true → sound w h (live w h N) ≡ true → Grown (live w h M) (live w h N)
  live_grown M N coarser sM sN =
      record {
        rising = live_rising M sM;
        rising_new = live_rising N sN;
        among = λ B m. let k = anchor_kept w h hw hh M N coarser B m in (k.0, k.1, rw (k.2, k.3));
      }
