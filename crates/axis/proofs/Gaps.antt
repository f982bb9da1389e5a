-- A triple over a unit step: its gap and share there, and the hat that they make at the step's ends.
use Prim.Native.Nat.{ℕ, ◌+◌, ◌*◌, ◌-◌, ◌<◌, ◌≤◌}
use native.Mathlib.Omega.{arith}
use native.Mathlib.Nat.{mul-one, mul_comm}
use mathlib.Core.Path.{◌≡◌}
use mathlib.Core.Logic.{◌⊎◌, inl, inr, ⊎_elim}
use mathlib.Core.Bool.{true, false}
use borrow.Author.Tests.{ltb-true, ltb-false, leb-true, leb-false, le-leb, eqb-true, eqb-false}
use lib.Dec.{ltb, leb, eqb}
use Rattle.axis.specs.Fraction.{Equal}
use Rattle.axis.specs.Triple.{hat, spans, Rises, Rise}
use Rattle.axis.specs.Gap.{corner, gap, share, End}
use Rattle.axis.specs.declared.Triple.{Triple}
use Rattle.axis.proofs.Tests.{either, and_fails}
use Rattle.axis.proofs.Runs.{if_equal}
use Rattle.axis.proofs.Hats.{hat_outside}

-- the unit step from knot x lies in a triple's support
pub record Spans (t : Triple) (x : ℕ) : Type 0 where
  pub from : t.l ≤ x
  pub to : x < t.r

pub not_spans : (t : Triple) (x : ℕ) → spans x t ≡ false → (x < t.l) ⊎ (t.r ≤ x)
not_spans t x e = ⊎_elim (λ s. inl (leb-false _ _ s)) (λ s. inr (ltb-false _ _ s)) (and_fails (leb t.l x) (ltb x t.r) e)

-- the share and the gap by the side of the middle on which the step lies
module _ (t : Triple) (x : ℕ) where
  pub by_side : (u : ℕ) (P : ℕ → ℕ → Type 0) → (x < t.m → P (u - t.l) (t.m - t.l)) → (t.m ≤ x → P (t.r - u) (t.r - t.m)) →
      P (share t x u) (gap t x)
  by_side u P f g =
      ⊎_elim (λ e. rw e (f (ltb-true _ _ e))) (λ e. rw e (g (ltb-false _ _ e))) (either (ltb x t.m))

  pub gap_positive : Rise t → 0 < gap t x
  gap_positive r = by_side x (λ s g. 0 < g) (λ h. omega arith) (λ h. omega arith)

  pub gap_most : Rises t → gap t x ≤ 129
  gap_most r = by_side x (λ s g. g ≤ 129) (λ h. omega arith) (λ h. omega arith)

  pub share_most : (u : ℕ) → Rises t → End x u → share t x u ≤ 129
  share_most u r e = by_side u (λ s g. s ≤ 129) (λ h. omega arith) (λ h. omega arith)

  pub share_gap : (u : ℕ) → End x u → share t x u ≤ gap t x
  share_gap u e = by_side u (λ s g. s ≤ g) (λ h. omega arith) (λ h. omega arith)

  -- Over a step of a side the gap is at most the side, where the triple reaches past the side only
  -- with its middle at the end.
  pub gap_side : (side : ℕ) → 1 ≤ x → x ≤ side → 1 ≤ t.m → t.m ≤ side + 1 → t.r ≤ side + 2 → (t.l ≡ 0 → t.m ≡ 1) →
      (t.r ≡ side + 2 → t.m ≡ side + 1) → gap t x ≤ side
  gap_side side lo hi low high far near end =
      by_side x (λ s g. g ≤ side) (λ h. if_equal t.l 0 (λ e. omega (arith, near e)) (λ ne. omega (arith, ne)))
      (λ h. if_equal t.r (side + 2) (λ e. omega (arith, end e)) (λ ne. omega (arith, ne)))

  -- at an end of the step the hat is the share over the gap
  pub hat_share : (u : ℕ) → End x u → Equal (hat t u 1) (record { num = share t x u; den = gap t x })
  unfolding hat
  hat_share u e =
      by_side u (λ s g. Equal (hat t u 1) (record { num = s; den = g }))
      (λ h. let b : leb u (t.m * 1) ≡ true = le-leb u (t.m * 1) (omega arith) in rw b (simp mul-one))
      (λ h. ⊎_elim
      (λ b. let q : u ≡ t.m = omega (arith, leb-true u (t.m * 1) b) in rw b (simp (mul-one, q) (mul_comm (t.m - t.l) (t.r - t.m))))
      (λ b. rw b (simp mul-one))
      (either (leb u (t.m * 1))))

  -- and where the step lies outside the support it is 0
  pub hat_outside_step : (u : ℕ) → Rise t → End x u → spans x t ≡ false → (hat t u 1).num ≡ 0
  hat_outside_step u r e s =
      hat_outside t r u 1 (omega arith) (⊎_elim (λ (h : x < t.l). inl (omega arith)) (λ (h : t.r ≤ x). inr (omega arith)) (not_spans t x s))

-- the low corner r of a point's square, as a knot: the square lies in the domain, and the point is at an end of it
module _ (side u r : ℕ) (pos : 1 ≤ side) (le : u ≤ side) (e : r ≡ corner side u) where
  corner_cases : ((u ≡ side) × (r ≡ u - 1)) ⊎ ((u < side) × (r ≡ u))
  corner_cases =
      ⊎_elim (λ (t : eqb u side ≡ true). inl (eqb-true u side t, rw t at e))
      (λ (t : eqb u side ≡ false). inr (let ne : u ≡ side → ⊥ = eqb-false u side t in omega arith, rw t at e)) (either (eqb u side))

  pub corner_in : (1 ≤ r + 1) × (r + 1 ≤ side)
  corner_in = ⊎_elim (λ (t : (u ≡ side) × (r ≡ u - 1)). omega arith) (λ (t : (u < side) × (r ≡ u)). omega arith) corner_cases

  pub corner_end : End (r + 1) (u + 1)
  corner_end = ⊎_elim (λ (t : (u ≡ side) × (r ≡ u - 1)). omega arith) (λ (t : (u < side) × (r ≡ u)). omega arith) corner_cases
