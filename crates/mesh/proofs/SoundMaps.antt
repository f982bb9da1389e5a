-- The theorems on the live blends of a map. docs/READING.md sets them beside document 01.
use Prim.Native.Nat.{ℕ, ◌+◌, ◌*◌, ◌≤◌, ◌<◌}
use native.Mathlib.Omega.{arith}
use mathlib.Core.Path.{◌≡◌}
use mathlib.Core.Logic.{◌↔◌, ◌⊎◌}
use mathlib.Core.Bool.{true}
use mathlib.Core.List.{List, map, Memᴰ}
use lib.ListN.{length}
use borrow.Author.Tests.{eqb-true}
use Rattle.axis.specs.Range.{only, Distinct}
use Rattle.mesh.specs.Lines.{Mesh}
use Rattle.mesh.specs.declared.Direction.{Direction}
use Rattle.mesh.specs.Blends.{live, leaves_of, first_four, cuts}
use Rattle.mesh.specs.Order.{Comes, Uncut, Cutting, done, CuttingEnds, LeftOf, SameMembers, CoveredBy}
use Rattle.mesh.specs.Sound.{proper, over_square, four_everywhere, none_nested, sound, AllProperIn}
use Rattle.mesh.specs.Weight.{Term, weight, value, interpolated, CoveredTerms, Flow, flow_at, at_anchor}
use Rattle.axis.specs.Fraction.{times, whole, total, SameNumber}
use Rattle.mesh.specs.declared.Blend.{Blend}
use Rattle.axis.proofs.Tests.{and_both, every_at}
use Rattle.mesh.proofs.Order.{cut_or_not, any_order, comes_trans}
use Rattle.mesh.proofs.CuttingEnds.{cutting_ends}
use Rattle.mesh.proofs.Cuts.{proper_facts, proper_rises}
use Rattle.mesh.proofs.Places.{sound_own}
use Rattle.mesh.specs.Blends.{OwnAnchors}
use Rattle.mesh.proofs.Live.{comes_proper, refine_left, left_refine, refine_leaves, refine_proper, refine_distinct}
use Rattle.mesh.proofs.Weights.{square_positive, own_anchor, other_anchor, reproduced}
use Rattle.mesh.proofs.Straight.{flow_kept, adds_up}
use Rattle.mesh.proofs.Fresh.{first_proper, first_four_rises}

module _ (w h : ℕ) (hw : 1 ≤ w) (hh : 1 ≤ h) (M : Mesh) where
  -- The live blends are what is left of the first four,
  pub live_left : (C : Blend) → Memᴰ C (live w h M) ↔ LeftOf M (first_four w h) C
  unfolding live
  live_left C = (refine_left w h M (first_four w h) (first_proper w h hw hh) C, left_refine w h M (first_four w h) (first_proper w h hw hh) C)

  pub live_leaves : SameMembers (live w h M) (leaves_of M (first_four w h))
  unfolding live
  live_leaves = refine_leaves w h M (first_four w h) (first_proper w h hw hh)

  -- and every way of cutting to the end, from the first four, ends with them.
  pub any_order_live : (cs : List Blend) → Cutting M (first_four w h) cs → SameMembers cs (live w h M)
  any_order_live cs way C =
      let a = any_order M (first_four w h) cs (first_four_rises w h hw hh) way C in
      let r = live_leaves C in
      (λ m. r.1 (a.0 m), λ m. a.1 (r.0 m))

  -- Each of them does end,
  pub cutting_ends_live : CuttingEnds M (first_four w h)
  cutting_ends_live = cutting_ends M (first_four w h) (first_four_rises w h hw hh)

  -- so there is one, and the live blends are what it leaves.
  pub some_order_live : (cs : List Blend) × Cutting M (first_four w h) cs × SameMembers cs (live w h M)
  some_order_live = let r = cutting_ends_live.goes_on done in (r.0, r.1, any_order_live r.0 r.1)

  pub live_proper : AllProperIn w h (live w h M)
  unfolding live
  live_proper = refine_proper w h M (first_four w h) (first_proper w h hw hh)

  pub live_distinct : Distinct (live w h M)
  unfolding live
  live_distinct = refine_distinct w h M (first_four w h) (first_proper w h hw hh)

  -- a blend that comes before the live ones: all that is left of it is live
  pub before_live : (B C : Blend) → Memᴰ B (first_four w h) → Comes M B C → CoveredBy M (live w h M) C
  before_live B C m c D l = (live_left D).1 (B, m, record { comes = comes_trans c l.comes; uncut = l.uncut })

  -- so a sum of multiples of such blends is one of those that `live_reproduce` speaks of
  pub before_terms : (ts : List Term) →
      ((t : Term) → Memᴰ t ts → (B : Blend) × Memᴰ B (first_four w h) × Comes M B t.of) →
      CoveredTerms M w h (live w h M) ts
  before_terms ts from t m =
      let b = from t m in
      (comes_proper w h (first_proper w h hw hh b.0 b.1) b.2, before_live b.0 t.of b.1 b.2)

  first_covered : (B : Blend) → Memᴰ B (first_four w h) → CoveredBy M (live w h M) B
  first_covered B m C l = (live_left C).1 (B, m, l)

  decide : (B : Blend) → proper w h B ≡ true → Uncut M B ⊎ ((d : Direction) × (z : ℕ) × (cuts M d z B ≡ true))
  decide B p = cut_or_not M B (proper_rises w h B p)

  -- In a sound map:
  module _ (s : sound w h (live w h M) ≡ true) where
    four : four_everywhere w h (live w h M) ≡ true
    unfolding sound
    four = (and_both (four_everywhere w h (live w h M)) (none_nested (live w h M)) s).0

    apart : none_nested (live w h M) ≡ true
    unfolding sound
    apart = (and_both (four_everywhere w h (live w h M)) (none_nested (live w h M)) s).1

    -- at every point of the domain with coordinates p / d, q / d the weights add up to exactly one;
    pub weights_add_up : (p q d : ℕ) → 0 < d → p ≤ w * d → q ≤ h * d →
        let sum = total (map (λ (C : Blend). weight C (p + d) (q + d) d) (live w h M)) in (sum.num ≡ sum.den) × (0 < sum.den)
    weights_add_up = adds_up M w h (live w h M) decide live_distinct apart live_proper first_covered hw hh

    -- and a straight flow is the sum of its values at the anchors times the weights;
    pub live_straight : (F : Flow) (p q d : ℕ) → 0 < d → p ≤ w * d → q ≤ h * d →
        SameNumber (total (map (λ (C : Blend). times (whole (at_anchor F C)) (weight C (p + d) (q + d) d)) (live w h M)))
        (record { num = flow_at F p q d; den = d * d })
    live_straight = flow_kept M w h (live w h M) decide live_distinct apart live_proper first_covered hw hh

    -- the same four blends are positive throughout the inside of a unit square, every other one nowhere in it;
    pub four_positive : (x y : ℕ) → x < w → y < h →
        (length (only (over_square (x + 1) (y + 1)) (live w h M)) ≡ 4) ×
        ((B : Blend) → Memᴰ B (live w h M) → (p q d : ℕ) → x * d < p → p < (x + 1) * d → y * d < q → q < (y + 1) * d →
        over_square (x + 1) (y + 1) B ≡ true ↔ 0 < (weight B (p + d) (q + d) d).num)
    unfolding four_everywhere
    four_positive x y hx hy = (
      eqb-true _ _ (every_at 1 h _ (every_at 1 w _ four (x + 1) (omega arith) (omega arith)) (y + 1) (omega arith) (omega arith)),
      λ B m p q d a b c e. square_positive w h B (live_proper B m) (x + 1) (y + 1) (p + d) (q + d) d (omega arith) (omega arith) (omega arith) (omega arith),
    )

    -- at its own anchor a blend weighs one and every other live blend nothing;
    pub one_at_anchor : (C : Blend) → Memᴰ C (live w h M) →
        let own = weight C C.across.m C.up.m 1 in (own.num ≡ own.den) × (0 < own.den)
    one_at_anchor = own_anchor w h (live w h M) apart live_proper

    pub none_at_anchor : (B C : Blend) → Memᴰ B (live w h M) → Memᴰ C (live w h M) → (B ≡ C → ⊥) →
        (weight C B.across.m B.up.m 1).num ≡ 0
    none_at_anchor = other_anchor w h (live w h M) apart live_proper

    -- no two have one anchor;
    pub own_anchors : OwnAnchors (live w h M)
    own_anchors = sound_own w h (live w h M) (λ C m. proper_facts w h C (live_proper C m)) s

    -- and each sum of multiples of blends that come before the live ones equals the sum of its values at the anchors times the live blends.
    pub live_reproduce : (ts : List Term) → CoveredTerms M w h (live w h M) ts → (p q d : ℕ) → 0 < d →
        SameNumber (value ts p q d) (interpolated ts (live w h M) p q d)
    live_reproduce = reproduced M w h (live w h M) decide live_distinct apart live_proper
