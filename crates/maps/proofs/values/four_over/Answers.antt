-- `maps::values::four_over` meets its contract.
use Rattle.std.proofs.Common.{arith, ℕ, zero, suc, List, length, ◌≡◌, ◌+◌, ◌-◌, ◌*◌, ◌<◌, ◌≤◌, refl, sym, ◌∙◌}
use lib.ListN.{drop}
use Rattle.mesh.specs.declared.Blend.{Blend}
use Rattle.mesh.specs.Sound.{none, over_square}
use Rattle.maps.specs.Inner.{entries_over}
use Rattle.maps.specs.declared.values.Entry.{Entry}
use Rattle.maps.proofs.OldTable.{rest_turns, rest_ends}
use Rattle.maps.proofs.OverSquare.{Window, window_none, window_left, window_more, window_all, entries_length}
use Rattle.maps.proofs.values.four_over.Goals as goal
use Rattle.maps.proofs.values.four_over.Goals.{Joined-blends-i, then-blends-i, else-blends-i, then-is_over, else-is_over}

some_of : (n : ℕ) → (n ≡ 0 → ⊥) → 0 < n
some_of zero none = absurd (none refl)
some_of (suc n) none = omega arith

-- What a turn looks at: a blend of the table, which remains with those behind it, while fewer than four are found. A walk begun anew takes less than was left.
record Looks (bs : List Blend) (x y before : ℕ) (four : List Entry) (found from i : ℕ) : Type 0 where
  few : found < 4
  there : i < length bs
  less : from * 1025 + (length bs - i) ≤ before
  window : Window (entries_over (over_square x y) (drop from bs) from) (entries_over (over_square x y) (drop i bs) i) found four

looks : (c : Joined-blends-i) →
    let l = c.loop-found in
    let a = c.args in
    let j = c.if-blends-i in
    Looks a.blends.now a.x a.y (l.from * 1025 + (length a.blends.now - l.i)) l.four j.found j.from j.i
looks c =
    let l = c.loop-found in
    let a = c.args in
    let four = entries_length (over_square a.x a.y) a.blends.now 0 ∙ c.requires.1 in
    elim c.if-blends-i.branch [
      | then-blends-i w ↦
          let behind = rw (rest_ends a.blends.now l.i (omega arith)) at (window_left l.invariant) in
          let from = some_of l.from (λ z. omega (arith, four, rw z at behind)) in
          let count = some_of (length a.blends.now) (λ z. omega (arith, rw (rest_ends a.blends.now 0 (omega (arith, z))) at four)) in
          rw (w.found-is, w.from-is, w.i-is)
          (record { few = omega arith; there = count; less = omega (arith, from); window = window_none l.invariant.long })
      | else-blends-i w ↦
          rw (w.found-is, w.from-is, w.i-is) (record { few = omega arith; there = omega arith; less = omega arith; window = l.invariant })
    ]

pub loop-found-smaller : goal.loop-found-smaller
loop-found-smaller c = let k = looks (goal.at.loop-found-smaller c).Joined-blends-i in omega (arith, k.there, k.less)

-- The blend is found or passed over.
pub loop-found-preserved : goal.loop-found-preserved
loop-found-preserved c =
    let a = c.args in
    let j = c.if-blends-i in
    let k = looks (goal.at.loop-found-preserved c).Joined-blends-i in
    let turn = rw (rest_turns a.blends.now j.i k.there) at k.window in
    elim c.if-is_over.branch [
      | then-is_over w ↦ rw (w.four-is, w.found-is) (window_more _ k.few (rw (sym c.is_over.ensures ∙ w.if-is_over.true) at turn))
      | else-is_over w ↦ rw (w.four-is, w.found-is) (rw (sym c.is_over.ensures ∙ w.if-is_over.false) at turn)
    ]

pub returns : goal.returns
returns c =
    let e : c.loop-found.found ≡ 4 = omega arith in
    let four = entries_length (over_square c.args.x c.args.y) c.args.blends.now 0 ∙ c.requires.1 in
    window_all _ _ c.loop-found.from _ _ four (rw e at c.loop-found.invariant)
