-- `maps::opened::Opened::pairs_along` meets its contract.
use Rattle.std.proofs.Common.{arith, ℕ, Bool, ◌+◌, ◌-◌, ◌≤◌, ◌<◌, ◌≡◌, length, sym, ap, subst, ◌∙◌}
use lib.Dec.{ltb}
use Rattle.axis.specs.Range.{turns_from}
use Rattle.mesh.specs.Sound.{over_square, blends_of}
use Rattle.maps.specs.Pairs.{counted_pairs}
use Rattle.maps.specs.Inner.{AtPoint, is_level, entries_over, counted}
use Rattle.maps.proofs.Changing.{open_map, few, in_table}
use Rattle.maps.proofs.OldTable.{few_blends, old_long, old_table, old_point}
use Rattle.maps.proofs.OverSquare.{four_over, all_listed, entries_length}
use Rattle.maps.proofs.Adding.{four_read}
use Rattle.maps.proofs.Walking.{four_stay, in_walk, side_most, noting, noting_all, noted_on, noting_done}
use Rattle.maps.proofs.opened.Opened.pairs_along.Invariants.{below}
use Rattle.maps.proofs.opened.Opened.pairs_along.Goals as goal
use Rattle.maps.proofs.opened.Opened.pairs_along.Goals.{After-along-v, Joined-not-all_over, then-not-all_over, else-not-all_over, Joined-k-gt0, then-k-gt0, else-k-gt0}

pub blends-blends-requires : goal.blends-blends-requires
blends-blends-requires c = few (open_map c.args.self.now)

pub four_over-four-requires : goal.four_over-four-requires
four_over-four-requires c =
    let t = (in_table (open_map c.args.self.now)) in
    let s = t.sides in
    rw c.blends-blends.ensures (few_blends t, four_over _ _ _ (old_table t).1 1 1 (omega arith) (omega arith) (omega arith) (omega arith))

pub loop-k-init : goal.loop-k-init
loop-k-init c =
    let a = c.args in
    let side = c.along-side.result in
    let whole : side - (0 - 1) ≡ side = omega arith in
    record {
      in_hand = record { long = omega arith; x = 1; y = 1; are = rw c.blends-blends.ensures at c.four_over-four.ensures };
      is_last = λ lt. absurd (omega arith);
      few = omega arith;
      some = λ z. absurd (omega arith);
      rest = rw whole (noting_all (turns_from 0 side (below a.self.now.table a.self.now.map.values (is_level a.direction) a.at a.wanted)));
    }

-- the present point
here : (c : After-along-v) → AtPoint c.args.self.now.map.lines.w c.args.self.now.map.lines.h c.args.self.now.table c.along-u.result c.along-v.result
here c =
    let a = c.args in
    let p = in_walk (is_level a.direction) a.self.now.map.lines.w a.self.now.map.lines.h c.loop-k.k a.at
    (rw c.along-side.ensures at c.loop-k-test.true) c.requires in
    old_point (in_table (open_map c.args.self.now)) _ _ (rw c.along-u.ensures p.0) (rw c.along-v.ensures p.1)

pub low_knot-x-requires : goal.low_knot-x-requires
low_knot-x-requires c = let p = here (goal.at.low_knot-x-requires c).After-along-v in (p.3, p.4, p.7)

pub low_knot-y-requires : goal.low_knot-y-requires
low_knot-y-requires c = let p = here (goal.at.low_knot-y-requires c).After-along-v in (p.5, p.6, p.8)

pub four_over-four-requires-then-not-all_over : goal.four_over-four-requires-then-not-all_over
four_over-four-requires-then-not-all_over c =
    let p = here (goal.at.four_over-four-requires-then-not-all_over c).After-along-v in
    rw (c.blends-blends.ensures, c.low_knot-x.ensures.0, c.low_knot-y.ensures.0) (few_blends (in_table (open_map c.args.self.now)), p.2)

-- the four blends over its square
over : (c : Joined-not-all_over) → AtPoint c.args.self.now.map.lines.w c.args.self.now.map.lines.h c.args.self.now.table c.along-u.result c.along-v.result →
    c.if-not-all_over.four ≡ entries_over (over_square c.low_knot-x.result c.low_knot-y.result) (blends_of c.args.self.now.table) 0
over c p =
    elim c.if-not-all_over.branch [
      | then-not-all_over w ↦ rw w.four-is (rw c.blends-blends.ensures at w.four_over-four-then-not-all_over.ensures)
      | else-not-all_over w ↦
          rw w.four-is
          (four_stay _ _ c.loop-k.invariant.in_hand _ _ (sym c.all_over.ensures ∙ w.if-not-all_over.false)
          (rw (c.low_knot-x.ensures.0, c.low_knot-y.ensures.0) p.2))
    ]

pub reading_over-litres-requires : goal.reading_over-litres-requires
reading_over-litres-requires c =
    let at = goal.at.reading_over-litres-requires c in
    let p = here at.After-along-v in (
      omega arith,
      all_listed _ _ _ _ _ p _ _ c.if-not-all_over.four (over at.Joined-not-all_over p),
      omega arith,
      omega arith,
      omega arith,
      omega arith,
    )

pub overflow_add-u : goal.overflow_add-u
overflow_add-u c = let p = here (goal.at.overflow_add-u c).After-along-v in omega (arith, p.4, p.7)

pub overflow_add-v : goal.overflow_add-v
overflow_add-v c = let p = here (goal.at.overflow_add-v c).After-along-v in omega (arith, p.6, p.8)

pub noted-pairs-requires : goal.noted-pairs-requires
noted-pairs-requires c =
    let t = (in_table (open_map c.args.self.now)) in
    let side = side_most (is_level c.args.direction) _ _ t.sides.1 t.sides.3 in
    (omega (arith, c.along-side.ensures), c.loop-k.invariant.some)

-- whether the reading at a point is below the wanted flow, of the whole map
abbrev test : (c : Joined-k-gt0) → ℕ → Bool
test c = let a = c.args in below a.self.now.table a.self.now.map.values (is_level a.direction) a.at a.wanted

is_here : (c : Joined-k-gt0) → AtPoint c.args.self.now.map.lines.w c.args.self.now.map.lines.h c.args.self.now.table c.along-u.result c.along-v.result →
    c.if-not-all_over.four ≡ entries_over (over_square c.low_knot-x.result c.low_knot-y.result) (blends_of c.args.self.now.table) 0 →
    ltb c.reading_over-litres.result c.args.wanted ≡ test c c.loop-k.k
is_here c p four =
    let o = c.args.self.now in
    let read = c.reading_over-litres.ensures ∙
    four_read _ _ o.table o.map.values _ _ p (old_long (in_table (open_map o))) (omega arith) _ _ c.low_knot-x.ensures.0 c.low_knot-y.ensures.0
    c.if-not-all_over.four four in
    rw (read, c.along-u.ensures, c.along-v.ensures)

-- The pairs that are noted at a point, with those from there on, are all pairs.
record Went (c : Joined-k-gt0) : Type 0 where
  few : (counted c.if-k-gt0.pairs).count ≤ c.loop-k.k
  some : (counted c.if-k-gt0.pairs).number ≡ 0 → 0 < (counted c.if-k-gt0.pairs).count
  rest : let side = c.along-side.result in
      noting (counted c.if-k-gt0.pairs) (turns_from c.loop-k.k (side - c.loop-k.k) (test c)) ≡ counted_pairs (turns_from 0 side (test c))

went : (c : Joined-k-gt0) → ltb c.reading_over-litres.result c.args.wanted ≡ test c c.loop-k.k → Went c
went c here =
    let l = c.loop-k in
    let side = c.along-side.result in
    let noted_before = counted l.pairs in
    let Noted : ℕ → Type 0 = λ j. noting noted_before (turns_from j (side - j) (test c)) ≡ counted_pairs (turns_from 0 side (test c)) in
    elim c.if-k-gt0.branch [
      | then-k-gt0 w ↦
          let on : l.k - 1 + 1 ≡ l.k = omega arith in
          let before : l.k - 1 < side = omega arith in
          let r = rw on at (noted_on noted_before (counted c.if-k-gt0.pairs) (test c) (l.k - 1) side before (l.invariant.is_last w.if-k-gt0.true)
          (here ∙ ap (test c) (sym on)) (ap counted w.pairs-is ∙ w.noted-pairs.ensures.noted) l.invariant.few) in
          record { few = r.0; some = rw w.pairs-is w.noted-pairs.ensures.some; rest = r.1 ∙ l.invariant.rest }
      | else-k-gt0 w ↦
          let start : l.k - 1 ≡ l.k = omega arith in
          record {
            few = rw w.pairs-is (omega arith);
            some = rw w.pairs-is l.invariant.some;
            rest = rw w.pairs-is (subst Noted start l.invariant.rest);
          }
    ]

pub loop-k-preserved : goal.loop-k-preserved
loop-k-preserved c =
    let at = goal.at.loop-k-preserved c in
    let p = here at.After-along-v in
    let four = over at.Joined-not-all_over p in
    let long : length c.if-not-all_over.four ≡ 4 =
    ap length four ∙ entries_length _ (blends_of c.args.self.now.table) 0 ∙ rw (c.low_knot-x.ensures.0, c.low_knot-y.ensures.0) p.2 in
    let this = is_here at.Joined-k-gt0 p four in
    let w = went at.Joined-k-gt0 this in
    let now : c.loop-k.k + 1 - 1 ≡ c.loop-k.k = omega arith in
    record {
      in_hand = record { long = long; x = _; y = _; are = four };
      is_last = λ lt. rw now this;
      few = rw now w.few;
      some = w.some;
      rest = rw now w.rest;
    }

-- after the last point none is left
pub returns-after-k-gt0 : goal.returns-after-k-gt0
returns-after-k-gt0 c =
    let at = goal.at.returns-after-k-gt0 c in
    let p = here at.After-along-v in
    let w = went at.Joined-k-gt0 (is_here at.Joined-k-gt0 p (over at.Joined-not-all_over p)) in
    let side = c.along-side.result in
    sym (noting_done (counted c.if-k-gt0.pairs) (test at.Joined-k-gt0) c.loop-k.k (side - c.loop-k.k) (omega arith)) ∙ w.rest ∙ rw c.along-side.ensures

pub returns : goal.returns
returns c =
    let l = c.loop-k in
    let a = c.args in
    let test = below a.self.now.table a.self.now.map.values (is_level a.direction) a.at a.wanted in
    sym (noting_done (counted l.pairs) test (l.k - 1) (c.along-side.result - (l.k - 1)) (omega (arith, c.loop-k-test.false))) ∙
    l.invariant.rest ∙ rw c.along-side.ensures
