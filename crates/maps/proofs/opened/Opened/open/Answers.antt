-- `maps::opened::Opened::open` meets its contract: the lines replayed, then the unused places.
use Rattle.std.proofs.Common.{arith, rules, ◌≡◌, ◌∙◌, true, sym}
use Rattle.axis.proofs.Tests.{true_not_false}
use Rattle.maps.specs.declared.Map.{Map}
use Rattle.maps.specs.Record.{is_zero, is_mark, is_no_split, good, plain}
use Rattle.maps.specs.Calls.{changed}
use Rattle.maps.specs.Opened.{opened}
use Rattle.maps.proofs.Opening.{Passes, fails_good, passes_good, good_table, replay_gives, replay_none, all_list, rest_all}
use Rattle.maps.proofs.opened.Opened.open.Goals as goal
use Rattle.maps.proofs.opened.Opened.open.Goals.{Else-not-all_pass-3}

-- a record that fails a test is refused,
refused : (m : Map) → (Passes m → ⊥) → changed 2 m ≡ opened m
unfolding opened
refused m f = rw (fails_good m f)

-- and one that passes them all is good
passed : (c : Else-not-all_pass-3) → good c.args.map.now ≡ true
passed c =
    let m = c.args.map.now in
    let r = replay_gives _ c.in-Some.is c.replay.ensures in
    let k = c.in-Some.table.count in
    passes_good m
    (record {
      accepted? = r.accepted?;
      no_splits = sym (rest_all is_no_split m.lines.splits 60 m.lines.count (omega arith)) ∙ sym c.no_splits.ensures ∙ c.if-not-no_splits.false;
      no_values =
          rw (← r.counted)
          (sym (rest_all is_zero m.values 1024 k (omega arith)) ∙ sym (c.all_pass.ensures is_zero (λ x r p. search rules)) ∙ c.if-not-all_pass.false);
      are_marks = sym (all_list is_mark m.marks) ∙ sym (c.all_pass-2.ensures is_mark (λ x r p. search rules)) ∙ c.if-not-all_pass-2.false;
      no_marks = rw (← r.counted)
          (sym (rest_all is_zero m.marks 1024 k (omega arith)) ∙ sym (c.all_pass-3.ensures is_zero (λ x r p. search rules)) ∙
          c.if-not-all_pass-3.false);
    })

pub returns-in_default : goal.returns-in_default
returns-in_default c = refused _ (λ p. true_not_false _ p.accepted? (replay_none _ (sym c.in_default.is ∙ c.replay.ensures)))

pub offset_bounds-map-map : goal.offset_bounds-map-map
offset_bounds-map-map c = let r = replay_gives _ c.in-Some.is c.replay.ensures in omega (arith, r.few_splits)

pub slice_bounds-no_splits-count : goal.slice_bounds-no_splits-count
slice_bounds-no_splits-count c = let r = replay_gives _ c.in-Some.is c.replay.ensures in r.few_splits

pub slice_bounds-no_splits-start : goal.slice_bounds-no_splits-start
slice_bounds-no_splits-start c = let r = replay_gives _ c.in-Some.is c.replay.ensures in r.few_splits

pub returns-then-not-no_splits : goal.returns-then-not-no_splits
returns-then-not-no_splits c =
    let m = c.args.map.now in
    let same = rest_all is_no_split m.lines.splits 60 m.lines.count (omega arith) in
    refused m (λ p. true_not_false _ p.no_splits (sym same ∙ sym c.no_splits.ensures ∙ c.if-not-no_splits.true))

pub offset_bounds-map-table : goal.offset_bounds-map-table
offset_bounds-map-table c = let r = replay_gives _ c.in-Some.is c.replay.ensures in omega (arith, r.few)

pub slice_bounds-all_pass-count : goal.slice_bounds-all_pass-count
slice_bounds-all_pass-count c = let r = replay_gives _ c.in-Some.is c.replay.ensures in r.few

pub slice_bounds-all_pass-start : goal.slice_bounds-all_pass-start
slice_bounds-all_pass-start c = let r = replay_gives _ c.in-Some.is c.replay.ensures in r.few

pub returns-then-not-all_pass : goal.returns-then-not-all_pass
returns-then-not-all_pass c =
    let m = c.args.map.now in
    let r = replay_gives _ c.in-Some.is c.replay.ensures in
    let same = rest_all is_zero m.values 1024 c.in-Some.table.count (omega arith) in
    refused m (λ p. true_not_false _ (rw (← r.counted) at p.no_values)
    (sym same ∙ sym (c.all_pass.ensures is_zero (λ x r p. search rules)) ∙ c.if-not-all_pass.true))

pub returns-then-not-all_pass-2 : goal.returns-then-not-all_pass-2
returns-then-not-all_pass-2 c =
    refused _ (λ p. true_not_false _ p.are_marks (sym (all_list is_mark c.args.map.now.marks) ∙
    sym (c.all_pass-2.ensures is_mark (λ x r p. search rules)) ∙ c.if-not-all_pass-2.true))

pub slice_bounds-all_pass-count-2 : goal.slice_bounds-all_pass-count-2
slice_bounds-all_pass-count-2 c = let r = replay_gives _ c.in-Some.is c.replay.ensures in r.few

pub slice_bounds-all_pass-start-2 : goal.slice_bounds-all_pass-start-2
slice_bounds-all_pass-start-2 c = let r = replay_gives _ c.in-Some.is c.replay.ensures in r.few

pub returns-then-not-all_pass-3 : goal.returns-then-not-all_pass-3
returns-then-not-all_pass-3 c =
    let m = c.args.map.now in
    let r = replay_gives _ c.in-Some.is c.replay.ensures in
    let k = c.in-Some.table.count in
    let same = rest_all is_zero m.marks 1024 k (omega arith) in
    refused m (λ p. true_not_false _ (rw (← r.counted) at p.no_marks)
    (sym same ∙ sym (c.all_pass-3.ensures is_zero (λ x r p. search rules)) ∙ c.if-not-all_pass-3.true))

pub invariant_of-result : goal.invariant_of-result
unfolding plain
invariant_of-result c =
    let r = replay_gives _ c.in-Some.is c.replay.ensures in
    let ok = passed (goal.at.invariant_of-result c).Else-not-all_pass-3 in
    record {
      opens = record { is_good = ok; is_table = r.is_table ∙ sym (good_table c.args.map.now ok) };
      held = record { full = record { splits = omega arith; values = omega arith; marks = omega arith }; small = λ i. search rules };
    }

pub returns : goal.returns
unfolding opened
returns c = rw (passed (goal.at.returns c).Else-not-all_pass-3)
