-- `maps::opened::Opened::split` meets its contract: the step is that of the call.
use Rattle.std.proofs.Common.{arith, rules, refl, sym, subst}
use lib.ListN.{length-set}
use Rattle.std.proofs.lemmas.Result.{err_from_is_err_and}
use Rattle.mesh.specs.Replay.{Outcome}
use Rattle.mesh.proofs.Refused.{refuses}
use Rattle.maps.specs.Calls.{split_within}
use Rattle.maps.proofs.Changing.{open_map, Draws, StepOf, split_step_lem, step_room, new_few, new_proper, step_grown, step_drawn, new_short}
use Rattle.maps.proofs.opened.Opened.split.Goals as goal
use Rattle.maps.proofs.opened.Opened.split.Goals.{In_ok-drawn}

-- the line that the step draws
draws : (c : In_ok-drawn) → Draws c.args.self.now.map (record { number = 0; split = c.in_ok-drawn.drawn.line; table = c.in_ok-drawn.drawn.table })
    (split_within c.args.self.now.map c.args.s c.args.allowance)
draws c =
    let m = c.args.self.now.map in
    (subst (λ (r : Outcome). StepOf m r (split_within m c.args.s c.args.allowance)) (sym c.in_ok-drawn.ensures)
    (split_step_lem (open_map c.args.self.now) c.args.s c.args.allowance)).0 refl

pub split-requires : goal.split-requires
split-requires c = (open_map c.args.self.now).has_table

pub returns-in_err-drawn : goal.returns-in_err-drawn
returns-in_err-drawn c =
    let m = c.args.self.now.map in
    let e = c.in_err-drawn.field-0.0 in
    let step = (subst (λ (r : Outcome). StepOf m r (split_within m c.args.s c.args.allowance)) (sym c.in_err-drawn.ensures)
    (split_step_lem (open_map c.args.self.now) c.args.s c.args.allowance)).1 (refuses e) in
    let r = err_from_is_err_and c.from_residual.result c.from_residual.ensures.1 in
    rw (r.1, r.2) step

pub blends-requires : goal.blends-requires
blends-requires c = new_few (open_map c.args.self.now) (draws (goal.at.blends-requires c).In_ok-drawn)

pub carry-carried-requires : goal.carry-carried-requires
carry-carried-requires c =
    let g = open_map c.args.self.now in
    let d = draws (goal.at.carry-carried-requires c).In_ok-drawn in
    rw c.blends.ensures (new_short g d, new_proper g d, step_grown g d)

pub offset_bounds-self-at : goal.offset_bounds-self-at
offset_bounds-self-at c = omega (arith, step_room (open_map c.args.self.now) (draws (goal.at.offset_bounds-self-at c).In_ok-drawn))

pub bounds-self-at : goal.bounds-self-at
bounds-self-at c = step_room (open_map c.args.self.now) (draws (goal.at.bounds-self-at c).In_ok-drawn)

pub overflow_add-self : goal.overflow_add-self
overflow_add-self c = omega (arith, step_room (open_map c.args.self.now) (draws (goal.at.overflow_add-self c).In_ok-drawn))

pub invariant_of-self-2 : goal.invariant_of-self-2
invariant_of-self-2 c =
    let self = c.args.self.now in
    let new = rw c.blends.ensures at c.carry-carried.ensures in
    record {
      opens = (step_drawn (open_map self) (draws (goal.at.invariant_of-self-2 c).In_ok-drawn) _ new).1;
      held = record { full = record { splits = rw length-set self.held.full.splits; values = omega arith; marks = omega arith }; small = λ i. search rules };
    }

pub returns : goal.returns
returns c =
    let new = rw c.blends.ensures at c.carry-carried.ensures in
    (step_drawn (open_map c.args.self.now) (draws (goal.at.returns c).In_ok-drawn) _ new).0
