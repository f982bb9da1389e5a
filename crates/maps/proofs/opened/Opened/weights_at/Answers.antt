-- `maps::opened::Opened::weights_at` meets its contract.
use Rattle.std.proofs.Common.{arith, ap, ◌∙◌, map}
use Rattle.axis.proofs.Members.{entry}
use Rattle.mesh.specs.Sound.{none, blends_of}
use Rattle.maps.specs.declared.values.Entry.{Entry}
use Rattle.maps.specs.Calls.{weight_over}
use Rattle.maps.specs.Inner.{AtPoint}
use Rattle.maps.proofs.OldTable.{few_blends, old_point}
use Rattle.maps.proofs.OverSquare.{all_listed, entries_only, four_mapped}
use Rattle.maps.proofs.Changing.{open_map, few, in_table}
use Rattle.maps.proofs.opened.Opened.weights_at.Goals as goal
use Rattle.maps.proofs.opened.Opened.weights_at.Goals.{Start}

here : (c : Start) → let self = c.args.self.now in AtPoint self.map.lines.w self.map.lines.h self.table c.args.u c.args.v
here c =
    old_point (in_table (open_map c.args.self.now)) _ _ c.requires.0 c.requires.1

pub low_knot-x-requires : goal.low_knot-x-requires
low_knot-x-requires c = let p = here (goal.at.low_knot-x-requires c).Start in (p.3, p.4, p.7)

pub low_knot-y-requires : goal.low_knot-y-requires
low_knot-y-requires c = let p = here (goal.at.low_knot-y-requires c).Start in (p.5, p.6, p.8)

pub overflow_add-m : goal.overflow_add-m
overflow_add-m c = let p = here (goal.at.overflow_add-m c).Start in omega (arith, p.4, p.7)

pub overflow_add-n : goal.overflow_add-n
overflow_add-n c = let p = here (goal.at.overflow_add-n c).Start in omega (arith, p.6, p.8)

pub blends-requires : goal.blends-requires
blends-requires c = few (open_map c.args.self.now)

pub four_over-four-requires : goal.four_over-four-requires
four_over-four-requires c =
    let p = here (goal.at.four_over-four-requires c).Start in
    rw (c.blends.ensures, c.low_knot-x.ensures.0, c.low_knot-y.ensures.0) (few_blends (in_table (open_map c.args.self.now)), p.2)

pub weight_at-first-requires : goal.weight_at-first-requires
weight_at-first-requires c =
    let at = goal.at.weight_at-first-requires c in
    let l = all_listed _ _ _ _ _ (here at.Start) _ _ c.four_over-four.result (rw c.blends.ensures at c.four_over-four.ensures) in
    ((l _ (entry c.four_over-four.result 0 (record { blend = none; place = 0 }) (omega arith))).is_proper, omega arith, omega arith, omega arith, omega arith)

pub weight_at-second-requires : goal.weight_at-second-requires
weight_at-second-requires c =
    let at = goal.at.weight_at-second-requires c in
    let l = all_listed _ _ _ _ _ (here at.Start) _ _ c.four_over-four.result (rw c.blends.ensures at c.four_over-four.ensures) in
    ((l _ (entry c.four_over-four.result 1 (record { blend = none; place = 0 }) (omega arith))).is_proper, omega arith, omega arith, omega arith, omega arith)

pub weight_at-third-requires : goal.weight_at-third-requires
weight_at-third-requires c =
    let at = goal.at.weight_at-third-requires c in
    let l = all_listed _ _ _ _ _ (here at.Start) _ _ c.four_over-four.result (rw c.blends.ensures at c.four_over-four.ensures) in
    ((l _ (entry c.four_over-four.result 2 (record { blend = none; place = 0 }) (omega arith))).is_proper, omega arith, omega arith, omega arith, omega arith)

pub weight_at-fourth-requires : goal.weight_at-fourth-requires
weight_at-fourth-requires c =
    let at = goal.at.weight_at-fourth-requires c in
    let l = all_listed _ _ _ _ _ (here at.Start) _ _ c.four_over-four.result (rw c.blends.ensures at c.four_over-four.ensures) in
    ((l _ (entry c.four_over-four.result 3 (record { blend = none; place = 0 }) (omega arith))).is_proper, omega arith, omega arith, omega arith, omega arith)

pub returns : goal.returns
returns c =
    let a = c.args in
    let t = a.self.now in
    let f = c.four_over-four in
    let x = c.low_knot-x.ensures.0 in
    let y = c.low_knot-y.ensures.0 in
    let blends = ap (map (λ (e : Entry). e.blend)) (rw c.blends.ensures at f.ensures) ∙ entries_only _ (blends_of t.table) 0 in
    rw (c.weight_at-first.ensures.0, c.weight_at-second.ensures.0, c.weight_at-third.ensures.0, c.weight_at-fourth.ensures.0, x, y)
    (four_mapped (weight_over t.map.lines.w t.map.lines.h a.u a.v) _ f.result (omega arith) ∙
    ap (map (weight_over t.map.lines.w t.map.lines.h a.u a.v)) (rw (x, y) at blends))
