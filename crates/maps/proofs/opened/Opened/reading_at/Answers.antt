-- `maps::opened::Opened::reading_at` meets its contract: the reading by the four blends that are found is the sum over all blends.
use Rattle.std.proofs.Common.{arith, ◌∙◌}
use Rattle.maps.specs.Inner.{AtPoint}
use Rattle.maps.proofs.OldTable.{few_blends, old_point, old_long}
use Rattle.maps.proofs.OverSquare.{all_listed}
use Rattle.maps.proofs.Adding.{four_read}
use Rattle.maps.proofs.Changing.{open_map, few, in_table}
use Rattle.maps.proofs.opened.Opened.reading_at.Goals as goal
use Rattle.maps.proofs.opened.Opened.reading_at.Goals.{Start}

here : (c : Start) → AtPoint c.args.self.now.map.lines.w c.args.self.now.map.lines.h c.args.self.now.table c.args.u c.args.v
here c = old_point (in_table (open_map c.args.self.now)) _ _ c.requires.0 c.requires.1

pub low_knot-x-requires : goal.low_knot-x-requires
low_knot-x-requires c = let p = here (goal.at.low_knot-x-requires c).Start in (p.3, p.4, p.7)

pub low_knot-y-requires : goal.low_knot-y-requires
low_knot-y-requires c = let p = here (goal.at.low_knot-y-requires c).Start in (p.5, p.6, p.8)

pub overflow_add-u : goal.overflow_add-u
overflow_add-u c = let p = here (goal.at.overflow_add-u c).Start in omega (arith, p.4, p.7)

pub overflow_add-v : goal.overflow_add-v
overflow_add-v c = let p = here (goal.at.overflow_add-v c).Start in omega (arith, p.6, p.8)

pub blends-requires : goal.blends-requires
blends-requires c = few (open_map c.args.self.now)

pub four_over-four-requires : goal.four_over-four-requires
four_over-four-requires c =
    let p = here (goal.at.four_over-four-requires c).Start in
    rw (c.blends.ensures, c.low_knot-x.ensures.0, c.low_knot-y.ensures.0) (few_blends (in_table (open_map c.args.self.now)), p.2)

pub reading_over-requires : goal.reading_over-requires
reading_over-requires c = (
  omega arith,
  all_listed _ _ _ _ _ (here (goal.at.reading_over-requires c).Start) _ _ c.four_over-four.result (rw c.blends.ensures at c.four_over-four.ensures),
  omega arith,
  omega arith,
  omega arith,
  omega arith,
)

pub returns : goal.returns
returns c =
    let at = goal.at.returns c in
    let self = c.args.self.now in
    c.reading_over.ensures ∙
    four_read _ _ self.table self.map.values _ _ (here at.Start) (old_long (in_table (open_map self))) (omega arith) _ _
    c.low_knot-x.ensures.0 c.low_knot-y.ensures.0 c.four_over-four.result (rw c.blends.ensures at c.four_over-four.ensures)
