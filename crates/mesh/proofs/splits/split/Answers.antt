-- `mesh::splits::split` meets its contract: an allowance out of range is refused, and the tables have the rows of both sides.
use Rattle.std.proofs.Common.{arith}
use Rattle.mesh.proofs.Ranges.{side_says}
use Rattle.mesh.proofs.Accepted.{replays_says}
use Rattle.mesh.proofs.Replaying.{split_beyond}
use Rattle.mesh.proofs.splits.split.Goals as goal

pub returns-then-most-allowance : goal.returns-then-most-allowance
returns-then-most-allowance c =
    let a = c.args in split_beyond a.lines.now a.table.now a.s a.allowance (omega arith)

pub split_in-requires-else-lines-le-SMALL_SIDE : goal.split_in-requires-else-lines-le-SMALL_SIDE
split_in-requires-else-lines-le-SMALL_SIDE c =
    let L = c.args.lines.now in
    let in_range = replays_says L c.requires.accepted? in
    let a = side_says L.w in_range.0 in
    let b = side_says L.h in_range.1 in
    (omega arith, c.requires, omega arith, omega arith, omega arith)
