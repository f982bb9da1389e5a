-- The line runs on from the knot that is come to as from the split's first.
use Rattle.std.proofs.Common.{◌≡◌, ◌+◌}
use Rattle.mesh.specs.Lines.{direction, start}
use Rattle.mesh.specs.Carried.{runs_from, mesh_by}
use Rattle.mesh.proofs.carried.Drawing.runs_from.Given as goal

abbrev pub invariant-loop-k : goal.invariant-loop-k
invariant-loop-k g l =
    let line = mesh_by l.self (direction l.s.direction) (l.s.position + 1) in
    runs_from line l.k ≡ runs_from line (start l.s)
