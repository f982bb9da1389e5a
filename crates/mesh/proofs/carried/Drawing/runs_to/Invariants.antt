-- The line runs on from the knot that is come to as from the split's last.
use Rattle.std.proofs.Common.{◌≡◌, ◌+◌, ◌-◌}
use Rattle.mesh.specs.Lines.{direction, end}
use Rattle.mesh.specs.Carried.{runs_to, mesh_by, run_by}
use Rattle.mesh.proofs.carried.Drawing.runs_to.Given as goal

abbrev pub invariant-loop-k : goal.invariant-loop-k
invariant-loop-k g l =
    let line = mesh_by l.self (direction l.s.direction) (l.s.position + 1) in
    let last = end (run_by l.self (direction l.s.direction)) l.s in
    runs_to line l.k (131 - l.k) ≡ runs_to line last (131 - last)
