-- What is left to test decides the whole answer.
use Rattle.std.proofs.Common.{◌≡◌, ◌+◌, ◌-◌}
use Rattle.axis.specs.Range.{some}
use Rattle.mesh.specs.Carried.{mesh_by}
use Rattle.mesh.proofs.carried.Drawing.some_on.Given as goal

abbrev pub invariant-loop-k : goal.invariant-loop-k
invariant-loop-k g l = some l.k (l.from + l.n - l.k) (mesh_by l.self l.d l.z) ≡ some l.from l.n (mesh_by l.self l.d l.z)
