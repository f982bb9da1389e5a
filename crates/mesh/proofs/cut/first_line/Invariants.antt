-- What is left to search decides what there is below the middle, and where there is nothing, the whole answer.
use Rattle.std.proofs.Common.{◌-◌, ◌≡◌}
use Rattle.axis.specs.Nearest.{below, above, nearest}
use Rattle.axis.proofs.Nearest.{under}
use Rattle.mesh.proofs.Cutting.{over}
use Rattle.mesh.proofs.cut.first_line.Given as goal

abbrev pub invariant-loop-z : goal.invariant-loop-z
invariant-loop-z l = under (over l.steps l.b l.n) l.x ≡ below (over l.steps l.b l.n) l.x.l (l.z - 1 - l.x.l)

abbrev pub invariant-loop-z-2 : goal.invariant-loop-z-2
invariant-loop-z-2 l = nearest (over l.steps l.b l.n) l.fn.x ≡ above (over l.steps l.b l.n) l.z-end (l.z-end - l.z)
