-- What is left to test decides the whole answer.
use Rattle.std.proofs.Common.{◌-◌, ◌≡◌}
use Rattle.axis.specs.Range.{every}
use Rattle.mesh.specs.Bytes.{step_on}
use Rattle.mesh.proofs.steps.covers.Given as goal

abbrev pub invariant-loop-k : goal.invariant-loop-k
invariant-loop-k l = every l.k (l.k-end - l.k) (step_on l.steps l.z) ≡ every l.fn.b l.fn.n (step_on l.steps l.z)
