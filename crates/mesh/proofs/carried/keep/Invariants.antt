-- What is kept, with the blends that are left, is the whole answer.
use Rattle.std.proofs.Common.{◌≡◌}
use lib.ListN.{drop}
use Rattle.mesh.specs.Bytes.{keep_all}
use Rattle.mesh.proofs.carried.keep.Given as goal

abbrev pub invariant-loop-x : goal.invariant-loop-x
invariant-loop-x l = keep_all l.places (drop l.x-index l.blends) ≡ keep_all l.initial.places l.blends
