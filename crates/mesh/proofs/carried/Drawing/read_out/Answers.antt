-- `mesh::carried::Drawing::read_out` meets its contract: one blend after the other.
use Rattle.mesh.proofs.Reading.{read_more, read_room, read_all}
use Rattle.mesh.proofs.carried.Drawing.read_out.Goals as goal

pub loop-x-preserved : goal.loop-x-preserved
loop-x-preserved g c = let here = rw c.in-Some.ensures.steps.0 at c.loop-x.invariant in read_more (read_room c.requires.1 here) here

pub returns : goal.returns
returns g c = read_all (rw c.in-None.ensures.steps.0.0 at c.loop-x.invariant)
