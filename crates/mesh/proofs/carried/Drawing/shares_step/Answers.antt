-- `mesh::carried::Drawing::shares_step` meets its contract.
use Rattle.std.proofs.Common.{◌∙◌}
use Rattle.mesh.specs.Lines.{shares}
use Rattle.mesh.proofs.carried.Drawing.shares_step.Goals as goal

pub returns : goal.returns
unfolding shares
returns g c = c.some_on.ensures ∙ rw c.way.ensures
