-- `mesh::Table::of` meets its contract: the blends stand at the front of unused places.
use Rattle.mesh.proofs.BlendTables.{listed}
use Rattle.mesh.proofs.Table.of.Goals as goal

pub returns : goal.returns
returns c = listed c.args.blends.now c.copy_from_slice.new.self c.copy_from_slice.ensures.after
