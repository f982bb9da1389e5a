-- `mesh::carried::Drawing::on` meets its contract: a byte of the direction's lines.
use Rattle.std.proofs.Common.{sym, arith}
use Rattle.mesh.specs.Bytes.{bytes_mesh}
use Rattle.mesh.proofs.Bytes.{step_byte}
use Rattle.mesh.proofs.carried.Drawing.on.Goals as goal

pub returns-in-Upright : goal.returns-in-Upright
unfolding bytes_mesh
returns-in-Upright g c = rw c.in-Upright.is (sym (step_byte c.args.self.now.uprights c.args.z c.args.k (omega arith) (omega arith)))

pub returns-in-Level : goal.returns-in-Level
unfolding bytes_mesh
returns-in-Level g c = rw c.in-Level.is (sym (step_byte c.args.self.now.levels c.args.z c.args.k (omega arith) (omega arith)))
