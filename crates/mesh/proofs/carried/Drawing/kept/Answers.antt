-- `mesh::carried::Drawing::kept` meets its contract.
use Rattle.std.proofs.Common.{arith}
use Rattle.mesh.proofs.Reading.{kept_starts}
use Rattle.mesh.proofs.carried.Drawing.kept.Goals as goal

pub returns : goal.returns
returns g c =
    let t = c.args.self.now in
    ((c.requires, omega arith, omega arith, omega arith), kept_starts t.w t.h t.places c.requires)
