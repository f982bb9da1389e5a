-- `mesh::steps::draw` meets its contract: the bytes of the run are set.
use Rattle.std.proofs.Common.{rules, ◌≡◌, ◌-◌}
use lib.ListN.{replicate}
use Rattle.mesh.specs.Blends.{at}
use Rattle.mesh.proofs.Drawing.{run_drawn}
use Rattle.mesh.proofs.steps.draw.Goals as goal

pub returns : goal.returns
returns c =
    let a = c.args in
    let run : c.fill.new.self ≡ replicate (at a.z a.to - at a.z a.from) 1 = search (rules) in
    run_drawn a.steps.now c.fill.new.self a.z a.from a.to c.requires.0 c.requires.1 c.requires.2 c.requires.3 run
