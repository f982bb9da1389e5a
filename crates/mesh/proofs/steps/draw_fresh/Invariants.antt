-- The lines of the first positions are drawn.
use Rattle.std.proofs.Common.{◌+◌, length}
use lib.ListN.{take}
use Rattle.mesh.proofs.Drawing.{AllDrawn}
use Rattle.mesh.proofs.steps.draw_fresh.Given as goal

abbrev pub invariant-loop-z : goal.invariant-loop-z
invariant-loop-z l = AllDrawn l.steps (length l.initial.steps) (take l.z-index l.z-items) (l.run + 2)
