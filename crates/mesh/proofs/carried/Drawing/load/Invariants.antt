-- The lines of the splits so far are drawn and linked.
use Rattle.std.proofs.Common.{◌≡◌}
use lib.ListN.{take}
use Rattle.mesh.specs.Lines.{mesh, splits_of}
use Rattle.mesh.specs.Carried.{Redrawn, LinesBy}
use Rattle.mesh.proofs.carried.Drawing.load.Given as goal

abbrev pub invariant-loop-s : goal.invariant-loop-s
invariant-loop-s g l = record {
  kept : Redrawn l.fn.self l.self;
  is_count : l.self.count ≡ l.s-index;
  lines : LinesBy (mesh l.lines.w l.lines.h (take l.s-index (splits_of l.lines))) l.self;
}
