-- Nothing is found as long as the loops go on, and neither loop passes the line between the nearest good ends.
use Rattle.std.proofs.Common.{◌≡◌, ◌≤◌}
use Rattle.std.specs.Prelude.{None}
use Rattle.mesh.specs.Lengthening.{steps_of}
use Rattle.mesh.specs.Carried.{SearchesBy}
use Rattle.mesh.proofs.Looking.{nearest, Ahead}
use Rattle.mesh.proofs.carried.Drawing.least_line.Given as goal

abbrev pub invariant-loop-from : goal.invariant-loop-from
invariant-loop-from g l = record {
  none : l.found ≡ None;
  ahead : (i : SearchesBy l.self l.notes l.s) → Ahead (nearest i) l.length l.from;
}

abbrev pub invariant-search : goal.invariant-search
invariant-search g l = record {
  none : l.found ≡ None;
  ahead : (i : SearchesBy l.self l.notes l.s) → l.length ≤ steps_of (nearest i);
}
