-- The lines of the first i entries are put after the first line.
use Rattle.files.specs.Inner.{entries}
use Rattle.files.specs.Listing.{line}
use Rattle.files.proofs.TableLines.{TextRows}
use Rattle.files.proofs.listing.Text.table.Given as goal

abbrev pub invariant-loop-i : goal.invariant-loop-i
invariant-loop-i l = TextRows line (entries l.o) l.initial.self l.i l.self
