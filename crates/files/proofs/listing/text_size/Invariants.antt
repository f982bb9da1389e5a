-- The lines of the first i entries, after the first line, end at `size`.
use Rattle.files.specs.Inner.{entries}
use Rattle.files.specs.Listing.{line}
use Rattle.files.proofs.TableLines.{Sized}
use Rattle.files.proofs.listing.text_size.Given as goal

abbrev pub invariant-loop-i : goal.invariant-loop-i
invariant-loop-i l = Sized line (entries l.o) l.initial.size l.i l.size
