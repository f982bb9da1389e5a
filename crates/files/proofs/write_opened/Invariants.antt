-- The entries of the first i splits, and of the first j values, are put.
use Rattle.files.specs.File.{split_entry, marked_entry}
use Rattle.files.specs.Inner.{entries}
use Rattle.files.proofs.Putting.{Some}
use Rattle.files.proofs.write_opened.Given as goal

abbrev pub invariant-loop-i : goal.invariant-loop-i
invariant-loop-i l = Some split_entry 12 l.splits l.initial.buffer 8 l.i l.buffer

abbrev pub invariant-loop-j : goal.invariant-loop-j
invariant-loop-j l = Some marked_entry 12 (entries l.o) l.initial.buffer l.at l.j l.buffer
