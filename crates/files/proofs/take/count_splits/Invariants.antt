-- So many splits stand in a row, and as many as stand after them are all.
use Rattle.files.proofs.Taking.{Counted}
use Rattle.files.proofs.take.count_splits.Given as goal

abbrev pub invariant-loop-n : goal.invariant-loop-n
invariant-loop-n l = Counted l.bytes l.n
