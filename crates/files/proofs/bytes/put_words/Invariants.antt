-- The first i numbers are put.
use Rattle.files.specs.File.{word}
use Rattle.files.proofs.Putting.{Some}
use Rattle.files.proofs.bytes.put_words.Given as goal

abbrev pub invariant-loop-i : goal.invariant-loop-i
invariant-loop-i l = Some word 2 l.words l.initial.bytes l.at l.i l.bytes
