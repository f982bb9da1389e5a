-- The first i numbers stand there, so the others decide.
use Rattle.std.proofs.Common.{◌≡◌, ◌+◌, ◌*◌, drop}
use Rattle.axis.specs.Range.{joined}
use Rattle.files.specs.File.{word}
use Rattle.files.specs.Inner.{begins}
use Rattle.files.proofs.bytes.has_words.Given as goal

abbrev pub invariant-loop-i : goal.invariant-loop-i
invariant-loop-i l = begins (drop l.at l.bytes) (joined word l.words) ≡ begins (drop (l.at + 2 * l.i) l.bytes) (joined word (drop l.i l.words))
