-- The first i entries are put.
use Rattle.files.proofs.Putting.{Some}
use Rattle.pump.specs.Border.{weight_bytes}
use Rattle.pump.proofs.questions.put_weights.Given as goal

abbrev pub invariant-loop-i : goal.invariant-loop-i
invariant-loop-i l = Some weight_bytes 16 l.entries l.initial.out 0 l.i l.out
