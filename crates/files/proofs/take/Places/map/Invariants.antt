-- The arrays hold the first i splits, and the first j values and marks, and nothing else.
use Rattle.std.proofs.Common.{◌+◌, ◌*◌, cond, get_or}
use Rattle.maps.specs.Record.{no_split}
use Rattle.files.specs.File.{word_at, split_at}
use Rattle.files.proofs.Taking.{Filled}
use Rattle.files.proofs.take.Places.map.Given as goal

abbrev pub invariant-loop-i : goal.invariant-loop-i
invariant-loop-i l = Filled (λ i. split_at l.self.bytes.now (8 + 12 * i)) no_split 60 l.i l.splits

abbrev pub invariant-loop-j : goal.invariant-loop-j
invariant-loop-j l =
    record {
      values : Filled (λ j. word_at l.self.bytes.now (l.start + l.size * j + 8)) 0 1024 l.j l.values;
      marks : Filled (λ j. cond l.self.old 0 (get_or l.self.bytes.now (l.start + l.size * j + 10) 0)) 0 1024 l.j l.marks;
    }
