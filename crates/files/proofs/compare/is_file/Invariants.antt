-- The bytes agree with the file as far as the first splits, and from there as far as the first i values, so the rest decides.
use Rattle.std.proofs.Common.{ℕ, Bool, List, ◌++◌, drop}
use Rattle.axis.specs.Range.{joined}
use Rattle.mesh.specs.declared.Split.{Split}
use Rattle.maps.specs.declared.opened.Opened.{Opened}
use Rattle.files.specs.File.{head, split_entry, value_entry, tail}
use Rattle.files.specs.Inner.{entries}
use Rattle.files.proofs.Comparing.{Left}
use Rattle.files.proofs.compare.is_file.Given as goal

-- the values and the end of a file from a place of the table on, and its splits before them
abbrev pub valued : Bool → Opened → ℕ → List ℕ
valued old o j = joined (value_entry old) (drop j (entries o)) ++ tail

abbrev pub behind : Bool → Opened → List Split → ℕ → List ℕ
behind old o splits i = joined split_entry (drop i splits) ++ valued old o 0

abbrev pub invariant-loop-split : goal.invariant-loop-split
invariant-loop-split l =
    let from = behind l.old l.o l.splits in Left l.bytes 0 (head l.o.map.lines.w l.o.map.lines.h ++ from 0) l.at (from l.split-index)

abbrev pub invariant-loop-i : goal.invariant-loop-i
invariant-loop-i l = Left l.bytes l.initial.at (valued l.old l.o 0) l.at (valued l.old l.o l.i)
