-- Document 01, "Map file", and document 02, L5: the kinds of a file's records, by the code's own names.
use Rattle.std.specs.Prelude.{ℕ}
use Rattle.files.specs.declared.bytes.Kind.{Kind}
use Rattle.files.specs.declared.bytes.Kind.TheVariants.{Head, Split, OldValue, Tail, Value}

abbrev pub kind_number : Kind → ℕ
kind_number Head = 1
kind_number Split = 2
kind_number OldValue = 3
kind_number Tail = 4
kind_number Value = 5
