-- Document 01, "When a call says no, in checking order": the number of each refusal. 0 is yes.
use Rattle.std.specs.Prelude.{ℕ}
use Rattle.mesh.specs.declared.refusal.Refusal.{Refusal}
use Rattle.mesh.specs.declared.refusal.Refusal.TheVariants.{Side, BadRecord, OutOfRange, Full, Shared, OpenEnd, CutsNothing, Unsound, NoAnchor, Outside, NoFile, ShortBuffer, NoPair}

abbrev pub number_of : Refusal → ℕ
number_of Side = 1
number_of BadRecord = 2
number_of OutOfRange = 3
number_of Full = 4
number_of Shared = 5
number_of OpenEnd = 6
number_of CutsNothing = 7
number_of Unsound = 8
number_of NoAnchor = 9
number_of Outside = 10
number_of NoFile = 11
number_of ShortBuffer = 12
number_of NoPair = 13
