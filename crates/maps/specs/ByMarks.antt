-- Document 02, L5: readings, weights, splits and sameness do not look at marks.
use Rattle.std.specs.Prelude.{◌≡◌, List, [], map}
use Rattle.maps.specs.declared.Map.{Map}
use Rattle.maps.specs.Sameness.{sameness}
use Rattle.maps.specs.Histories.{Call, Answer, number, placed, read, weighed, walked, told, Outcome, outcome, by_library, outcomes, ending}

-- a record without its marks, and an answer without the mark that the table call gives
abbrev pub without_marks : Map → Map
without_marks m = record { lines = m.lines; values = m.values; marks = [] }

abbrev pub unmarked : Answer → Answer
unmarked (placed p) = placed (record { number = p.number; blend = p.blend; value = p.value; mark = 0 })
unmarked (number n) = number n
unmarked (read r) = read r
unmarked (weighed w) = weighed w
unmarked (walked p) = walked p
unmarked (told s) = told s

-- the whole outcome of a call but for marks
abbrev pub but_marks : Outcome Map → Outcome Map
but_marks o = outcome (unmarked o.answer) (without_marks o.next)

-- Two records that differ only in marks get the same answers to every list of calls, and leave such records again.
pub record SameLists (one other : Map) : Type 0 where
  pub same_outcomes : (cs : List Call) → map but_marks (outcomes by_library one cs) ≡ map but_marks (outcomes by_library other cs)
  pub same_left : (cs : List Call) → without_marks (ending by_library one cs) ≡ without_marks (ending by_library other cs)

-- What `by_marks` shows of two good records that differ only in marks.
pub record ByMarks (one other : Map) : Type 0 where
  pub lists : SameLists one other
  -- Sameness does not tell them apart either, whichever of the two maps is asked about.
  pub same_told : (m : Map) → (sameness one m ≡ sameness other m) × (sameness m one ≡ sameness m other)
