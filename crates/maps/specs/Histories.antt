-- Document 01, "Histories": lists of calls on one map, and the plain machine.
use Rattle.std.specs.Prelude.{ℕ, ◌+◌, ◌%◌, false, cond, List, [], ◌∷◌, ltb, eqb, length}
use Rattle.mesh.specs.declared.Split.{Split}
use Rattle.mesh.specs.Splits.{asked}
use Rattle.mesh.specs.Lengthening.{chosen}
use Rattle.maps.specs.declared.Map.{Map}
use Rattle.maps.specs.Outcomes.{Placed}
use Rattle.maps.specs.Outcomes.{Reading}
use Rattle.maps.specs.Outcomes.{Weights}
use Rattle.maps.specs.Outcomes.{Pairs}
use Rattle.maps.specs.Outcomes.{Same}
use Rattle.maps.specs.Plain.{Plain, blends}
use Rattle.maps.specs.Values.{place_of, drawn}
use Rattle.maps.specs.Record.{plain, good}
use Rattle.maps.specs.Calls.{set_plain, set_value, place_on, table_place, reading_on, reading, weights_on, weights, split_within}
use Rattle.maps.specs.Pairs.{row_on, row_pairs, column_on, column_pairs}
use Rattle.maps.specs.Sameness.{same_plain, sameness}

-- A call on a map. A value is a 16-bit number: what is left of the given one by 65,536. A split comes with its allowance (document 02, L7). `along_row` and
-- `along_column` are document 02's, L2: a row or a column, and a wanted flow.
pub data Call : Type 0 where
  set : ℕ → ℕ → ℕ → Call
  split : Split → ℕ → Call
  place : ℕ → Call
  reads weighs : ℕ → ℕ → Call
  along_row along_column : ℕ → ℕ → Call
  same_as : Map → Call

-- "Records and files are still built with allowance 0."
abbrev pub exactly : Split → Call
exactly s = split s 0

-- What a call answers, beside the map that it hands back or leaves: its number and every other part.
pub data Answer : Type 0 where
  number : ℕ → Answer
  placed : Placed → Answer
  read : Reading → Answer
  weighed : Weights → Answer
  walked : Pairs → Answer
  told : Same → Answer

-- the number of an answer
abbrev pub number_of : Answer → ℕ
number_of (number n) = n
number_of (placed p) = p.number
number_of (read r) = r.number
number_of (weighed w) = w.number
number_of (walked p) = p.number
number_of (told s) = s.number

-- a call's answer, and the map, or what it holds, for the next call
pub record Outcome (State : Type 0) : Type 0 where
  pub answer : Answer
  pub next : State

abbrev pub outcome : {State : Type 0} → Answer → State → Outcome State
outcome a s = record { answer = a; next = s }

-- The calls of the library: each step is the definition that the call's public contract cites.
abbrev pub by_library : Map → Call → Outcome Map
by_library m (set i j v) = let r = set_value m i j (v % 65536) in outcome (number r.number) r.map
by_library m (split s allowance) = let r = split_within m s allowance in outcome (number r.number) r.map
by_library m (place i) = outcome (placed (table_place m i)) m
by_library m (reads u v) = outcome (read (reading m u v)) m
by_library m (weighs u v) = outcome (weighed (weights m u v)) m
by_library m (along_row v wanted) = outcome (walked (row_pairs m v wanted)) m
by_library m (along_column u wanted) = outcome (walked (column_pairs m u wanted)) m
by_library m (same_as other) = outcome (told (sameness m other)) m

-- The plain machine: it holds what the record of a map holds, and refuses or answers by the rules, its live blends always cut anew.
abbrev pub first_drawn : Plain → List Split → Outcome Plain
first_drawn P [] = outcome (number 8) P
first_drawn P (c ∷ cs) = outcome (number 0) (drawn P c)

abbrev pub by_machine : Plain → Call → Outcome Plain
by_machine P (set i j v) =
    cond (ltb (place_of (blends P) (i + 1) (j + 1)) (length (blends P))) (outcome (number 0) (set_plain P i j (v % 65536)))
    (outcome (number 9) P)
by_machine P (split s allowance) =
    let n = asked P.lines s allowance in cond (eqb n 0) (first_drawn P (chosen P.lines s allowance)) (outcome (number n) P)
by_machine P (place i) = outcome (placed (place_on P i)) P
by_machine P (reads u v) = outcome (read (reading_on P u v)) P
by_machine P (weighs u v) = outcome (weighed (weights_on P u v)) P
by_machine P (along_row v wanted) = outcome (walked (row_on P v wanted)) P
by_machine P (along_column u wanted) = outcome (walked (column_on P u wanted)) P
by_machine P (same_as other) =
    cond (good other) (outcome (told (record { number = 0; yes = same_plain P (plain other) })) P)
    (outcome (told (record { number = 2; yes = false })) P)

-- a history: each call gets what the last one handed back or left; the outcomes in order, and what is left in the end
abbrev pub outcomes : {State : Type 0} → (State → Call → Outcome State) → State → List Call → List (Outcome State)
outcomes step s [] = []
outcomes step s (c ∷ cs) = step s c ∷ outcomes step (step s c).next cs

abbrev pub ending : {State : Type 0} → (State → Call → Outcome State) → State → List Call → State
ending step s [] = s
ending step s (c ∷ cs) = ending step (step s c).next cs
