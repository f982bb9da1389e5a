-- Document 01: "If an answer is an enum, a definition states this paper's number and values for each of the enum's cases." What the code answers, as an outcome.
use Rattle.std.specs.Prelude.{ℕ, Bool, false, Result, Ok, Err, ⊤}
use Rattle.mesh.specs.declared.refusal.Refusal.{Refusal}
use Rattle.mesh.specs.Refusals.{number_of}
use Rattle.maps.specs.declared.Map.{Map}
use Rattle.maps.specs.declared.Placed.{Placed as Place}
use Rattle.maps.specs.declared.Weights.{Weights as Four}
use Rattle.maps.specs.declared.Pairs.{Pairs as Count}
use Rattle.maps.specs.declared.opened.Opened.{Opened}
use Rattle.maps.specs.Outcomes.{Changed, Placed, Reading, Weights, Pairs, Same}
use Rattle.maps.specs.Plain.{fresh_plain}
use Rattle.maps.specs.Record.{record_of}
use Rattle.maps.specs.Calls.{changed, no_place, no_reading, no_weights}
use Rattle.maps.specs.Pairs.{no_pairs}

-- a change of a map that the call was lent: it holds this map then
abbrev pub changed_to : Map → Result ⊤ Refusal → Changed
changed_to m (Ok _) = changed 0 m
changed_to m (Err e) = changed (number_of e) m

-- a map that is made: "The fresh 1 by 1 map" on a refusal
abbrev pub made : Result Map Refusal → Changed
made (Ok m) = changed 0 m
made (Err e) = changed (number_of e) (record_of (fresh_plain 1 1))

-- the same of a map that is made and opened, and of one that is handed in and opened
abbrev pub made_opened : Result Opened Refusal → Changed
made_opened (Ok o) = changed 0 o.map
made_opened (Err e) = changed (number_of e) (record_of (fresh_plain 1 1))

abbrev pub opened_from : Map → Result Opened Refusal → Changed
opened_from m (Ok o) = changed 0 o.map
opened_from m (Err e) = changed (number_of e) m

-- On a refusal "numbers handed back are zero", and sameness is "no".
abbrev pub placed : Result Place Refusal → Placed
placed (Ok p) = record { number = 0; blend = p.blend; value = p.value; mark = p.mark }
placed (Err e) = no_place (number_of e)

abbrev pub read_off : Result ℕ Refusal → Reading
read_off (Ok n) = record { number = 0; litres = n }
read_off (Err e) = no_reading (number_of e)

abbrev pub weighed : Result Four Refusal → Weights
weighed (Ok f) = record { number = 0; entries = f.entries }
weighed (Err e) = no_weights (number_of e)

abbrev pub told_pairs : Result Count Refusal → Pairs
told_pairs (Ok p) = record { number = 0; count = p.count; first = p.first }
told_pairs (Err e) = no_pairs (number_of e)

abbrev pub compared : Result Bool Refusal → Same
compared (Ok same) = record { number = 0; yes = same }
compared (Err e) = record { number = number_of e; yes = false }
