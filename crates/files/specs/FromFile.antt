-- Document 01, "Histories": lists of calls on a map that was read from a file, and lists with writing and payloads among them.
use Rattle.std.specs.Prelude.{ℕ, ◌-◌, ◌≡◌, length, replicate}
use mathlib.Core.List.{List, [], ◌∷◌, ◌++◌, map, Memᴰ}
use Rattle.axis.specs.Range.{joined}
use Rattle.mesh.specs.Weight.{Term}
use Rattle.maps.specs.declared.Map.{Map}
use Rattle.maps.specs.Plain.{Plain, fresh_plain, blends}
use Rattle.maps.specs.Values.{paired}
use Rattle.maps.specs.Record.{record_of, plain}
use Rattle.maps.specs.Histories.{Call, set, exactly, Answer, number, Outcome, outcome, by_library, outcomes, ending}
use Rattle.maps.specs.Demand.{Start, left_by, DemandFrom, Demand3}
use Rattle.maps.specs.ByMarks.{without_marks, but_marks}
use Rattle.files.specs.Calls.{Written}
use Rattle.files.specs.File.{guessed}
use Rattle.files.specs.Calls.{written, after, read_file, payload_number, payload_at}

-- what a map that was read holds
abbrev pub read_plain : List ℕ → Plain
read_plain bytes = plain (read_file bytes).map

-- the call that sets the value of a table entry: "m, n, value"
abbrev pub setting : Term → Call
setting t = set (t.of.across.m - 1) (t.of.up.m - 1) t.multiple

-- the calls that a file stands for: its splits, "taken in order from the fresh map before the file's values are set"
abbrev pub file_calls : Plain → List Call
file_calls P = map exactly P.lines.splits ++ map setting (paired (blends P) P.values)

-- a map with every value marked as measured
abbrev pub measured : Plain → Plain
measured P = record { lines = P.lines; values = P.values; marks = replicate (length (blends P)) 1 }

-- every call of a list is accepted
abbrev pub AllAccepted : Map → List Call → Type 0
AllAccepted m cs = (o : Outcome Map) → Memᴰ o (outcomes by_library m cs) → o.answer ≡ number 0

-- "Reading a file makes a map of its own: demand 3 holds of lists that start from it too, with the splits of the file as their first accepted
-- ones, taken in order from the fresh map before the file's values are set."
pub record FromFile (bytes : List ℕ) : Type 0 where
  -- The map that is read is the record of what it holds, which is what the numbers at the file's places tell, its marks among them.
  pub is_record : (read_file bytes).map ≡ record_of (read_plain bytes)
  pub is_told : read_plain bytes ≡ guessed bytes
  -- The calls that the file stands for are all accepted, and on the fresh map of its sides they leave the map that is read but for its marks, which are the
  -- file's: they set every value, so every mark that they leave is 1;
  pub all_accepted : let P = read_plain bytes in AllAccepted (record_of (fresh_plain P.lines.w P.lines.h)) (file_calls P)
  pub left : let P = read_plain bytes in left_by (fresh_plain P.lines.w P.lines.h) (file_calls P) ≡ record_of (measured P)
  -- so a list on the map that is read is, but for marks, the rest of a history,
  pub outcomes_after : (cs : List Call) → let P = read_plain bytes in
      let start = record_of (fresh_plain P.lines.w P.lines.h) in
      map but_marks (outcomes by_library start (file_calls P ++ cs)) ≡
      map but_marks (outcomes by_library start (file_calls P)) ++ map but_marks (outcomes by_library (read_file bytes).map cs)
  pub left_after : (cs : List Call) → let P = read_plain bytes in
      without_marks (left_by (fresh_plain P.lines.w P.lines.h) (file_calls P ++ cs)) ≡ without_marks (ending by_library (read_file bytes).map cs)
  -- of which demand 3 holds, with document 02's clauses beside it; and so they do of the list on its own.
  pub whole : (cs : List Call) → let P = read_plain bytes in Demand3 P.lines.w P.lines.h (file_calls P ++ cs)
  pub own : (cs : List Call) → DemandFrom (read_plain bytes) cs
  -- A list may start from it as from a fresh map: what `own` says of two lists on equal sides holds
  -- where both start from files.
  pub is_start : Start (read_plain bytes)

-- "Writing and asking for a record's payload change no map, so they may come anywhere between these calls": a call of such a list, on the map,
-- a write of it to a lent buffer, or a payload at a byte place of lent bytes.
pub data AnyCall : Type 0 where
  on_map : Call → AnyCall
  writes : List ℕ → AnyCall
  payloads : List ℕ → ℕ → AnyCall

-- What it answers: a write, its number and length and what the buffer then holds; a payload, its number and that part of the bytes.
pub data AnyAnswer : Type 0 where
  answered : Answer → AnyAnswer
  wrote : Written → List ℕ → AnyAnswer
  part : ℕ → List ℕ → AnyAnswer

pub record AnyOutcome : Type 0 where
  pub answer : AnyAnswer
  pub next : Map

abbrev pub any_outcome : AnyAnswer → Map → AnyOutcome
any_outcome a m = record { answer = a; next = m }

-- The calls of the library: each step is the definition that the call's public contract cites.
abbrev pub by_any : Map → AnyCall → AnyOutcome
by_any m (on_map c) = let o = by_library m c in any_outcome (answered o.answer) o.next
by_any m (writes buffer) = any_outcome (wrote (written m buffer) (after m buffer)) m
by_any m (payloads bytes at) = any_outcome (part (payload_number bytes at) (payload_at bytes at)) m

abbrev pub any_outcomes : Map → List AnyCall → List AnyOutcome
any_outcomes m [] = []
any_outcomes m (c ∷ cs) = by_any m c ∷ any_outcomes (by_any m c).next cs

abbrev pub any_ending : Map → List AnyCall → Map
any_ending m [] = m
any_ending m (c ∷ cs) = any_ending (by_any m c).next cs

-- the history that such a list holds, and the outcomes of its calls
abbrev pub on_maps : List AnyCall → List Call
on_maps [] = []
on_maps (on_map c ∷ cs) = c ∷ on_maps cs
on_maps (writes buffer ∷ cs) = on_maps cs
on_maps (payloads bytes at ∷ cs) = on_maps cs

abbrev pub of_map : AnyAnswer → Map → List (Outcome Map)
of_map (answered a) m = outcome a m ∷ []
of_map (wrote w buffer) m = []
of_map (part n bytes) m = []

-- "demand 3 holds as before": the calls on the map answer and leave it as if the others were not there.
pub record AmongFiles (m : Map) (cs : List AnyCall) : Type 0 where
  pub same_outcomes : joined (λ (o : AnyOutcome). of_map o.answer o.next) (any_outcomes m cs) ≡ outcomes by_library m (on_maps cs)
  pub same_left : any_ending m cs ≡ ending by_library m (on_maps cs)
