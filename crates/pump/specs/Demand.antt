-- Demand 3 at the border to C: one claim about a whole list of `pump_` calls on one buffer.
use Rattle.std.specs.Prelude.{ℕ, ◌≤◌, ◌≡◌, cond, ◌&&◌, length, take, drop}
use mathlib.Core.List.{List, [], ◌∷◌, ◌++◌, map, Memᴰ}
use Rattle.mesh.specs.Lines.{allowed_side}
use Rattle.maps.specs.Plain.{Plain, fresh_plain}
use Rattle.maps.specs.Record.{record_of}
use Rattle.maps.specs.Calls.{changed, fresh_map}
use Rattle.maps.specs.Histories as Maps
use Rattle.maps.specs.Histories.{Call, by_machine, ending}
use Rattle.maps.specs.Demand.{DemandFrom}
use Rattle.files.specs.File.{file_of}
use Rattle.files.specs.Calls.{if_refused, short_of, read_file, payload_number}
use Rattle.files.specs.FromFile.{read_plain, FromFile}
use Rattle.pump.specs.Border.{lent, payload_from, payload_count}
use Rattle.pump.specs.Histories.{PumpCall, fresh, set, split, place, reads, weighs, along_row, along_column, same_as, same_to, checks, payloads, lists, PumpAnswer, says, PumpOutcome, outcome, Buffer, by_border, Desk, desk, by_rules, outcomes, left, lent_by, shown}

-- The history of the map in the buffer: what the map held that it begins with, and the accepted changes since then. It begins with the last accepted
-- `pump_fresh` or, where there was none, with the map of the file that was in the buffer.
pub record Past : Type 0 where
  pub first : Plain
  pub calls : List Call

abbrev pub past : Plain → List Call → Past
past P calls = record { first = P; calls = calls }

pub data Begins : Plain → Type 0 where
  with_fresh : (w h : ℕ) → fresh_map w h ≡ changed 0 (record_of (fresh_plain w h)) → Begins (fresh_plain w h)
  with_file : (bytes : List ℕ) → FromFile bytes → Begins (read_plain bytes)

abbrev pub with_change : Past → Call → Past
with_change t c = past t.first (t.calls ++ c ∷ [])

abbrev pub past_after : Past → PumpCall → Past
past_after t (fresh w h) = past (fresh_plain w h) []
past_after t (set m n v) = with_change t (Maps.set m n v)
past_after t (split s allowance) = with_change t (Maps.split s allowance)
past_after t (place i out) = t
past_after t (reads u v) = t
past_after t (weighs u v out) = t
past_after t (along_row v wanted) = t
past_after t (along_column u wanted) = t
past_after t (same_as other) = t
past_after t (same_to other) = t
past_after t checks = t
past_after t (payloads at) = t
past_after t (lists out) = t

abbrev pub past_by : Past → Desk → List PumpCall → Past
past_by t d [] = t
past_by t d (c ∷ cs) = let o = by_rules d c in past_by (if_refused o.answer.number t (past_after t c)) o.next cs

-- The demand on a list of `pump_` calls on one buffer, refused ones and fresh maps among them: t is the history of the map that is in the buffer before
-- it, d what the machine then holds.
pub record BorderFrom (t : Past) (d : Desk) (cs : List PumpCall) : Type 0 where
  -- At every call the number, every number and byte handed back, the buffer and its length in use are those of the plain machine: the file of what
  -- it holds stands in front, and bytes after it are as they were before the call. So it is after the list.
  pub same_outcomes : outcomes by_border (lent_by d) cs ≡ map shown (outcomes by_rules d cs)
  pub same_left : left by_border (lent_by d) cs ≡ lent_by (left by_rules d cs)
  pub begins : let e = left by_rules d cs in take (length e.file) e.bytes ≡ e.file
  pub is_file : let e = left by_rules d cs in read_file e.file ≡ changed 0 (record_of e.holds)
  -- Bytes after every file that the buffer held meanwhile are as they were before the list.
  pub untouched : (k : ℕ) → ((o : PumpOutcome Desk) → Memᴰ o (outcomes by_rules d cs) → length o.next.file ≤ k) →
      drop k (left by_rules d cs).bytes ≡ drop k d.bytes
  -- The map in the buffer is the one that its history leaves, marks too, and demand 3 holds of that history.
  pub start : Begins (past_by t d cs).first
  pub history : let p = past_by t d cs in (left by_rules d cs).holds ≡ ending by_machine p.first p.calls
  pub demand : let p = past_by t d cs in DemandFrom p.first p.calls

-- what the machine holds after an accepted `pump_fresh`
abbrev pub begun : ℕ → ℕ → Buffer → Desk
begun w h start = let file = file_of (fresh_plain w h) in desk (fresh_plain w h) file (file ++ drop (length file) start.bytes)

-- From `pump_fresh`, where it is accepted.
pub record BorderDemand (w h : ℕ) (start : Buffer) (cs : List PumpCall) : Type 0 where
  pub made : by_border start (fresh w h) ≡ outcome (says 0 [] []) (lent_by (begun w h start))
  pub holds : BorderFrom (past (fresh_plain w h) []) (begun w h start) cs

-- From a buffer that holds a map's file. `FromFile` tells what the splits and values of the file leave as calls, and demand 3 of them and what follows.
pub record BorderFile (start : Buffer) (cs : List PumpCall) : Type 0 where
  pub from_file : FromFile (lent start.bytes start.used)
  pub is_lent : let file = lent start.bytes start.used in lent_by (desk (read_plain file) file start.bytes) ≡ start
  pub holds : let file = lent start.bytes start.used in
      BorderFrom (past (read_plain file) []) (desk (read_plain file) file start.bytes) cs

-- the number of reading the bytes in use of a buffer: 0 where they are a map's file, else 11
abbrev pub read_number : Buffer → ℕ
read_number b = (read_file (lent b.bytes b.used)).number

-- The rules for a buffer that holds no file: `pump_fresh` goes by its sides and its room,
-- `pump_payload` by the bytes as they stand, and every other call is refused with 11, with zeros
-- for its numbers and the bytes lent for an answer as they came.
abbrev pub bare_answer : Buffer → PumpCall → PumpAnswer
bare_answer b (fresh w h) =
    says (cond (allowed_side w && allowed_side h) (short_of (length (file_of (fresh_plain w h))) b.bytes) 1) [] []
bare_answer b (set m n v) = says 11 [] []
bare_answer b (split s allowance) = says 11 [] []
bare_answer b (place i out) = says 11 [] out
bare_answer b (reads u v) = says 11 (0 ∷ []) []
bare_answer b (weighs u v out) = says 11 [] out
bare_answer b (along_row v wanted) = says 11 (0 ∷ 0 ∷ []) []
bare_answer b (along_column u wanted) = says 11 (0 ∷ 0 ∷ []) []
bare_answer b (same_as other) = says 11 (0 ∷ []) []
bare_answer b (same_to other) = says 11 (0 ∷ []) []
bare_answer b checks = says 11 [] []
bare_answer b (payloads at) =
    let bytes = lent b.bytes b.used in
    says (payload_number bytes at) (payload_from bytes at ∷ payload_count bytes at ∷ []) []
bare_answer b (lists out) = says 11 (0 ∷ []) out

-- A list in which no `pump_fresh` is accepted, on a buffer that holds no file: each call answers
-- by these rules and leaves the buffer as it was.
pub record BorderBare (start : Buffer) (cs : List PumpCall) : Type 0 where
  pub no_fresh : (w h : ℕ) → Memᴰ (fresh w h) cs → (bare_answer start (fresh w h)).number ≡ 0 → ⊥
  pub same_outcomes : outcomes by_border start cs ≡ map (λ c. outcome (bare_answer start c) start) cs
  pub same_left : left by_border start cs ≡ start

-- Any list of `pump_` calls on any buffer: it holds a file, or it holds none and no map is made, or
-- it holds none until the first `pump_fresh` that is accepted.
pub data BorderAny (start : Buffer) : List PumpCall → Type 0 where
  holds_file : {cs : List PumpCall} → read_number start ≡ 0 → BorderFile start cs → BorderAny start cs
  holds_none : {cs : List PumpCall} → read_number start ≡ 11 → BorderBare start cs → BorderAny start cs
  until_fresh : {before : List PumpCall} {w h : ℕ} {after : List PumpCall} → read_number start ≡ 11 →
      BorderBare start before → BorderDemand w h start after → BorderAny start (before ++ fresh w h ∷ after)
