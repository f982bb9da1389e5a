-- Document 01, "Histories", at the border to C: lists of `pump_` calls on one buffer, and the plain machine beside it.
use Rattle.std.specs.Prelude.{ℕ, Bool, cond, ◌&&◌, List, [], ◌∷◌, ◌++◌, leb, ltb, length, drop}
use Rattle.mesh.specs.declared.Split.{Split}
use Rattle.mesh.specs.Lines.{allowed_side}
use Rattle.maps.specs.declared.Map.{Map}
use Rattle.maps.specs.Outcomes.{Changed}
use Rattle.maps.specs.Outcomes.{Pairs}
use Rattle.maps.specs.Plain.{Plain, fresh_plain}
use Rattle.maps.specs.Record.{plain}
use Rattle.maps.specs.Calls.{split_within, place_on, reading_on, weights_on}
use Rattle.maps.specs.Pairs.{row_on, row_pairs, column_on, column_pairs}
use Rattle.maps.specs.Sameness.{same_plain}
use Rattle.maps.specs.Histories as Maps
use Rattle.maps.specs.Histories.{Call, number_of, by_machine}
use Rattle.files.specs.File.{file_of}
use Rattle.files.specs.Calls.{if_refused, short_of, answered, read_file, payload_number}
use Rattle.files.specs.Listing.{table_text, text_number, text_written, text_after}
use Rattle.pump.specs.Border.{lent, fresh_number, fresh_bytes, fresh_used, change_number, change_bytes, change_used, set_wide, place_number, place_bytes, place_after, weights_number, weights_bytes, weights_after, reading_number, reading_litres, pairs_number, pairs_count, pairs_first, same_number, same_yes, check_number, payload_from, payload_count}

-- A call on the map in the buffer. What it is lent beside the buffer stands with its arguments: bytes for an answer, another map's file.
pub data PumpCall : Type 0 where
  fresh : ℕ → ℕ → PumpCall
  set : ℕ → ℕ → ℕ → PumpCall
  split : Split → ℕ → PumpCall
  place : ℕ → List ℕ → PumpCall
  reads : ℕ → ℕ → PumpCall
  weighs : ℕ → ℕ → List ℕ → PumpCall
  along_row along_column : ℕ → ℕ → PumpCall
  same_as same_to : List ℕ → PumpCall
  checks : PumpCall
  payloads : ℕ → PumpCall
  lists : List ℕ → PumpCall

-- What it answers: its number, the numbers handed back, and the bytes lent for an answer as they then are.
pub record PumpAnswer : Type 0 where
  pub number : ℕ
  pub numbers : List ℕ
  pub out : List ℕ

abbrev pub says : ℕ → List ℕ → List ℕ → PumpAnswer
says n numbers out = record { number = n; numbers = numbers; out = out }

-- a call's answer, and the buffer, or what the machine holds, for the next call
pub record PumpOutcome (State : Type 0) : Type 0 where
  pub answer : PumpAnswer
  pub next : State

abbrev pub outcome : {State : Type 0} → PumpAnswer → State → PumpOutcome State
outcome a s = record { answer = a; next = s }

-- The lent buffer: its bytes, and how many of them are the map's file.
pub record Buffer : Type 0 where
  pub bytes : List ℕ
  pub used : ℕ

abbrev pub buffer : List ℕ → ℕ → Buffer
buffer bytes used = record { bytes = bytes; used = used }

-- The calls of the library: each step is the definition that the call's public contract cites. A question is asked of the first `used` bytes,
-- sameness with the map in the buffer first (`same_as`) or second (`same_to`).
abbrev pub changing : (Map → Changed) → Buffer → PumpOutcome Buffer
changing call b =
    outcome (says (change_number call b.bytes b.used) [] []) (buffer (change_bytes call b.bytes b.used) (change_used call b.bytes b.used))

abbrev pub asking : Buffer → (List ℕ → PumpAnswer) → PumpOutcome Buffer
asking b question = outcome (question (lent b.bytes b.used)) b

abbrev pub asking_pairs : Buffer → (Map → Pairs) → PumpOutcome Buffer
asking_pairs b call = asking b (λ file. says (pairs_number call file) (pairs_count call file ∷ pairs_first call file ∷ []) [])

abbrev pub by_border : Buffer → PumpCall → PumpOutcome Buffer
by_border b (fresh w h) =
    outcome (says (fresh_number w h b.bytes) [] []) (buffer (fresh_bytes w h b.bytes) (fresh_used w h b.bytes b.used))
by_border b (set m n v) = changing (λ old. set_wide old m n v) b
by_border b (split s allowance) = changing (λ old. split_within old s allowance) b
by_border b (place i out) = asking b (λ file. says (place_number file i out) [] (place_after file i out))
by_border b (reads u v) = asking b (λ file. says (reading_number file u v) (reading_litres file u v ∷ []) [])
by_border b (weighs u v out) = asking b (λ file. says (weights_number file u v out) [] (weights_after file u v out))
by_border b (along_row v wanted) = asking_pairs b (λ m. row_pairs m v wanted)
by_border b (along_column u wanted) = asking_pairs b (λ m. column_pairs m u wanted)
by_border b (same_as other) = asking b (λ file. says (same_number file other) (same_yes file other ∷ []) [])
by_border b (same_to other) = asking b (λ file. says (same_number other file) (same_yes other file ∷ []) [])
by_border b checks = asking b (λ file. says (check_number file) [] [])
by_border b (payloads at) = asking b (λ file. says (payload_number file at) (payload_from file at ∷ payload_count file at ∷ []) [])
by_border b (lists out) = asking b (λ file. says (text_number file out) ((text_written file out).length ∷ []) (text_after file out))

-- The plain machine at the border: it holds what the record of a map holds, the file of that map, and what the buffer's bytes are to be, the file in front.
-- It refuses or answers by the rules, on what it holds. An old file stays until a change is accepted.
pub record Desk : Type 0 where
  pub holds : Plain
  pub file : List ℕ
  pub bytes : List ℕ

abbrev pub desk : Plain → List ℕ → List ℕ → Desk
desk P file bytes = record { holds = P; file = file; bytes = bytes }

abbrev pub refuses : Desk → ℕ → PumpOutcome Desk
refuses d n = outcome (says n [] []) d

-- A new map: 12 where the buffer is shorter than its file, else the file in front, and "Bytes after a written file stay."
abbrev pub puts : Desk → Plain → PumpOutcome Desk
puts d Q =
    cond (ltb (length d.bytes) (length (file_of Q))) (refuses d 12)
    (outcome (says 0 [] []) (desk Q (file_of Q) (file_of Q ++ drop (length (file_of Q)) d.bytes)))

-- A change of the map, as the plain machine of maps makes it; its refusals come before 12.
abbrev pub changes : Desk → Call → PumpOutcome Desk
changes d c =
    let o = by_machine d.holds c in
    let n = number_of o.answer in
    if_refused n (refuses d n) (puts d o.next)

-- An answer of so many bytes: the call's refusal, then 12 where fewer are lent for it.
abbrev pub tells : Desk → ℕ → List ℕ → ℕ → List ℕ → PumpOutcome Desk
tells d refused bytes size out =
    let n = if_refused refused refused (short_of size out) in outcome (says n [] (answered n bytes out)) d

-- Sameness with a map that is read: 11 where its bytes are no file, and then "no", which is 0.
abbrev pub compares : Desk → ℕ → Bool → PumpOutcome Desk
compares d n agree = outcome (says n (if_refused n 0 (cond agree 1 0) ∷ []) []) d

-- The pairs along a row or up a column: their number, how many they are and the first.
abbrev pub tells_pairs : Desk → Pairs → PumpOutcome Desk
tells_pairs d p = outcome (says p.number (p.count ∷ p.first ∷ []) []) d

abbrev pub by_rules : Desk → PumpCall → PumpOutcome Desk
by_rules d (fresh w h) = cond (allowed_side w && allowed_side h) (puts d (fresh_plain w h)) (refuses d 1)
by_rules d (set m n v) = cond (leb v 65535) (changes d (Maps.set m n v)) (refuses d 3)
by_rules d (split s allowance) = changes d (Maps.split s allowance)
by_rules d (place i out) = let p = place_on d.holds i in tells d p.number (place_bytes p) 16 out
by_rules d (reads u v) = let r = reading_on d.holds u v in outcome (says r.number (r.litres ∷ []) []) d
by_rules d (weighs u v out) = let w = weights_on d.holds u v in tells d w.number (weights_bytes w) 64 out
by_rules d (along_row v wanted) = tells_pairs d (row_on d.holds v wanted)
by_rules d (along_column u wanted) = tells_pairs d (column_on d.holds u wanted)
by_rules d (same_as other) = let f = read_file other in compares d f.number (same_plain d.holds (plain f.map))
by_rules d (same_to other) = let f = read_file other in compares d f.number (same_plain (plain f.map) d.holds)
by_rules d checks = outcome (says 0 [] []) d
by_rules d (payloads at) = outcome (says (payload_number d.file at) (payload_from d.file at ∷ payload_count d.file at ∷ []) []) d
by_rules d (lists out) =
    let text = table_text d.holds in
    let n = short_of (length text) out in
    outcome (says n (if_refused n 0 (length text) ∷ []) (answered n text out)) d

-- a list of calls: the outcomes in order, and what is left in the end
abbrev pub outcomes : {State : Type 0} → (State → PumpCall → PumpOutcome State) → State → List PumpCall → List (PumpOutcome State)
outcomes step s [] = []
outcomes step s (c ∷ cs) = step s c ∷ outcomes step (step s c).next cs

abbrev pub left : {State : Type 0} → (State → PumpCall → PumpOutcome State) → State → List PumpCall → State
left step s [] = s
left step s (c ∷ cs) = left step (step s c).next cs

-- the buffer of what the machine holds; and an outcome of the machine with it
abbrev pub lent_by : Desk → Buffer
lent_by d = buffer d.bytes (length d.file)

abbrev pub shown : PumpOutcome Desk → PumpOutcome Buffer
shown o = outcome o.answer (lent_by o.next)
