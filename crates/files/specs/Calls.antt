-- Document 01, "Map file" and refusals 11 and 12: each call's whole outcome.
use Rattle.std.specs.Prelude.{ℕ, ◌+◌, ◌-◌, Bool, cond, ◌&&◌, not, List, [], ◌++◌, leb, ltb, eqb, length, take, drop}
use Rattle.axis.specs.Range.{agree}
use Rattle.maps.specs.declared.Map.{Map}
use Rattle.maps.specs.Outcomes.{Changed}
use Rattle.maps.specs.Plain.{fresh_plain}
use Rattle.maps.specs.Record.{record_of, plain, good}
use Rattle.maps.specs.Calls.{changed}
use Rattle.files.specs.File.{file_in, file_of, is_old, guessed, word_at}

-- of two things, the one that stays after a refusal, and the one that an accepted call gives
abbrev pub if_refused {ℓ} : {A : Type ℓ} → ℕ → A → A → A
if_refused number stays given = cond (leb 1 number) stays given

-- 12 where a buffer is shorter than what is to be written
abbrev pub short_of : ℕ → List ℕ → ℕ
short_of size buffer = cond (ltb (length buffer) size) 12 0

-- "Bytes after a written file stay." A refusal "touches no lent byte": lent bytes with an answer put in front, or as they were.
abbrev pub answered : ℕ → List ℕ → List ℕ → List ℕ
answered number answer bytes = if_refused number bytes (answer ++ drop (length answer) bytes)

-- a number, and how many bytes were written
pub record Written : Type 0 where
  pub number : ℕ
  pub length : ℕ

-- the number, and how many bytes the answer has; 0 on a refusal
abbrev pub counted : ℕ → List ℕ → Written
counted number answer = record { number = number; length = if_refused number 0 (length answer) }

-- Write: 2 for a record that is not good, 12 where the buffer is shorter than the file.
unfoldable pub write_number : Map → List ℕ → ℕ
write_number m buffer = cond (not (good m)) 2 (short_of (length (file_of (plain m))) buffer)

abbrev pub written : Map → List ℕ → Written
written m buffer = counted (write_number m buffer) (file_of (plain m))

abbrev pub after : Map → List ℕ → List ℕ
after m buffer = answered (write_number m buffer) (file_of (plain m)) buffer

-- Read: the map whose file, or old file, the bytes are, with 0; else 11 with the fresh 1 by 1 map.
unfoldable pub read_file : List ℕ → Changed
read_file bytes =
    let m = record_of (guessed bytes) in
    cond (good m && agree eqb bytes (file_in (is_old bytes) (plain m))) (changed 0 m) (changed 11 (record_of (fresh_plain 1 1)))

-- whether there is a "whole record with length 2 or more at the place"
unfoldable pub whole : List ℕ → ℕ → Bool
whole bytes at =
    leb (at + 2) (length bytes) && leb 2 (word_at bytes at) && leb (at + 2 + word_at bytes at) (length bytes)

-- A record's payload at a byte place: 11, and an empty part, where no whole record is there.
abbrev pub payload_number : List ℕ → ℕ → ℕ
payload_number bytes at = cond (whole bytes at) 0 11

abbrev pub payload_at : List ℕ → ℕ → List ℕ
payload_at bytes at = cond (whole bytes at) (take (word_at bytes at - 2) (drop (at + 4) bytes)) []
