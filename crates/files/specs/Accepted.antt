-- Document 01, "Map file" and refusal 11, with document 02, L5: which bytes are accepted.
use Rattle.std.specs.Prelude.{ℕ, ◌≡◌, ◌⊎◌, true, List, [], ◌∷◌, ◌++◌}
use Rattle.axis.specs.Range.{all}
use Rattle.maps.specs.declared.Map.{Map}
use Rattle.maps.specs.Plain.{fresh_plain}
use Rattle.maps.specs.Record.{is_zero, record_of, Held, plain, good}
use Rattle.maps.specs.Calls.{changed}
use Rattle.files.specs.File.{entry, TableEntry, place_and_value, old_entry, file_with, file_of}
use Rattle.files.specs.Calls.{read_file}

-- the bytes are the file of a good map
pub record IsFile (bytes : List ℕ) (m : Map) : Type 0 where
  pub held : Held m
  pub is_good : good m ≡ true
  pub is_file : bytes ≡ file_of (plain m)

-- the bytes are the old file, with kind 3 for each table entry, of a good map whose marks are all 0
pub record IsOldFile (bytes : List ℕ) (m : Map) : Type 0 where
  pub held : Held m
  pub is_good : good m ≡ true
  pub no_marks : all is_zero m.marks ≡ true
  pub is_file : bytes ≡ file_with old_entry (plain m)

-- a table entry in kind 5, with the mark 0
abbrev pub unmarked_entry : TableEntry → List ℕ
unmarked_entry e = entry 5 (place_and_value e.term ++ 0 ∷ [])

-- Bytes are accepted exactly where they are the file or the old file of a good map, and then that map is read: "any other mix is 11".
-- Else the number is 11, no good map has this file, and the map is the fresh 1 by 1 map.
pub record Accepts (bytes : List ℕ) : Type 0 where
  pub accepted : (m : Map) → read_file bytes ≡ changed 0 m → IsFile bytes m ⊎ IsOldFile bytes m
  pub is_read : (m : Map) → IsFile bytes m ⊎ IsOldFile bytes m → read_file bytes ≡ changed 0 m
  -- "an old file gives the same map with kind 5 records"
  pub rewritten : (m : Map) → IsOldFile bytes m → file_of (plain m) ≡ file_with unmarked_entry (plain m)
  pub number : ((read_file bytes).number ≡ 0) ⊎ ((read_file bytes).number ≡ 11)
  pub no_file : (read_file bytes).number ≡ 11 → (m : Map) → IsFile bytes m ⊎ IsOldFile bytes m → ⊥
  pub fresh : (read_file bytes).number ≡ 11 → (read_file bytes).map ≡ record_of (fresh_plain 1 1)
