-- The calls at the border to C, where a map crosses as its file: each is document 01's call on the map read from the bytes. c/pump.h tells the same.
use Rattle.std.specs.Prelude.{ℕ, ◌+◌, cond, List, [], ◌∷◌, ◌++◌, leb, ℤ, pos, negsuc, length, take}
use Rattle.axis.specs.Range.{joined}
use Rattle.mesh.specs.declared.Split.{Split}
use Rattle.maps.specs.declared.Map.{Map}
use Rattle.maps.specs.Outcomes.{Changed}
use Rattle.maps.specs.declared.Shape.{Shape}
use Rattle.maps.specs.Outcomes.{Placed}
use Rattle.maps.specs.declared.Weight.{Weight}
use Rattle.maps.specs.Outcomes.{Weights}
use Rattle.maps.specs.Outcomes.{Pairs}
use Rattle.maps.specs.Record.{plain}
use Rattle.maps.specs.Calls.{changed, fresh_map, set_value, table_place, reading, weights}
use Rattle.maps.specs.Sameness.{sameness}
use Rattle.files.specs.File.{word, file_of}
use Rattle.files.specs.Calls.{if_refused, short_of, answered, write_number, read_file, whole, payload_at}

-- the first refusal of three checks in their order; 0 where none applies
abbrev pub first_of : ℕ → ℕ → ℕ → ℕ
first_of a b c = if_refused a a (if_refused b b c)

-- A call that makes a new map: what was refused before, its own numbers, then 12. The new file stands in the buffer, or all is as it was.
unfoldable pub new_number : ℕ → Changed → List ℕ → ℕ
new_number refused next buffer = first_of refused next.number (write_number next.map buffer)

unfoldable pub new_bytes : ℕ → Changed → List ℕ → List ℕ
new_bytes refused next buffer = answered (new_number refused next buffer) (file_of (plain next.map)) buffer

unfoldable pub new_used : ℕ → Changed → List ℕ → ℕ → ℕ
new_used refused next buffer used = if_refused (new_number refused next buffer) used (length (file_of (plain next.map)))

-- pump_fresh: 1, then 12.
abbrev pub fresh_number : ℕ → ℕ → List ℕ → ℕ
fresh_number w h buffer = new_number 0 (fresh_map w h) buffer

abbrev pub fresh_bytes : ℕ → ℕ → List ℕ → List ℕ
fresh_bytes w h buffer = new_bytes 0 (fresh_map w h) buffer

abbrev pub fresh_used : ℕ → ℕ → List ℕ → ℕ → ℕ
fresh_used w h buffer used = new_used 0 (fresh_map w h) buffer used

-- the file in a lent buffer is its first `used` bytes; where fewer are lent there is none
abbrev pub lent : List ℕ → ℕ → List ℕ
lent buffer used = cond (leb used (length buffer)) (take used buffer) []

-- pump_set, pump_split: 11 where the buffer holds no file, then the call on its map.
abbrev pub change_number : (Map → Changed) → List ℕ → ℕ → ℕ
change_number call buffer used = let file = read_file (lent buffer used) in new_number file.number (call file.map) buffer

abbrev pub change_bytes : (Map → Changed) → List ℕ → ℕ → List ℕ
change_bytes call buffer used = let file = read_file (lent buffer used) in new_bytes file.number (call file.map) buffer

abbrev pub change_used : (Map → Changed) → List ℕ → ℕ → ℕ
change_used call buffer used = let file = read_file (lent buffer used) in new_used file.number (call file.map) buffer used

-- pump_set: a value comes as wide as every other argument. One that is no 16-bit number gets 3;
-- then the call on the map, 9.
abbrev pub set_wide : Map → ℕ → ℕ → ℕ → Changed
set_wide old m n value = cond (leb value 65535) (set_value old m n value) (changed 3 old)

-- a split by its direction, position, from and to
abbrev pub split_of : ℕ → ℕ → ℕ → ℕ → Split
split_of direction position from to = record { direction = direction; position = position; from = from; to = to }

-- a coordinate as a 16-bit number: −1 as 65,535; no other is negative
abbrev pub signed : ℤ → ℕ
signed (pos n) = n
signed (negsuc n) = 65535

abbrev pub shape_numbers : Shape → List ℕ
shape_numbers s = signed s.l ∷ signed s.m ∷ signed s.r ∷ signed s.b ∷ signed s.n ∷ signed s.t ∷ []

-- pump_place: 11, 9, then 12. l, m, r, b, n, t, the value and its mark, as 16-bit numbers.
abbrev pub place_bytes : Placed → List ℕ
place_bytes p = joined word (shape_numbers p.blend ++ p.value ∷ p.mark ∷ [])

unfoldable pub place_number : List ℕ → ℕ → List ℕ → ℕ
place_number file i out = first_of (read_file file).number (table_place (read_file file).map i).number (short_of 16 out)

unfoldable pub place_after : List ℕ → ℕ → List ℕ → List ℕ
place_after file i out = answered (place_number file i out) (place_bytes (table_place (read_file file).map i)) out

-- pump_weights: 11, 10, then 12. For each of the four l, m, r, b, n, t, numerator and denominator.
abbrev pub weight_bytes : Weight → List ℕ
weight_bytes e = joined word (shape_numbers e.blend ++ e.numerator ∷ e.denominator ∷ [])

abbrev pub weights_bytes : Weights → List ℕ
weights_bytes w = joined weight_bytes w.entries

unfoldable pub weights_number : List ℕ → ℕ → ℕ → List ℕ → ℕ
weights_number file u v out = first_of (read_file file).number (weights (read_file file).map u v).number (short_of 64 out)

unfoldable pub weights_after : List ℕ → ℕ → ℕ → List ℕ → List ℕ
weights_after file u v out = answered (weights_number file u v out) (weights_bytes (weights (read_file file).map u v)) out

-- pump_reading: 11, then 10; a refusal gives 0 litres.
unfoldable pub reading_number : List ℕ → ℕ → ℕ → ℕ
reading_number file u v = first_of (read_file file).number (reading (read_file file).map u v).number 0

unfoldable pub reading_litres : List ℕ → ℕ → ℕ → ℕ
reading_litres file u v = if_refused (reading_number file u v) 0 (reading (read_file file).map u v).litres

-- pump_row, pump_column: 11, then the call on the map, 10 or 13; a refusal gives no pairs, and 0 for the first.
abbrev pub pairs_number : (Map → Pairs) → List ℕ → ℕ
pairs_number call file = first_of (read_file file).number (call (read_file file).map).number 0

abbrev pub pairs_count : (Map → Pairs) → List ℕ → ℕ
pairs_count call file = if_refused (pairs_number call file) 0 (call (read_file file).map).count

abbrev pub pairs_first : (Map → Pairs) → List ℕ → ℕ
pairs_first call file = if_refused (pairs_number call file) 0 (call (read_file file).map).first

-- pump_same: 11 where either is no file, and then "no", which is 0.
unfoldable pub same_number : List ℕ → List ℕ → ℕ
same_number one two =
    first_of (read_file one).number (read_file two).number (sameness (read_file one).map (read_file two).map).number

unfoldable pub same_yes : List ℕ → List ℕ → ℕ
same_yes one two = if_refused (same_number one two) 0 (cond (sameness (read_file one).map (read_file two).map).yes 1 0)

-- pump_check: whether bytes are a map file.
abbrev pub check_number : List ℕ → ℕ
check_number file = (read_file file).number

-- pump_payload: a record's payload, as the byte place where that part of the bytes begins and how many they are.
unfoldable pub payload_from : List ℕ → ℕ → ℕ
payload_from bytes at = cond (whole bytes at) (at + 4) 0

abbrev pub payload_count : List ℕ → ℕ → ℕ
payload_count bytes at = length (payload_at bytes at)

-- pump_table: `text_number`, `text_written` and `text_after` of the files' specs/Listing.antt.
