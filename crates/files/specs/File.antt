-- Document 01, "Map file": the bytes of a map.
use Rattle.std.specs.Prelude.{ℕ, zero, suc, ◌+◌, ◌-◌, ◌*◌, ◌/◌, ◌%◌, Bool, true, false, cond, ◌&&◌, List, [], ◌∷◌, ◌++◌, leb, eqb, length, get_or, take, drop, replicate}
use Rattle.axis.specs.Limits.{most_splits, most_blends}
use Rattle.mesh.specs.declared.Split.{Split}
use Rattle.axis.specs.Range.{joined, each, beside}
use Rattle.mesh.specs.Lines.{layout}
use Rattle.mesh.specs.Weight.{Term}
use Rattle.maps.specs.Plain.{Plain, blends}
use Rattle.maps.specs.Values.{paired}

-- "16-bit numbers, little-endian"
abbrev pub word : ℕ → List ℕ
word n = n % 256 ∷ n / 256 % 256 ∷ []

-- "Each file record is a 16-bit length (bytes after it), a 16-bit kind, and its payload of 16-bit numbers"
abbrev pub entry : ℕ → List ℕ → List ℕ
entry kind payload = word (2 + 2 * length payload) ++ word kind ++ joined word payload

-- the bytes of a record of each kind, its length and kind among them, of a value by whether the file is an old one; of the head and the tail together; and
-- of the largest file, 13,020
abbrev pub head_size : ℕ
head_size = 8

abbrev pub split_size : ℕ
split_size = 12

abbrev pub value_size : Bool → ℕ
value_size old = cond old 10 12

abbrev pub ends_size : ℕ
ends_size = head_size + 4

abbrev pub largest_file : ℕ
largest_file = ends_size + split_size * most_splits + value_size false * most_blends

-- "Kind 1: W, H. Kind 2: direction, position, from, to."
abbrev pub head : ℕ → ℕ → List ℕ
head w h = entry 1 (w ∷ h ∷ [])

abbrev pub split_entry : Split → List ℕ
split_entry s = entry 2 (s.direction ∷ s.position ∷ s.from ∷ s.to ∷ [])

-- a table entry: a blend with its value, and the value's mark
pub record TableEntry : Type 0 where
  pub term : Term
  pub mark : ℕ

abbrev pub entries_of : List Term → List ℕ → List TableEntry
entries_of ts marks = beside (λ t k. record { term = t; mark = k }) ts marks

-- "Kind 3: m, n, value."
abbrev pub place_and_value : Term → List ℕ
place_and_value t = (t.of.across.m - 1) ∷ (t.of.up.m - 1) ∷ t.multiple ∷ []

abbrev pub old_entry : TableEntry → List ℕ
old_entry e = entry 3 (place_and_value e.term)

-- document 02, L5: "kind 5 (m, n, value, mark) in place of kind 3"
abbrev pub marked_entry : TableEntry → List ℕ
marked_entry e = entry 5 (place_and_value e.term ++ e.mark ∷ [])

abbrev pub value_entry : Bool → TableEntry → List ℕ
value_entry old e = cond old (old_entry e) (marked_entry e)

-- "Kind 4: no payload."
abbrev pub tail : List ℕ
tail = entry 4 []

-- "A file is one kind 1, the splits in order, one kind 3 for each table entry in order, one kind 4, and no more." An old file is that; from document 02, L5
-- on there is one kind 5 for each table entry.
unfoldable pub file_with : (TableEntry → List ℕ) → Plain → List ℕ
file_with value P =
    head P.lines.w P.lines.h ++ joined split_entry P.lines.splits ++
    joined value (entries_of (paired (blends P) P.values) P.marks) ++ tail

abbrev pub file_in : Bool → Plain → List ℕ
file_in old P = file_with (value_entry old) P

-- the file that the writer gives, and the one that it gave before there were marks
abbrev pub file_of : Plain → List ℕ
file_of P = file_in false P

abbrev pub old_file_of : Plain → List ℕ
old_file_of P = file_in true P

-- bytes with others put over them, from a byte place on
abbrev pub put : List ℕ → ℕ → List ℕ → List ℕ
put bytes at new = take at bytes ++ new ++ drop (at + length new) bytes

-- 16-bit numbers put in a row, where they fit
unfoldable pub put_words : List ℕ → ℕ → List ℕ → List ℕ
put_words bytes at words = cond (leb (at + 2 * length words) (length bytes)) (put bytes at (joined word words)) bytes

-- the number at a byte place
abbrev pub word_at : List ℕ → ℕ → ℕ
word_at bytes at = get_or bytes at 0 + 256 * get_or bytes (at + 1) 0

-- how many records of kind 2 stand in a row from a byte place on, `most` at the most
unfoldable pub split_count : List ℕ → ℕ → ℕ → ℕ
split_count bytes at zero = 0
split_count bytes at (suc most) =
    let more = suc (split_count bytes (at + split_size) most) in
    cond (leb (at + split_size) (length bytes) && eqb (word_at bytes (at + 2)) 2) more 0

abbrev pub split_at : List ℕ → ℕ → Split
split_at bytes at =
    record {
      direction = word_at bytes (at + 4);
      position = word_at bytes (at + 6);
      from = word_at bytes (at + 8);
      to = word_at bytes (at + 10);
    }

-- whether they are an old file, if they are one: the first record after the splits is of kind 3
unfoldable pub is_old : List ℕ → Bool
is_old bytes = eqb (word_at bytes (head_size + split_size * split_count bytes head_size most_splits + 2)) 3

-- the map that the numbers at a file's places make, if the bytes are a file: its sides, its splits, and the values that follow, with their marks; of a mark
-- the low byte is taken, and an old file has none: "marks 0"
unfoldable pub guessed : List ℕ → Plain
guessed bytes =
    let s = split_count bytes head_size most_splits in
    let at = head_size + split_size * s in
    let size = value_size (is_old bytes) in
    let k = (length bytes - ends_size - split_size * s) / size in
    record {
      lines = layout (word_at bytes 4) (word_at bytes 6) (each 0 s (λ i. split_at bytes (head_size + split_size * i) ∷ []));
      values = each 0 k (λ i. word_at bytes (at + size * i + 8) ∷ []);
      marks = cond (is_old bytes) (replicate k 0) (each 0 k (λ i. get_or bytes (at + size * i + 10) 0 ∷ []));
    }
