-- Document 01, "Pits on paper": the table of a map file as text, which the table program prints.
use Rattle.std.specs.Prelude.{ℕ, zero, suc, ◌-◌, ◌+◌, ◌/◌, ◌%◌, cond, ◌&&◌, List, [], ◌∷◌, ◌++◌, ltb, eqb, length, get_or}
use Rattle.axis.specs.declared.Triple.{Triple}
use Rattle.axis.specs.Range.{joined}
use Rattle.maps.specs.Plain.{Plain, blends}
use Rattle.maps.specs.Record.{plain}
use Rattle.maps.specs.Values.{paired}
use Rattle.files.specs.Calls.{Written}
use Rattle.files.specs.File.{TableEntry, entries_of}
use Rattle.files.specs.Calls.{if_refused, short_of, answered, counted, read_file}

-- A number in base ten, the highest digit first. The first argument bounds how many digits may follow: no more than the number counts.
unfoldable pub digits_by : ℕ → ℕ → List ℕ
digits_by zero n = (48 + n % 10) ∷ []
digits_by (suc more) n = let front = digits_by more (n / 10) in cond (ltb n 10) [] front ++ ((48 + n % 10) ∷ [])

unfoldable pub digits : ℕ → List ℕ
digits n = digits_by n n

-- the coordinate of a knot: knots count from 0, coordinates from -1
unfoldable pub coordinate : ℕ → List ℕ
coordinate k = cond (eqb k 0) (45 ∷ 49 ∷ []) (digits (k - 1))

-- a coordinate and a blank; a number and the end of its line
abbrev pub spaced : ℕ → List ℕ
spaced k = coordinate k ++ (32 ∷ [])

abbrev pub number_line : ℕ → List ℕ
number_line n = digits n ++ (10 ∷ [])

-- "for each l m r b n t and the value"
unfoldable pub knots : Triple → List ℕ
knots t = spaced t.l ++ spaced t.m ++ spaced t.r

-- document 02, L5: "the table program prints it after the value"
unfoldable pub value_line : ℕ → ℕ → List ℕ
value_line value mark = digits value ++ (32 ∷ []) ++ number_line mark

unfoldable pub line : TableEntry → List ℕ
line e = knots e.term.of.across ++ knots e.term.of.up ++ value_line e.term.multiple e.mark

-- "It prints the number of blends", then a line for each
abbrev pub table_text : Plain → List ℕ
table_text P = number_line (length (blends P)) ++ joined line (entries_of (paired (blends P) P.values) P.marks)

-- a text with a 0 for each mark, which stands between a blank and the end of its line; the first
-- number is the byte before
abbrev pub marks_blanked : ℕ → List ℕ → List ℕ
marks_blanked before [] = []
marks_blanked before (x ∷ xs) = cond (eqb before 32 && eqb (get_or xs 0 0) 10) 0 x ∷ marks_blanked x xs

-- this many bytes hold every such text: `text_most`
abbrev pub largest_text : ℕ
largest_text = 65536

-- the text of the map that is read from bytes
abbrev pub text_of : List ℕ → List ℕ
text_of bytes = table_text (plain (read_file bytes).map)

-- The table of a map file as text: 11 where the bytes are no file, then 12 where the buffer is shorter than the text.
unfoldable pub text_number : List ℕ → List ℕ → ℕ
text_number bytes out = let n = (read_file bytes).number in if_refused n n (short_of (length (text_of bytes)) out)

-- the text in front of the buffer, with its length; all as it was, with 0, on a refusal
abbrev pub text_written : List ℕ → List ℕ → Written
text_written bytes out = counted (text_number bytes out) (text_of bytes)

abbrev pub text_after : List ℕ → List ℕ → List ℕ
text_after bytes out = answered (text_number bytes out) (text_of bytes) out
