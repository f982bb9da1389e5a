-- What the maps' own functions work on. Only contracts of functions that the crate keeps to itself cite this file.
use Rattle.std.specs.Prelude.{ℕ, ◌+◌, ◌-◌, ◌*◌, ◌^◌, ◌≤◌, ◌<◌, ◌≡◌, Bool, true, false, cond, eqb, length, get_or, take, set, replicate, Option, Some, None}
use mathlib.Core.List.{List, [], ◌∷◌, ◌++◌, map, Memᴰ}
use Rattle.axis.specs.Limits.{largest_side, most_blends}
use Rattle.axis.specs.Fraction.{Fraction}
use Rattle.axis.specs.Gap.{corner}
use Rattle.axis.specs.Range.{all, only, Ordered}
use Rattle.mesh.specs.declared.Direction.{Direction}
use Rattle.mesh.specs.declared.Direction.TheVariants.{Upright as upright, Level as level}
use Rattle.mesh.specs.declared.Split.{Split}
use Rattle.mesh.specs.declared.Lines.{Lines}
use Rattle.mesh.specs.declared.Table.{Table}
use Rattle.mesh.specs.declared.Blend.{Blend}
use Rattle.mesh.specs.Sound.{sound, proper, over_square, table, blends_of}
use Rattle.mesh.specs.Blends.{place}
use Rattle.maps.specs.declared.Map.{Map}
use Rattle.maps.specs.Outcomes.{Pairs}
use Rattle.maps.specs.declared.Pairs.{Pairs as Noted}
use Rattle.maps.specs.declared.Weight.{Weight}
use Rattle.maps.specs.declared.carry.Carried.{Carried}
use Rattle.maps.specs.declared.values.Sum.{Sum}
use Rattle.maps.specs.declared.values.Entry.{Entry}
use Rattle.maps.specs.Plain.{Plain, blends}
use Rattle.maps.specs.Values.{carried, kept_mark, weight_at}
use Rattle.maps.specs.Calls.{shape}
use Rattle.maps.specs.Pairs.{no_pairs, row_pairs, column_pairs}

-- the lines with one split more
abbrev pub with_split : Lines → Split → Lines
with_split L s = record { w = L.w; h = L.h; count = L.count + 1; splits = set L.splits L.count s }

-- the values and marks after a split, in arrays
abbrev pub in_array : (Blend → ℕ) → List Blend → List ℕ
in_array number bs = map number bs ++ replicate (most_blends - length bs) 0

unfoldable pub carried_arrays : List Blend → List ℕ → List ℕ → List Blend → Carried
carried_arrays old vs ms new = record { values = in_array (carried old vs) new; marks = in_array (kept_mark old ms) new }

-- two lists of blends in table order, where the anchors of the first are among those of the second
pub record Grown (old new : List Blend) : Type 0 where
  pub rising : Ordered (λ (x y : Blend). place x < place y) old
  pub rising_new : Ordered (λ (x y : Blend). place x < place y) new
  pub among : (B : Blend) → Memᴰ B old → (C : Blend) × Memᴰ C new × (place C ≡ place B)

-- a table of the live blends of some sound map of these sides, and an array that begins with their values
pub record InTable (w h : ℕ) (t : Table) (values : List ℕ) : Type 0 where
  pub of : Plain
  pub across : of.lines.w ≡ w
  pub up : of.lines.h ≡ h
  pub sides : (1 ≤ w) × (w ≤ largest_side) × (1 ≤ h) × (h ≤ largest_side)
  pub is_sound : sound w h (blends of) ≡ true
  pub is_table : t ≡ table (blends of)
  pub is_short : length (blends of) ≤ most_blends
  pub are_values : of.values ≡ take (length (blends of)) values

-- a table of proper blends of which four lie over the unit square at a point of the domain
abbrev pub AtPoint : ℕ → ℕ → Table → ℕ → ℕ → Type 0
AtPoint w h t u v =
    (t.count ≤ most_blends) × (all (proper w h) (blends_of t) ≡ true) × (length (only (over_square (corner w u + 1) (corner h v + 1)) (blends_of t)) ≡ 4) ×
    (1 ≤ w) × (w ≤ largest_side) × (1 ≤ h) × (h ≤ largest_side) × (u ≤ w) × (v ≤ h)

-- the blends of a list that pass a test, each with its place, counted from i
abbrev pub entries_over : (Blend → Bool) → List Blend → ℕ → List Entry
entries_over test [] i = []
entries_over test (B ∷ bs) i =
    let rest = entries_over test bs (i + 1) in
    cond (test B) (record { blend = B; place = i } ∷ rest) rest

-- an entry that can be weighed: a proper blend, at a place of the array of values
pub record Listed (e : Entry) : Type 0 where
  pub inside : e.place < most_blends
  pub is_proper : proper largest_side largest_side e.blend ≡ true

abbrev pub AllListed : List Entry → Type 0
AllListed es = (e : Entry) → Memᴰ e es → Listed e

-- a blend with its weight at a corner of a square, as `weight_over` has it at a point
abbrev pub weight_of_blend : ℕ → ℕ → ℕ → ℕ → Blend → Weight
weight_of_blend x y u v B =
    let f = weight_at x y u v B in
    record { blend = shape B; numerator = f.num; denominator = f.den }

-- a weight of numbers small enough to be added up
pub record Light (w : Weight) : Type 0 where
  pub positive : 0 < w.denominator
  pub low : w.denominator ≤ 16641
  pub most : w.numerator ≤ 16641

-- a weight times a value
abbrev pub product : Weight → ℕ → Fraction
product w c = record { num = w.numerator * c; den = w.denominator }

-- a value times that weight
abbrev pub portion : ℕ → ℕ → ℕ → ℕ → Blend → ℕ → Fraction
portion x y u v B c = let f = weight_at x y u v B in record { num = f.num * c; den = f.den }

-- the values of some entries times their weights
abbrev pub portions : ℕ → ℕ → ℕ → ℕ → List ℕ → List Entry → List Fraction
portions x y u v values = map (λ (e : Entry). portion x y u v e.blend (get_or values e.place 0))

-- a sum of n such numbers, with the bounds that keep its parts below 2 to the 64
abbrev pub fraction_of : Sum → Fraction
fraction_of s = record { num = s.whole * s.bottom + s.top; den = s.bottom }

pub record SumOf (n : ℕ) (s : Sum) : Type 0 where
  pub positive : 0 < s.bottom
  pub low : s.bottom ≤ 16641 ^ n
  pub rest : s.top ≤ n * s.bottom
  pub most : s.whole ≤ n * (16641 * 65535)

-- pairs that a walk noted, as the call gives them: "13, no such pair"
abbrev pub counted : Option Noted → Pairs
counted (Some p) = record { number = 0; count = p.count; first = p.first }
counted None = no_pairs 13

-- pairs with one more, whose first point is k
abbrev pub with_pair : Pairs → ℕ → Pairs
with_pair p k = record { number = 0; count = p.count + 1; first = cond (eqb p.count 0) k p.first }

-- a row runs level, a column upright
abbrev pub is_level : Direction → Bool
is_level level = true
is_level upright = false

-- the pairs along a row, or up a column
abbrev pub along_pairs : Map → Bool → ℕ → ℕ → Pairs
along_pairs m row at wanted = cond row (row_pairs m at wanted) (column_pairs m at wanted)
