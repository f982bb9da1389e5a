-- Document 01, "Values, readings, splits": readings and weights, in whole numbers.
use Rattle.std.specs.Prelude.{ℕ, ◌+◌, ◌-◌, ◌*◌, Bool, cond, ◌&&◌, List, [], ◌∷◌, map, leb, ltb, length, get_or}
use Rattle.mesh.specs.declared.Split.{Split}
use Rattle.mesh.specs.declared.Blend.{Blend}
use Rattle.axis.specs.Range.{only, beside}
use Rattle.axis.specs.Fraction.{Fraction}
use Rattle.axis.specs.Gap.{corner, gap, share}
use Rattle.mesh.specs.Blends.{anchored}
use Rattle.mesh.specs.Sound.{over_square}
use Rattle.mesh.specs.Splits.{with_line, live_of}
use Rattle.mesh.specs.Weight.{Term, value}
use Rattle.maps.specs.Plain.{Plain, blends}
use Rattle.maps.specs.Rounding.{rounded}

-- each blend with its value: the map as a sum of multiples of its blends
abbrev pub term : Blend → ℕ → Term
term B v = record { multiple = v; of = B }

abbrev pub paired : List Blend → List ℕ → List Term
paired bs vs = beside term bs vs

-- "The reading at a whole point is the sum of value times weight, exact,"
unfoldable pub sum_at : List Blend → List ℕ → ℕ → ℕ → Fraction
sum_at bs vs u v = value (paired bs vs) (u + 1) (v + 1) 1

-- "then rounded", by document 02, L6, to the nearest
unfoldable pub reading_at : List Blend → List ℕ → ℕ → ℕ → ℕ
reading_at bs vs u v = rounded (sum_at bs vs u v)

-- "A point lies outside the domain."
abbrev pub in_domain : Plain → ℕ → ℕ → Bool
in_domain P u v = leb u P.lines.w && leb v P.lines.h

-- "each with its weight as numerator and denominator, the denominator being the product of the two gaps, across and up, in which that square lies"
unfoldable pub weight_at : ℕ → ℕ → ℕ → ℕ → Blend → Fraction
weight_at x y u v B =
    record { num = share B.across x u * share B.up y v; den = gap B.across x * gap B.up y }

-- "the blends over the unit square whose low corner is the point", in table order
abbrev pub over : Plain → ℕ → ℕ → List Blend
over P u v = only (over_square (corner P.lines.w u + 1) (corner P.lines.h v + 1)) (blends P)

-- the table place, from 0, of the blend whose anchor is at knots (m, n); the table's length where no blend has it
abbrev pub place_of : List Blend → ℕ → ℕ → ℕ
place_of [] m n = 0
place_of (B ∷ bs) m n = let rest = place_of bs m n + 1 in cond (anchored m n B) 0 rest

-- of a number for each old blend, the one at a blend's anchor; another one where the anchor is new
abbrev pub kept_or : ℕ → List Blend → List ℕ → Blend → ℕ
kept_or new bs xs B = let i = place_of bs B.across.m B.up.m in cond (ltb i (length bs)) (get_or xs i 0) new

-- "Old anchors keep their values; each new one takes the old map's reading there."
unfoldable pub carried : List Blend → List ℕ → Blend → ℕ
carried bs vs B = kept_or (reading_at bs vs (B.across.m - 1) (B.up.m - 1)) bs vs B

-- document 02, L5: "A split keeps the marks of old anchors and gives new ones 0."
unfoldable pub kept_mark : List Blend → List ℕ → Blend → ℕ
kept_mark bs marks B = kept_or 0 bs marks B

-- the map with a split drawn
unfoldable pub drawn : Plain → Split → Plain
drawn P s =
    let lines = with_line P.lines s in
    record {
      lines = lines;
      values = map (carried (blends P) P.values) (live_of lines);
      marks = map (kept_mark (blends P) P.marks) (live_of lines);
    }
