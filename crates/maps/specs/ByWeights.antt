-- Document 01, "Values, readings, splits": "The reading at a whole point is the sum of value times weight, exact, then rounded", by the answers of the calls.
use Rattle.std.specs.Prelude.{ℕ, ◌*◌, ◌≤◌, ◌<◌, ◌≡◌, cond, ltb, length}
use mathlib.Core.List.{List, [], ◌∷◌, map, Memᴰ}
use Rattle.axis.specs.Fraction.{Fraction, total}
use Rattle.axis.specs.Range.{greatest, smallest}
use Rattle.maps.specs.declared.Map.{Map}
use Rattle.maps.specs.declared.Weight.{Weight}
use Rattle.maps.specs.Rounding.{rounded, Nearest}
use Rattle.maps.specs.Calls.{table_place, reading, weights}

-- a weight as a fraction; values times weights, one by one
abbrev pub fraction : Weight → Fraction
fraction e = record { num = e.numerator; den = e.denominator }

abbrev pub products : List ℕ → List Weight → List Fraction
products [] es = []
products (v ∷ vs) [] = []
products (v ∷ vs) (e ∷ es) = record { num = e.numerator * v; den = e.denominator } ∷ products vs es

-- the values whose blends weigh more than 0
abbrev pub weighing : List ℕ → List Weight → List ℕ
weighing [] es = []
weighing (v ∷ vs) [] = []
weighing (v ∷ vs) (e ∷ es) = let rest = weighing vs es in cond (ltb 0 e.numerator) (v ∷ rest) rest

-- the table call's values at some places
abbrev pub values_at : Map → List ℕ → List ℕ
values_at m places = map (λ i. (table_place m i).value) places

-- of the blends at these places of the table: the sum of their values times their weights at a
-- point, and the values of those that weigh more than 0 there
abbrev pub sum_over : Map → ℕ → ℕ → List ℕ → Fraction
sum_over m u v places = total (products (values_at m places) (weights m u v).entries)

abbrev pub values_over : Map → ℕ → ℕ → List ℕ → List ℕ
values_over m u v places = weighing (values_at m places) (weights m u v).entries

-- The weights call is accepted, its four blends stand at these places of the table, and their
-- weights add up to exactly one.
pub record ByWeights (m : Map) (u v : ℕ) : Type 0 where
  pub accepted : (weights m u v).number ≡ 0
  pub places : List ℕ
  pub four : length places ≡ 4
  pub taken : (i : ℕ) → Memᴰ i places → (table_place m i).number ≡ 0
  pub same_blends :
      map (λ i. (table_place m i).blend) places ≡ map (λ (e : Weight). e.blend) (weights m u v).entries
  pub add_up :
      let sum = total (map fraction (weights m u v).entries) in (sum.num ≡ sum.den) × (0 < sum.den)
  -- Each weight is at most one, over at most 128 × 128.
  pub at_most_one : (e : Weight) → Memᴰ e (weights m u v).entries →
      (e.numerator ≤ e.denominator) × (e.denominator ≤ 16384)
  -- The reading is the sum of value times weight, rounded: the whole number nearest to it.
  pub is_sum : reading m u v ≡ record { number = 0; litres = rounded (sum_over m u v places) }
  pub is_nearest : Nearest (sum_over m u v places) (reading m u v).litres
  -- No flow that isn't there: it lies between the least and the greatest of the values whose blends
  -- weigh more than 0.
  pub not_below : smallest (values_over m u v places) ≤ (reading m u v).litres
  pub not_above : (reading m u v).litres ≤ greatest (values_over m u v places)
