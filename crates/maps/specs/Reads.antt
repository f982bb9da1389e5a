-- What users are told of readings, in the answers of the calls.
use Rattle.std.specs.Prelude.{ℕ, ◌≤◌, ◌%◌, ◌≡◌, cond, List, [], ◌∷◌, ◌++◌, eqb, pos}
use Rattle.axis.specs.Range.{greatest}
use Rattle.maps.specs.declared.Map.{Map}
use Rattle.maps.specs.Calls.{table_place, reading}
use Rattle.maps.specs.Histories.{Call, set, split, place, reads, weighs, along_row, along_column, same_as, number_of, by_library}
use Rattle.maps.specs.Straight.{table_values}
use Rattle.maps.specs.ByWeights.{ByWeights}

-- Of a map of sides w and h whose table has `count` places:
pub record Reads (m : Map) (w h count : ℕ) : Type 0 where
  -- At each whole point the four weights add up to one, and the reading lies between the values of
  -- the blends that weigh more than 0 there.
  pub by_weights : (u v : ℕ) → u ≤ w → v ≤ h → ByWeights m u v
  -- The reading at an anchor is the table call's value there.
  pub at_anchors : (i : ℕ) → (table_place m i).number ≡ 0 →
      (u : ℕ) × (v : ℕ) × ((table_place m i).blend.m ≡ pos u) × ((table_place m i).blend.n ≡ pos v) ×
      (reading m u v ≡ record { number = 0; litres = (table_place m i).value })
  -- No reading is above the greatest value of the table, nor above 65,535.
  pub in_table : (u v : ℕ) → (reading m u v).litres ≤ greatest (table_values m count)
  pub at_most : (u v : ℕ) → (reading m u v).litres ≤ 65535

-- the value that a call sets, a 16-bit number, where it sets one
abbrev pub value_set : Call → List ℕ
value_set (set i j v) = v % 65536 ∷ []
value_set (split s allowance) = []
value_set (place i) = []
value_set (reads u v) = []
value_set (weighs u v) = []
value_set (along_row v wanted) = []
value_set (along_column u wanted) = []
value_set (same_as other) = []

-- the values that the accepted calls of a list set, from a map on
abbrev pub values_set : Map → List Call → List ℕ
values_set m [] = []
values_set m (c ∷ cs) =
    let o = by_library m c in
    cond (eqb (number_of o.answer) 0) (value_set c) [] ++ values_set o.next cs
