-- The outcome of each call: its number, 0 for yes, and what it hands back.
use Rattle.std.specs.Prelude.{ℕ, Bool, List}
use Rattle.maps.specs.declared.Map.{Map}
use Rattle.maps.specs.declared.Shape.{Shape}
use Rattle.maps.specs.declared.Weight.{Weight}

-- a number, and the map that the call hands back
pub record Changed : Type 0 where
  pub number : ℕ
  pub map : Map

-- a number, and the blend, value and mark at a table place
pub record Placed : Type 0 where
  pub number : ℕ
  pub blend : Shape
  pub value : ℕ
  pub mark : ℕ

-- a number, and a reading in litres a minute
pub record Reading : Type 0 where
  pub number : ℕ
  pub litres : ℕ

-- a number, and the weights of the four blends over a unit square, in table order
pub record Weights : Type 0 where
  pub number : ℕ
  pub entries : List Weight

-- a number, how many pairs of neighbouring points lie on different sides of a wanted flow along a row or a column, and the first point of the first pair
pub record Pairs : Type 0 where
  pub number : ℕ
  pub count : ℕ
  pub first : ℕ

-- a number, and whether two maps are the same
pub record Same : Type 0 where
  pub number : ℕ
  pub yes : Bool
