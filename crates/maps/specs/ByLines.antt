-- Document 02, L3: "two good records that differ only in values take the same line or get the same number".
use Rattle.std.specs.Prelude.{◌≡◌}
use Rattle.maps.specs.declared.Map.{Map}
use Rattle.maps.specs.Outcomes.{Changed}

-- What a split call gives for two records with the same lines: the number, the lines of the map
-- that it hands back or leaves and, where the records differ only in values, its marks. So the
-- whole outcome is the same but for the values. `by_lines` shows it of two good records, and of
-- every split and allowance.
pub record SameButValues (m n : Map) (one other : Changed) : Type 0 where
  pub same_number : one.number ≡ other.number
  pub same_lines : one.map.lines ≡ other.map.lines
  pub same_marks : m.marks ≡ n.marks → one.map.marks ≡ other.map.marks
