-- Document 01, "When a call says no": calls on files give only the numbers whose matter they have.
use Rattle.std.specs.Prelude.{ℕ, List, [], ◌∷◌}
use Rattle.axis.specs.Range.{OneOf}
use Rattle.maps.specs.declared.Map.{Map}
use Rattle.files.specs.Calls.{write_number, read_file, payload_number}
use Rattle.files.specs.Listing.{text_number}

-- Write, read, a record's payload, and the table as text.
pub record FileNumbers : Type 0 where
  pub writes : (m : Map) (buffer : List ℕ) → OneOf (0 ∷ 2 ∷ 12 ∷ []) (write_number m buffer)
  pub reads : (bytes : List ℕ) → OneOf (0 ∷ 11 ∷ []) (read_file bytes).number
  pub payloads : (bytes : List ℕ) (at : ℕ) → OneOf (0 ∷ 11 ∷ []) (payload_number bytes at)
  pub lists : (bytes out : List ℕ) → OneOf (0 ∷ 11 ∷ 12 ∷ []) (text_number bytes out)
