-- Document 01, "When a call says no": "A call gives only the numbers whose matter it has."
use Rattle.std.specs.Prelude.{ℕ, ◌≡◌, true, List, [], ◌∷◌}
use Rattle.axis.specs.Range.{OneOf}
use Rattle.maps.specs.declared.Map.{Map}
use Rattle.maps.specs.Record.{good}
use Rattle.maps.specs.Calls.{fresh_map}
use Rattle.maps.specs.Histories.{Call, set, split, place, reads, weighs, along_row, along_column, same_as, number_of, by_library}

-- the refusals of each call on a good record, in checking order; of sameness 2 is that of the other
-- record
abbrev pub refusals_of : Call → List ℕ
refusals_of (set i j v) = 9 ∷ []
refusals_of (split s allowance) = 3 ∷ 4 ∷ 5 ∷ 6 ∷ 7 ∷ 8 ∷ []
refusals_of (place i) = 9 ∷ []
refusals_of (reads u v) = 10 ∷ []
refusals_of (weighs u v) = 10 ∷ []
refusals_of (along_row v wanted) = 10 ∷ 13 ∷ []
refusals_of (along_column u wanted) = 10 ∷ 13 ∷ []
refusals_of (same_as other) = 2 ∷ []

-- What `own_numbers` shows, of all records and all arguments: 0, the call's own refusals, and 2
-- where the record is not good.
pub record OwnNumbers : Type 0 where
  pub fresh : (w h : ℕ) → OneOf (0 ∷ 1 ∷ []) (fresh_map w h).number
  pub calls : (m : Map) (c : Call) → OneOf (0 ∷ 2 ∷ refusals_of c) (number_of (by_library m c).answer)
  pub on_good : (m : Map) (c : Call) → good m ≡ true → OneOf (0 ∷ refusals_of c) (number_of (by_library m c).answer)
