-- Document 02, L2: "Level at which a flow is reached." Each call's whole outcome along a row, and up a column.
use Rattle.std.specs.Prelude.{ℕ, Bool, cond, ◌&&◌, not, List, [], ◌∷◌, ltb, leb, length}
use Rattle.axis.specs.Range.{turns_from}
use Rattle.maps.specs.declared.Map.{Map}
use Rattle.maps.specs.Outcomes.{Reading}
use Rattle.maps.specs.Outcomes.{Pairs}
use Rattle.maps.specs.Plain.{Plain}
use Rattle.maps.specs.Record.{plain, good}
use Rattle.maps.specs.Calls.{reading_on}

-- whether the reading at a point is below the wanted flow
abbrev pub below : (ℕ → Reading) → ℕ → ℕ → Bool
below readings wanted u = ltb (readings u).litres wanted

-- "each pair of neighbouring points u and u+1 where one reading is below it and the other isn't": of the readings at the points 0 to `side`, the u of
-- every pair, in order
abbrev pub pairs : ℕ → (ℕ → Reading) → ℕ → List ℕ
pairs side readings wanted = turns_from 0 side (below readings wanted)

-- "how many pairs there are and the u of the first"; "13, no such pair"
abbrev pub no_pairs : ℕ → Pairs
no_pairs n = record { number = n; count = 0; first = 0 }

abbrev pub counted_pairs : List ℕ → Pairs
counted_pairs [] = no_pairs 13
counted_pairs (u ∷ us) = record { number = 0; count = length (u ∷ us); first = u }

-- "a wanted flow, 1 to 65,535"; 13 "or a wanted flow out of range"
abbrev pub pairs_along : ℕ → (ℕ → Reading) → ℕ → Pairs
pairs_along side readings wanted = cond (leb 1 wanted && leb wanted 65535) (counted_pairs (pairs side readings wanted)) (no_pairs 13)

-- "For one v": the row, 10 outside the domain. First by what a map holds, then by its record: "A bad record is reported first".
abbrev pub row_on : Plain → ℕ → ℕ → Pairs
row_on P v wanted = cond (leb v P.lines.h) (pairs_along P.lines.w (λ u. reading_on P u v) wanted) (no_pairs 10)

unfoldable pub row_pairs : Map → ℕ → ℕ → Pairs
row_pairs m v wanted = cond (not (good m)) (no_pairs 2) (row_on (plain m) v wanted)

-- "The same holds along a column, with v."
abbrev pub column_on : Plain → ℕ → ℕ → Pairs
column_on P u wanted = cond (leb u P.lines.w) (pairs_along P.lines.h (λ v. reading_on P u v) wanted) (no_pairs 10)

unfoldable pub column_pairs : Map → ℕ → ℕ → Pairs
column_pairs m u wanted = cond (not (good m)) (no_pairs 2) (column_on (plain m) u wanted)
