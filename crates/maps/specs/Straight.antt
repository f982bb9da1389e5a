-- Document 02, L1: "A straight pump must read straight."
use Rattle.std.specs.Prelude.{ℕ, ◌+◌, ◌*◌, ◌≤◌, ◌<◌, ◌≡◌, List, [], ◌∷◌, ℤ, pos, ◌+ℤ◌, ◌*ℤ◌, length}
use Rattle.axis.specs.Range.{each}
use Rattle.mesh.specs.declared.Blend.{Blend}
use Rattle.mesh.specs.Weight.{value}
use Rattle.maps.specs.declared.Map.{Map}
use Rattle.maps.specs.Values.{paired}
use Rattle.maps.specs.Calls.{table_place, reading}

-- "pumps whose flow is A + B × u + C × v + D × u × v, the four whole numbers of either sign"
abbrev pub flow : ℤ → ℤ → ℤ → ℤ → ℤ → ℤ → ℤ
flow A B C D u v = A +ℤ B *ℤ u +ℤ C *ℤ v +ℤ D *ℤ u *ℤ v

-- "the value at each anchor is that number", at every place that the table call answers. That it lies in 0 to 65,535 is the value's type.
abbrev pub ValuesStraight : Map → ℤ → ℤ → ℤ → ℤ → Type 0
ValuesStraight m A B C D =
    (i : ℕ) → let at = table_place m i in at.number ≡ 0 → pos at.value ≡ flow A B C D at.blend.m at.blend.n

-- the values at the first k places of the table
abbrev pub table_values : Map → ℕ → List ℕ
table_values m k = each 0 k (λ i. (table_place m i).value ∷ [])

-- The map reads straight on the domain of sides w and h; `bs` are the blends that the table call gives.
pub record ReadsStraight (m : Map) (bs : List Blend) (w h : ℕ) (A B C D : ℤ) : Type 0 where
  -- "the reading at every whole point of the map must be that number exactly"
  pub readings : (u v : ℕ) → u ≤ w → v ≤ h → ((reading m u v).number ≡ 0) × (pos (reading m u v).litres ≡ flow A B C D (pos u) (pos v))
  -- Beyond the request: so is the sum of value times weight at each point (p / d, q / d), before it is rounded. The flow there, times d twice, is that of the
  -- numbers A d d, B d, C d and D at (p, q).
  pub sums : (p q d : ℕ) → 0 < d → p ≤ w * d → q ≤ h * d →
      let sum = value (paired bs (table_values m (length bs))) (p + d) (q + d) d in
      (pos (sum.num * (d * d)) ≡ flow (A *ℤ pos (d * d)) (B *ℤ pos d) (C *ℤ pos d) D (pos p) (pos q) *ℤ pos sum.den) × (0 < sum.den)
