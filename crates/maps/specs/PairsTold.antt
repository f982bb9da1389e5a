-- Document 02, L2: what the answer along a row or a column tells who goes on from it.
use Rattle.std.specs.Prelude.{ℕ, ◌%◌, ◌≤◌, ◌<◌, ◌≡◌, true, false}
use Rattle.axis.specs.Range.{differ, turns}
use Rattle.maps.specs.Outcomes.{Reading}
use Rattle.maps.specs.Outcomes.{Pairs}
use Rattle.maps.specs.Pairs.{below}

-- "one reading is below it and the other isn't", of the points u and u + 1
abbrev pub Pair : (ℕ → Reading) → ℕ → ℕ → Type 0
Pair readings wanted u = turns (below readings wanted) u ≡ true

-- Of the reading call's answers at the points 0 to `side`, and a wanted flow in range:
pub record PairsTold (side : ℕ) (readings : ℕ → Reading) (wanted : ℕ) (answer : Pairs) : Type 0 where
  pub are_read : (u : ℕ) → u ≤ side → (readings u).number ≡ 0
  -- A first pair exists exactly where the count is above 0. The call is then accepted, and there is no pair before that one;
  pub counts : answer.number ≡ 0 → 0 < answer.count
  pub is_pair : answer.number ≡ 0 → (answer.first < side) × Pair readings wanted answer.first
  pub none_before : (u : ℕ) → u < answer.first → Pair readings wanted u → ⊥
  -- else it is refused with 13, and there is none.
  pub refused : (answer.number ≡ 0 → ⊥) → (answer.number ≡ 13) × (answer.count ≡ 0) × ((u : ℕ) → u < side → Pair readings wanted u → ⊥)
  -- Between two pairs all readings lie on one side of the wanted flow: from a point a on, as far as no pair comes.
  pub one_side : (a u : ℕ) → a ≤ u → u ≤ side → ((k : ℕ) → a ≤ k → k < u → Pair readings wanted k → ⊥) → below readings wanted u ≡ below readings wanted a
  -- Where the two ends lie on different sides, the count is odd; where they lie on one, it is even.
  pub odd : differ (below readings wanted 0) (below readings wanted side) ≡ true → answer.count % 2 ≡ 1
  pub even : differ (below readings wanted 0) (below readings wanted side) ≡ false → answer.count % 2 ≡ 0
