-- What is left to test decides the whole answer.
use Rattle.std.proofs.Common.{ℕ, ◌-◌, ◌≡◌, List, get_or}
use mathlib.Core.Bool.{Bool, ◌||◌}
use Rattle.axis.specs.Range.{some}
use Rattle.mesh.specs.Carried.{reached}
use Rattle.mesh.specs.declared.Direction.{Direction}
use Rattle.mesh.proofs.notes.Notes.some_reached.Given as goal

-- whether a blend at level i is reached, and whether one is from level k on
abbrev pub at : List ℕ → List ℕ → Direction → ℕ → ℕ → ℕ → Bool
at lows highs d from to i = reached d from to (get_or lows i 0) || reached d from to (get_or highs i 0)

abbrev pub left : List ℕ → List ℕ → Direction → ℕ → ℕ → ℕ → Bool
left lows highs d from to k = some k (to - k) (at lows highs d from to)

abbrev pub invariant-loop-k : goal.invariant-loop-k
invariant-loop-k l = left l.self.lows l.self.highs l.d l.from l.to l.k ≡ left l.self.lows l.self.highs l.d l.from l.to l.from
