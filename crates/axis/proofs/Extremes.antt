-- The greatest and the smallest of some numbers.
use Prim.Native.Nat.{ℕ, ◌≤◌}
use native.Mathlib.Omega.{arith}
use mathlib.Core.Logic.{⊎_elim}
use mathlib.Core.List.Memᴰ
use mathlib.Core.List.{List, [], ◌∷◌, Memᴰ}
use Rattle.axis.specs.Range.{greatest, smallest}

-- each of them is at most the greatest and at least the smallest
pub at_most_greatest : (ns : List ℕ) (n : ℕ) → Memᴰ n ns → n ≤ greatest ns
at_most_greatest [] n m = absurd (Memᴰ.not-nil m)
at_most_greatest (k ∷ ns) n m =
    ⊎_elim (λ q. omega (arith, q)) (λ l. omega (arith, at_most_greatest ns n l)) (Memᴰ.cases_cons m)

pub at_least_smallest : (ns : List ℕ) (n : ℕ) → Memᴰ n ns → smallest ns ≤ n
at_least_smallest [] n m = absurd (Memᴰ.not-nil m)
at_least_smallest (k ∷ []) n m =
    ⊎_elim (λ q. omega (arith, q)) (λ l. absurd (Memᴰ.not-nil l)) (Memᴰ.cases_cons m)
at_least_smallest (k ∷ j ∷ ns) n m =
    ⊎_elim (λ q. omega (arith, q)) (λ l. omega (arith, at_least_smallest (j ∷ ns) n l)) (Memᴰ.cases_cons m)
