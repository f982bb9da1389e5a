-- Document 02, L6: "The rounding itself now goes to the nearest whole number, halves up".
use Rattle.std.specs.Prelude.{ℕ, ◌+◌, ◌-◌, ◌*◌, ◌/◌, ◌≤◌, ◌≡◌}
use Rattle.axis.specs.Fraction.{Fraction}

-- the whole part of what the number and one half come to
abbrev pub rounded : Fraction → ℕ
rounded x = (2 * x.num + x.den) / (2 * x.den)

-- how far a whole number is from the fraction, times its denominator; `-` stops at 0, so one of the two differences is 0
abbrev pub away : Fraction → ℕ → ℕ
away x n = (x.num - n * x.den) + (n * x.den - x.num)

-- No whole number is nearer, and of two that are as near it is the upper one.
pub record Nearest (x : Fraction) (n : ℕ) : Type 0 where
  pub none_nearer : (k : ℕ) → away x n ≤ away x k
  pub halves_up : (k : ℕ) → away x k ≡ away x n → k ≤ n
