-- Numbers as a whole numerator over a whole denominator; sums of them, with all denominators multiplied out.
use Rattle.std.specs.Prelude.{ℕ, ◌+◌, ◌*◌, ◌<◌, ◌≡◌, List, [], ◌∷◌}

pub record Fraction : Type 0 where
  pub num : ℕ
  pub den : ℕ

abbrev pub times : Fraction → Fraction → Fraction
times x y = record { num = x.num * y.num; den = x.den * y.den }

abbrev pub plus : Fraction → Fraction → Fraction
plus x y = record { num = x.num * y.den + y.num * x.den; den = x.den * y.den }

abbrev pub whole : ℕ → Fraction
whole n = record { num = n; den = 1 }

-- the products across are equal, which says something only where neither denominator is 0
abbrev pub Equal : Fraction → Fraction → Type 0
Equal x y = x.num * y.den ≡ y.num * x.den

-- two fractions are the same number: their denominators are above 0, and they are equal
pub record SameNumber (x y : Fraction) : Type 0 where
  pub equal : Equal x y
  pub defined : 0 < x.den
  pub also_defined : 0 < y.den

-- a sum, over the product of all its denominators
abbrev pub total : List Fraction → Fraction
total [] = whole 0
total (x ∷ xs) = plus x (total xs)
