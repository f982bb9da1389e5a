-- Rounding to the nearest: what it gives, of equal fractions, of whole numbers, and of numbers not far apart.
use Prim.Native.Nat.{ℕ, ◌+◌, ◌*◌, ◌≤◌, ◌<◌}
use native.Mathlib.Omega.{arith}
use native.Mathlib.Nat.{mul-le-mul_right, div-mul-le_self, lt-div-mul-add, le-div_iff_mul-le, div-lt_iff_lt-mul, le_antisymm, le_of_mul-le-mul_left}
use mathlib.Core.Path.{◌≡◌, ap}
use mathlib.Core.List.{List, [], ◌∷◌}
use Rattle.axis.specs.Fraction.{Fraction, Equal}
use Rattle.axis.proofs.Runs.{if_below, Compared, less, equal, more, compare}
use Rattle.axis.proofs.Sums.{quotient_same}
use Rattle.axis.proofs.Scale.{sum}
use Rattle.maps.specs.Rounding.{rounded, away, Nearest}

-- n over S, rounded
abbrev pub nearest : ℕ → ℕ → ℕ
nearest S n = rounded (record { num = n; den = S })

module _ (S : ℕ) (pos : 0 < S) where
  twice : 0 < 2 * S
  twice = omega arith

  -- it is off by at most one half, and by less where it is below
  not_above : (n : ℕ) → nearest S n * (2 * S) ≤ 2 * n + S
  not_above n = let down : nearest S n * (2 * S) ≤ _ = div-mul-le_self _ (2 * S) in omega (arith, down)

  not_below : (n : ℕ) → 2 * n < nearest S n * (2 * S) + S
  not_below n = let up : _ < nearest S n * (2 * S) + 2 * S = lt-div-mul-add twice in omega (arith, up)

  -- so it is below a number from which what is rounded is more than one half away,
  nearest_less : (n k : ℕ) → 2 * n + S < k * (2 * S) → nearest S n < k
  nearest_less n k lt = (div-lt_iff_lt-mul twice).1 lt

  pub nearest_most : (n k : ℕ) → n ≤ k * S → nearest S n ≤ k
  nearest_most n k le = let lt : nearest S n < k + 1 = nearest_less n (k + 1) (omega arith) in omega (arith, lt)

  pub nearest_least : (n k : ℕ) → k * S ≤ n → k ≤ nearest S n
  nearest_least n k le = (le-div_iff_mul-le twice).1 (omega arith)

  -- it is the number itself where that is whole,
  pub nearest_whole : (n : ℕ) → nearest S (n * S) ≡ n
  nearest_whole n = le_antisymm (nearest_most (n * S) n (omega arith)) (nearest_least (n * S) n (omega arith))

  -- and two numbers at most one half apart are at most one apart when both are rounded.
  nearest_near : (n k : ℕ) → 2 * n ≤ 2 * k + S → nearest S n ≤ nearest S k + 1
  nearest_near n k le =
      let lt : nearest S n < nearest S k + 2 = nearest_less n (nearest S k + 2) (omega (arith, not_below k)) in
      omega (arith, lt)

-- A sum of f times g, and the same with each f rounded, S at a time.
module _ (S : ℕ) (pos : 0 < S) {A : Type 0} (f g : A → ℕ) where
  abbrev whole : List A → ℕ
  whole xs = sum (λ (x : A). f x * g x) xs

  abbrev pub rounded_sum : List A → ℕ
  rounded_sum xs = sum (λ (x : A). nearest S (f x) * g x) xs

  sums_near : (xs : List A) → (2 * S * rounded_sum xs ≤ 2 * whole xs + S * sum g xs) × (2 * whole xs ≤ 2 * S * rounded_sum xs + S * sum g xs)
  sums_near [] = (omega arith, omega arith)
  sums_near (x ∷ xs) =
      let r = sums_near xs in
      let low : 2 * f x ≤ nearest S (f x) * (2 * S) + S = omega (arith, not_below S pos (f x)) in
      (omega (arith, mul-le-mul_right (g x) (not_above S pos (f x)), r.0), omega (arith, mul-le-mul_right (g x) low, r.1))

  -- where the g add up to one, the mean F of the f and that of the f rounded are at most one half apart, and so at most one when both are rounded
  pub means_near : (xs : List A) (F : ℕ) → sum g xs ≡ S → S * F ≡ whole xs →
      (nearest S (rounded_sum xs) ≤ nearest S F + 1) × (nearest S F ≤ nearest S (rounded_sum xs) + 1)
  means_near xs F one mean =
      let r = sums_near xs in
      let square = ap (λ (n : ℕ). S * n) one in
      let low : 2 * rounded_sum xs ≤ 2 * F + S = le_of_mul-le-mul_left (omega (arith, r.0, square, mean)) pos in
      let high : 2 * F ≤ 2 * rounded_sum xs + S = le_of_mul-le-mul_left (omega (arith, r.1, square, mean)) pos in
      (nearest_near S pos _ _ low, nearest_near S pos _ _ high)

-- equal fractions are rounded to the same number
pub rounded_same : (x y : Fraction) → 0 < x.den → 0 < y.den → Equal x y → rounded x ≡ rounded y
rounded_same x y px py e =
    quotient_same (record { num = 2 * x.num + x.den; den = 2 * x.den }) (record { num = 2 * y.num + y.den; den = 2 * y.den })
    (omega arith) (omega arith) (omega (arith, e))

-- "to the nearest whole number, halves up", and only one number is that
pub rounds_nearest : (x : Fraction) → 0 < x.den → Nearest x (rounded x)
rounds_nearest x pos = record {
  none_nearer = λ k. no_nearer k (compare (rounded x) k);
  halves_up = λ k e. if_below (rounded x) k (λ lt. absurd (omega (arith, e, upper k lt))) (λ le. le);
}
  where
    within : 2 * away x (rounded x) ≤ x.den
    within = omega (arith, not_above x.den pos x.num, not_below x.den pos x.num)

    upper : (k : ℕ) → rounded x < k → away x (rounded x) < away x k
    upper k lt =
        let step : (rounded x + 1) * x.den ≤ k * x.den = mul-le-mul_right x.den (omega arith) in
        omega (arith, within, step, not_below x.den pos x.num)

    no_nearer : (k : ℕ) → Compared (rounded x) k → away x (rounded x) ≤ away x k
    no_nearer k (less lt) = omega (arith, upper k lt)
    no_nearer k (equal e) = rw (← e) (omega arith)
    no_nearer k (more lt) =
        let step : (k + 1) * x.den ≤ rounded x * x.den = mul-le-mul_right x.den (omega arith) in
        omega (arith, within, step, not_above x.den pos x.num)

pub one_nearest : (x : Fraction) (n k : ℕ) → Nearest x n → Nearest x k → n ≡ k
one_nearest x n k a b =
    let low = a.none_nearer k in
    let high = b.none_nearer n in
    le_antisymm (b.halves_up n (omega arith)) (a.halves_up k (omega arith))
