-- Fractions as whole numbers: a common multiple of all denominators in play, and what a fraction comes to when it is multiplied by one.
use Prim.Native.Nat.{ℕ, zero, suc, ◌+◌, ◌*◌, ◌<◌, ◌≤◌}
use native.Mathlib.Omega.{arith}
use native.Mathlib.Nat.{mul-pos, eq_of_mul-eq-mul_right}
use mathlib.Core.Path.{◌≡◌, refl, sym, ap, ◌∙◌}
use mathlib.Core.Logic.{⊎_elim}
use mathlib.Core.Bool.{cond}
use mathlib.Core.List.Memᴰ
use mathlib.Core.List.{List, [], ◌∷◌, map, Memᴰ}
use borrow.Author.Tests.{eqb-true, eqb-false}
use lib.Dec.{eqb}
use Rattle.axis.specs.Fraction.{Fraction, times, plus, whole, total, Equal}
use Rattle.axis.proofs.Tests.{either}
use Rattle.axis.specs.Range.{Distinct}

-- a number that each of 1 to n divides, with its quotients
pub record Multiple (n : ℕ) : Type 0 where
  pub all : ℕ
  pub part : ℕ → ℕ
  pub positive : 0 < all
  pub parts : (g : ℕ) → 0 < g → g ≤ n → part g * g ≡ all

-- the factorial is one; its quotient by g is the product of the others
factorial : ℕ → ℕ
factorial zero = 1
factorial (suc n) = suc n * factorial n

without : ℕ → ℕ → ℕ
without zero g = 1
without (suc n) g = cond (eqb g (suc n)) (factorial n) (suc n * without n g)

factorial_positive : (n : ℕ) → 0 < factorial n
unfolding factorial
factorial_positive zero = omega arith
factorial_positive (suc n) = mul-pos (omega arith) (factorial_positive n)

without_times : (n g : ℕ) → 0 < g → g ≤ n → without n g * g ≡ factorial n
unfolding without factorial
without_times zero g pos le = absurd (omega arith)
without_times (suc n) g pos le =
    ⊎_elim (λ e. rw e (omega (arith, ap (λ (x : ℕ). factorial n * x) (eqb-true g (suc n) e))))
    (λ e. let ne : g ≡ suc n → ⊥ = eqb-false _ _ e in
    rw e (omega (arith, ap (λ (x : ℕ). suc n * x) (without_times n g pos (omega arith)))))
    (either (eqb g (suc n)))

pub common : (n : ℕ) → Multiple n
common n = record { all = factorial n; part = without n; positive = factorial_positive n; parts = without_times n }

-- S times the fraction is n
abbrev pub Scaled : ℕ → Fraction → ℕ → Type 0
Scaled S x n = n * x.den ≡ x.num * S

pub scaled_times : (S T : ℕ) (x y : Fraction) (n m : ℕ) → Scaled S x n → Scaled T y m → Scaled (S * T) (times x y) (n * m)
scaled_times S T x y n m e f =
    omega (arith, ap (λ (u : ℕ). u * (m * y.den)) e, ap (λ (u : ℕ). x.num * S * u) f)

pub scaled_plus : (S : ℕ) (x y : Fraction) (n m : ℕ) → Scaled S x n → Scaled S y m → Scaled S (plus x y) (n + m)
scaled_plus S x y n m e f =
    omega (arith, ap (λ (u : ℕ). u * y.den) e, ap (λ (u : ℕ). u * x.den) f)

-- a whole number of times the scale
pub scaled_more : (a S : ℕ) (x : Fraction) (n : ℕ) → Scaled S x n → Scaled (a * S) x (a * n)
scaled_more a S x n e = omega (arith, ap (λ (u : ℕ). a * u) e)

-- a multiple of a fraction, at the same scale
pub scaled_multiple : (c S : ℕ) (x : Fraction) (n : ℕ) → Scaled S x n → Scaled S (times (whole c) x) (c * n)
scaled_multiple c S x n e = omega (arith, ap (λ (u : ℕ). c * u) e)

-- fractions that come to the same number at the same scale are the same number
pub scaled_equal : (S : ℕ) (x y : Fraction) (n : ℕ) → 0 < S → Scaled S x n → Scaled S y n → Equal x y
scaled_equal S x y n pos e f =
    eq_of_mul-eq-mul_right S pos _ _ (omega (arith, ap (λ (u : ℕ). u * y.den) e, ap (λ (u : ℕ). u * x.den) f))

-- what comes to the scale itself is one
pub scaled_one : (S : ℕ) (x : Fraction) → 0 < S → Scaled S x S → x.num ≡ x.den
scaled_one S x pos e = eq_of_mul-eq-mul_right S pos _ _ (omega (arith, e))

module _ {A : Type 0} where
  -- the sum of a function over a list
  abbrev pub sum : (A → ℕ) → List A → ℕ
  sum f [] = 0
  sum f (x ∷ xs) = f x + sum f xs

  pub scaled_total : (S : ℕ) (f : A → Fraction) (g : A → ℕ) (xs : List A) →
      ((x : A) → Memᴰ x xs → Scaled S (f x) (g x)) → Scaled S (total (map f xs)) (sum g xs)
  scaled_total S f g [] h = omega arith
  scaled_total S f g (x ∷ xs) h =
      scaled_plus S (f x) (total (map f xs)) (g x) (sum g xs) (h x (Memᴰ.head refl))
      (scaled_total S f g xs (λ y m. h y (Memᴰ.tail m)))

  pub total_positive : (f : A → Fraction) (xs : List A) → ((x : A) → Memᴰ x xs → 0 < (f x).den) → 0 < (total (map f xs)).den
  total_positive f [] h = omega arith
  total_positive f (x ∷ xs) h =
      mul-pos (h x (Memᴰ.head refl)) (total_positive f xs (λ y m. h y (Memᴰ.tail m)))

  pub sum_same : (f g : A → ℕ) (xs : List A) → ((x : A) → Memᴰ x xs → f x ≡ g x) → sum f xs ≡ sum g xs
  sum_same f g [] h = refl
  sum_same f g (x ∷ xs) h =
      omega (arith, h x (Memᴰ.head refl), sum_same f g xs (λ y m. h y (Memᴰ.tail m)))

  pub sum_zero : (f : A → ℕ) (xs : List A) → ((x : A) → Memᴰ x xs → f x ≡ 0) → sum f xs ≡ 0
  sum_zero f [] h = refl
  sum_zero f (x ∷ xs) h =
      omega (arith, h x (Memᴰ.head refl), sum_zero f xs (λ y m. h y (Memᴰ.tail m)))

  pub sum_multiple : (a : ℕ) (f g : A → ℕ) (xs : List A) → ((x : A) → Memᴰ x xs → a * f x ≡ g x) → a * sum f xs ≡ sum g xs
  sum_multiple a f g [] h = omega arith
  sum_multiple a f g (x ∷ xs) h =
      omega (arith, h x (Memᴰ.head refl), sum_multiple a f g xs (λ y m. h y (Memᴰ.tail m)))

  -- what holds of multiples at each entry holds of the sums
  pub sum_linear : (a b c : ℕ) (f g k : A → ℕ) (xs : List A) →
      ((x : A) → Memᴰ x xs → a * f x ≡ b * g x + c * k x) → a * sum f xs ≡ b * sum g xs + c * sum k xs
  sum_linear a b c f g k [] h = omega arith
  sum_linear a b c f g k (x ∷ xs) h =
      omega (arith, h x (Memᴰ.head refl), sum_linear a b c f g k xs (λ y m. h y (Memᴰ.tail m)))

  -- a sum all of whose terms but one are 0
  pub sum_single : (f : A → ℕ) (xs : List A) → Distinct xs → (a : A) → Memᴰ a xs →
      ((x : A) → Memᴰ x xs → (x ≡ a → ⊥) → f x ≡ 0) → sum f xs ≡ f a
  sum_single f [] dist a m h = absurd (Memᴰ.not-nil m)
  sum_single f (x ∷ xs) dist a m h =
      ⊎_elim
      (λ q. omega (arith, ap f q, sum_zero f xs (λ y n. h y (Memᴰ.tail n) (λ r. dist.0 (Memᴰ.cast (sym (r ∙ q)) n)))))
      (λ n. omega (
        arith,
        h x (Memᴰ.head refl) (λ r. dist.0 (Memᴰ.cast r n)),
        sum_single f xs dist.1 a n (λ y k. h y (Memᴰ.tail k)),
      ))
      (Memᴰ.cases_cons m)

-- nothing, and one, at a scale
pub scaled_nothing : (S : ℕ) (x : Fraction) (n : ℕ) → 0 < x.den → x.num ≡ 0 → Scaled S x n → n ≡ 0
scaled_nothing S x n pos none e = eq_of_mul-eq-mul_right x.den pos _ _ (omega (arith, ap (λ (m : ℕ). m * S) none))

pub scaled_whole : (S : ℕ) (x : Fraction) (n : ℕ) → 0 < x.den → x.num ≡ x.den → Scaled S x n → n ≡ S
scaled_whole S x n pos one e = eq_of_mul-eq-mul_right x.den pos _ _ (omega (arith, ap (λ (m : ℕ). m * S) one))
