-- Sums of fractions: equal ones in place of others, and whole parts.
use Prim.Native.Nat.{ℕ, ◌*◌, ◌/◌, ◌<◌}
use native.Mathlib.Omega.{arith}
use native.Mathlib.Nat.{mul-div-mul_right}
use mathlib.Core.Path.{◌≡◌, refl, sym, ap, ◌∙◌}
use mathlib.Core.Logic.{⊎_elim}
use mathlib.Core.Bool.{Bool, true, false}
use mathlib.Core.List.{List, [], ◌∷◌, map, Memᴰ}
use Rattle.axis.specs.Fraction.{Fraction, times, plus, whole, total, Equal}
use Rattle.axis.specs.Range.{only}
use Rattle.axis.proofs.Tests.{either}

pub times_equal : (x x' y y' : Fraction) → Equal x x' → Equal y y' → Equal (times x y) (times x' y')
times_equal x x' y y' e f =
    omega (arith, ap (λ (a : ℕ). a * (y.num * y'.den)) e, ap (λ (a : ℕ). x'.num * x.den * a) f)

pub multiple_equal : (c : ℕ) (x : Fraction) (n d : ℕ) → Equal x (record { num = n; den = d }) →
    Equal (times (whole c) x) (record { num = n * c; den = d })
multiple_equal c x n d e = omega (arith, ap (λ (a : ℕ). c * a) e)

-- in a sum, a fraction can be replaced by an equal one, and one that is 0 left out
pub plus_equal : (x x' y y' : Fraction) → Equal x x' → Equal y y' → Equal (plus x y) (plus x' y')
plus_equal x x' y y' e f =
    omega (arith, ap (λ (a : ℕ). a * (y.den * y'.den)) e, ap (λ (a : ℕ). a * (x.den * x'.den)) f)

pub plus_nothing : (x y y' : Fraction) → x.num ≡ 0 → Equal y y' → Equal (plus x y) y'
plus_nothing x y y' z e = omega (arith, ap (λ (a : ℕ). a * (y.den * y'.den)) z, ap (λ (a : ℕ). a * x.den) e)

-- a sum is that of the entries which pass a test, by equal fractions, where those of the others are
-- 0
pub total_only : {A : Type 0} (test : A → Bool) (f g : A → Fraction) (xs : List A) →
    ((x : A) → Memᴰ x xs → test x ≡ true → Equal (f x) (g x)) →
    ((x : A) → Memᴰ x xs → test x ≡ false → (f x).num ≡ 0) →
    Equal (total (map f xs)) (total (map g (only test xs)))
total_only test f g [] same none = refl
total_only test f g (x ∷ xs) same none =
    let rest = total_only test f g xs (λ y m. same y (Memᴰ.tail m)) (λ y m. none y (Memᴰ.tail m)) in
    ⊎_elim (λ (t : test x ≡ true). rw t (plus_equal (f x) (g x) _ _ (same x (Memᴰ.head refl) t) rest))
    (λ (t : test x ≡ false). rw t (plus_nothing (f x) _ _ (none x (Memᴰ.head refl) t) rest)) (either (test x))

-- equal fractions have the same whole part
pub quotient_same : (x y : Fraction) → 0 < x.den → 0 < y.den → Equal x y → x.num / x.den ≡ y.num / y.den
quotient_same x y px py e =
    let c : x.den * y.den ≡ y.den * x.den = omega arith in
    sym (mul-div-mul_right x.num x.den py) ∙ rw (e, c) (mul-div-mul_right y.num y.den px)
