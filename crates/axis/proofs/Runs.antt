-- Two numbers compared, and a test followed down a run of numbers.
use Prim.Native.Nat.{ℕ, zero, suc, ◌+◌, ◌≤◌, ◌<◌}
use native.Mathlib.Omega.{arith}
use mathlib.Core.Path.{◌≡◌, sym, subst}
use mathlib.Core.Logic.{⊎_elim}
use mathlib.Core.Bool.{Bool, true, false}
use lib.Dec.{leb, ltb, eqb}
use borrow.Author.Tests.{leb-true, leb-false, ltb-true, ltb-false, eqb-true, eqb-false}
use Rattle.axis.proofs.Tests.{either}

-- By cases on two numbers: what follows if the first is at most, below or equal to the second, and what follows if not.
pub if_at_most {ℓ} : {A : Type ℓ} (a b : ℕ) → (a ≤ b → A) → (b < a → A) → A
if_at_most a b f g = ⊎_elim (λ e. f (leb-true a b e)) (λ e. g (leb-false a b e)) (either (leb a b))

pub if_below {ℓ} : {A : Type ℓ} (a b : ℕ) → (a < b → A) → (b ≤ a → A) → A
if_below a b f g = ⊎_elim (λ e. f (ltb-true a b e)) (λ e. g (ltb-false a b e)) (either (ltb a b))

pub if_equal {ℓ} : {A : Type ℓ} (a b : ℕ) → (a ≡ b → A) → ((a ≡ b → ⊥) → A) → A
if_equal a b f g = ⊎_elim (λ e. f (eqb-true a b e)) (λ e. g (eqb-false a b e)) (either (eqb a b))

-- one number comes before another, is it, or comes after it
pub data Compared (a b : ℕ) : Type 0 where
  less : a < b → Compared a b
  equal : a ≡ b → Compared a b
  more : b < a → Compared a b

pub compare : (a b : ℕ) → Compared a b
compare a b = if_below a b less (λ le. if_equal a b equal (λ ne. more (omega arith)))

pub neither : (a b : ℕ) → (a < b → ⊥) → (b < a → ⊥) → a ≡ b
neither a b f g = by (compare a b)
  where
    by : Compared a b → a ≡ b
    by (less lt) = absurd (f lt)
    by (equal e) = e
    by (more gt) = absurd (g gt)

-- Down a run of numbers from its last: a test holds of all, or there is a first one at which it fails.
pub data Downward (test : ℕ → Bool) (lo hi : ℕ) : Type 0 where
  throughout : ((k : ℕ) → lo ≤ k → k < hi → test k ≡ true) → Downward test lo hi
  until : (e : ℕ) → lo ≤ e → e < hi → test e ≡ false → ((k : ℕ) → e < k → k < hi → test k ≡ true) → Downward test lo hi

pub downward : (test : ℕ → Bool) (lo hi : ℕ) → Downward test lo hi
downward test lo zero = throughout (λ k a b. absurd (omega arith))
downward test lo (suc n) =
    if_below n lo (λ lt. throughout (λ k a b. absurd (omega arith)))
    (λ le. ⊎_elim (λ e. on e le (downward test lo n)) (λ e. until n le (omega arith) e (λ k a b. absurd (omega arith))) (either (test n)))
  where
    last : {m : ℕ} → test n ≡ true → ((k : ℕ) → m ≤ k → k < n → test k ≡ true) → (k : ℕ) → m ≤ k → k < suc n → test k ≡ true
    last {m} e f k a b = if_equal k n (λ is. subst (λ (i : ℕ). test i ≡ true) (sym is) e) (λ ne. f k a (omega arith))

    on : test n ≡ true → lo ≤ n → Downward test lo n → Downward test lo (suc n)
    on e le (throughout f) = throughout (last e f)
    on e le (until i a b off f) = until i a (omega arith) off (λ k lo hi. last {m = i + 1} e (λ k lo hi. f k (omega arith) hi) k (omega arith) hi)
