-- Along a run of numbers: where a test turns from true to false or back, and what that tells of the numbers between.
use Prim.Native.Nat.{ℕ, zero, suc, ◌+◌, ◌%◌, ◌≤◌, ◌<◌}
use native.Mathlib.Omega.{arith}
use mathlib.Core.Path.{◌≡◌, refl, sym, ap, ◌∙◌}
use mathlib.Core.Logic.{⊎_elim}
use mathlib.Core.Bool.{Bool, true, false, cond}
use mathlib.Core.List.Memᴰ
use mathlib.Core.List.{[], ◌∷◌, Memᴰ}
use lib.ListN.{length}
use Rattle.axis.specs.Range.{Ordered, differ, turns, turns_from}
use Rattle.axis.proofs.Tests.{either, true_not_false, each_mem, mem_each, each_same}
use Rattle.axis.proofs.Counts.{ones}
use Rattle.axis.proofs.Distinct.{each_ordered}

same : (a b : Bool) → differ a b ≡ false → a ≡ b
same true true e = refl
same true false e = absurd (true_not_false true refl e)
same false true e = absurd (true_not_false true refl e)
same false false e = refl

-- of three tests in a row
over_two : (a b c : Bool) (n : ℕ) → n % 2 ≡ ones (differ b c) → (ones (differ a b) + n) % 2 ≡ ones (differ a c)
over_two true true true n e = omega arith
over_two true true false n e = omega arith
over_two true false true n e = omega arith
over_two true false false n e = omega arith
over_two false true true n e = omega arith
over_two false true false n e = omega arith
over_two false false true n e = omega arith
over_two false false false n e = omega arith

pub turns_same : (from n : ℕ) (f g : ℕ → Bool) → ((k : ℕ) → k ≤ from + n → f k ≡ g k) → turns_from from n f ≡ turns_from from n g
turns_same from n f g e = each_same from n _ _ (λ k lo hi. rw (e k (omega arith), e (k + 1) (omega arith)))

at_turn : (b : Bool) (k x : ℕ) → Memᴰ x (cond b (k ∷ []) []) → (x ≡ k) × (b ≡ true)
at_turn true k x m = (Memᴰ.eq_of_singleton m, refl)
at_turn false k x m = absurd (Memᴰ.not-nil m)

module _ (test : ℕ → Bool) where
  -- the list holds exactly the numbers of the run where the test turns, in rising order
  pub turn_mem : (from n k : ℕ) → from ≤ k → k < from + n → turns test k ≡ true → Memᴰ k (turns_from from n test)
  turn_mem from n k lo hi e = mem_each from n (λ i. cond (turns test i) (i ∷ []) []) k k lo hi (rw e (Memᴰ.head refl))

  pub mem_turn : (from n k : ℕ) → Memᴰ k (turns_from from n test) → (from ≤ k) × (k < from + n) × (turns test k ≡ true)
  mem_turn from n k m =
      let r = each_mem from n (λ i. cond (turns test i) (i ∷ []) []) k m in
      let here = at_turn (turns test r.0) r.0 k r.3 in
      rw here.0 (r.1, r.2, here.1)

  pub turns_ordered : (from n : ℕ) → Ordered ◌<◌ (turns_from from n test)
  turns_ordered from n =
      each_ordered ◌<◌ from n _ (λ k. single (turns test k) k)
      (λ j k x y lt hi mx my. omega (arith, (at_turn (turns test j) j x mx).0, (at_turn (turns test k) k y my).0))
    where
      single : (b : Bool) (k : ℕ) → Ordered ◌<◌ (cond b (k ∷ []) [])
      single true k = (λ y m. absurd (Memᴰ.not-nil m), tt)
      single false k = tt

  -- where it does not turn, it stays
  pub stays : (a n : ℕ) → ((k : ℕ) → a ≤ k → k < a + n → turns test k ≡ false) → test (a + n) ≡ test a
  stays a zero none = ap test (omega arith)
  stays a (suc n) none =
      let e : a + suc n ≡ a + 1 + n = omega arith in
      ap test e ∙ stays (a + 1) n (λ k lo hi. none k (omega arith) (omega arith)) ∙ sym (same _ _ (none a (omega arith) (omega arith)))

  -- it turns an odd number of times exactly where it differs at the ends
  pub turns_parity : (from n : ℕ) → length (turns_from from n test) % 2 ≡ ones (differ (test from) (test (from + n)))
  turns_parity from zero = let e : from + 0 ≡ from = omega arith in rw e (none (test from))
    where
      none : (a : Bool) → 0 % 2 ≡ ones (differ a a)
      none true = refl
      none false = refl
  turns_parity from (suc n) =
      let e : from + 1 + n ≡ from + suc n = omega arith in
      let rest = over_two (test from) (test (from + 1)) (test (from + suc n)) _ (rw e at (turns_parity (from + 1) n)) in
      ⊎_elim (λ t. rw t (omega (arith, rw t at rest))) (λ t. rw t (omega (arith, rw t at rest))) (either (turns test from))
