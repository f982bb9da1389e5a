-- The entries of a list for which a number is least.
use Prim.Native.Nat.{ℕ, ◌≤◌}
use native.Mathlib.Omega.{arith}
use mathlib.Core.Path.{refl, ap}
use mathlib.Core.Logic.{⊎_elim}
use mathlib.Core.List.Memᴰ
use mathlib.Core.List.{List, [], ◌∷◌, Memᴰ}
use borrow.Author.Tests.{leb-true, le-leb}
use lib.Dec.{leb}
use Rattle.axis.specs.Range.{all, least}
use Rattle.axis.proofs.Tests.{all_at, all_of, only_mem, mem_only}
use Rattle.axis.proofs.Runs.{if_at_most}

module _ {ℓ} {A : Type ℓ} (number : A → ℕ) where
  -- the number of such an entry is at most that of every other,
  pub least_says : (xs : List A) (x : A) → Memᴰ x (least number xs) → Memᴰ x xs × ((y : A) → Memᴰ y xs → number x ≤ number y)
  least_says xs x m =
      let o = only_mem (λ z. all (λ y. leb (number z) (number y)) xs) xs x m in
      (o.0, λ y n. leb-true _ _ (all_at (λ y. leb (number x) (number y)) xs o.1 y n))

  -- an entry with such a number is one,
  pub least_of_lem : (xs : List A) (x : A) → Memᴰ x xs → ((y : A) → Memᴰ y xs → number x ≤ number y) → Memᴰ x (least number xs)
  least_of_lem xs x m f =
      mem_only (λ z. all (λ y. leb (number z) (number y)) xs) xs x m (all_of (λ y. leb (number x) (number y)) xs (λ y n. le-leb _ _ (f y n)))

  -- and a list that is not empty has one.
  smallest : (x : A) (xs : List A) → (y : A) × Memᴰ y (x ∷ xs) × ((z : A) → Memᴰ z (x ∷ xs) → number y ≤ number z)
  smallest x [] = (x, Memᴰ.head refl, λ z m. let e = ap number (Memᴰ.eq_of_singleton m) in omega arith)
  smallest x (w ∷ xs) =
      let r = smallest w xs in
      if_at_most (number x) (number r.0)
      (λ le. (x, Memᴰ.head refl, λ z m. ⊎_elim (λ q. let e = ap number q in omega arith) (λ n. omega (arith, r.2 z n)) (Memᴰ.cases_cons m)))
      (λ gt. (r.0, Memᴰ.tail r.1, λ z m. ⊎_elim (λ q. let e = ap number q in omega arith) (r.2 z) (Memᴰ.cases_cons m)))

  pub some_least : (xs : List A) (x : A) → Memᴰ x xs → (y : A) × Memᴰ y (least number xs)
  some_least [] x m = absurd (Memᴰ.not-nil m)
  some_least (w ∷ xs) x m = let r = smallest w xs in (r.0, least_of_lem (w ∷ xs) r.0 r.1 r.2)
