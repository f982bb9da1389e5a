-- How many entries of a list pass a test.
use Prim.Native.Nat.{ℕ, ◌+◌, ◌*◌, ◌≤◌}
use native.Mathlib.Omega.{arith}
use mathlib.Core.Path.{◌≡◌, refl, sym, ◌∙◌}
use mathlib.Core.Logic.{⊎_elim}
use mathlib.Core.Bool.{Bool, true, false, cond, ◌&&◌, not}
use mathlib.Core.List.Memᴰ
use mathlib.Core.List.{List, [], ◌∷◌, Memᴰ}
use lib.ListN.{length}
use Rattle.axis.specs.Range.{only, Distinct}
use Rattle.axis.proofs.Tests.{either, mem_only, only_mem}

-- what a test counts, alone and with another; and the entries of a list that pass it
abbrev pub ones : Bool → ℕ
ones b = cond b 1 0

pub both_ones : (a b : Bool) → ones (a && b) ≡ ones a * ones b
both_ones true b = omega arith
both_ones false b = omega arith

module _ {ℓ} {A : Type ℓ} (test : A → Bool) where
  pub only_first : (x : A) (xs : List A) → length (only test (x ∷ xs)) ≡ ones (test x) + length (only test xs)
  only_first x xs =
      ⊎_elim (λ (e : test x ≡ true). rw e (omega arith)) (λ (e : test x ≡ false). rw e (omega arith)) (either (test x))

  -- every entry passes it or does not
  pub pass_or_not : (xs : List A) → length xs ≡ length (only test xs) + length (only (λ x. not (test x)) xs)
  pass_or_not [] = refl
  pass_or_not (x ∷ xs) =
      let more = pass_or_not xs in
      ⊎_elim (λ (e : test x ≡ true). rw e (omega arith)) (λ (e : test x ≡ false). rw e (omega arith)) (either (test x))

  pub some_pass : (x : A) (xs : List A) → Memᴰ x xs → test x ≡ true → 1 ≤ length (only test xs)
  some_pass x xs m e = positive (only test xs) (mem_only test xs x m e)
    where
      positive : (ys : List A) → Memᴰ x ys → 1 ≤ length ys
      positive [] n = absurd (Memᴰ.not-nil n)
      positive (y ∷ ys) n = omega arith

  pub one_passes : (x y : A) (xs : List A) → Memᴰ x xs → Memᴰ y xs → test x ≡ true → test y ≡ true → length (only test xs) ≡ 1 → x ≡ y
  one_passes x y xs m n e f = single (only test xs) (mem_only test xs x m e) (mem_only test xs y n f)
    where
      single : (ys : List A) → Memᴰ x ys → Memᴰ y ys → length ys ≡ 1 → x ≡ y
      single [] m n l = absurd (Memᴰ.not-nil m)
      single (z ∷ []) m n l = Memᴰ.eq_of_singleton m ∙ sym (Memᴰ.eq_of_singleton n)
      single (z ∷ u ∷ ys) m n l = absurd (omega arith)

  -- at most one, where no two different ones do
  pub one_at_most : (xs : List A) → Distinct xs → ((x y : A) → Memᴰ x xs → Memᴰ y xs → test x ≡ true → test y ≡ true → x ≡ y) → length (only test xs) ≤ 1
  one_at_most [] d same = omega arith
  one_at_most (x ∷ xs) d same =
      ⊎_elim (λ (e : test x ≡ true). rw e (none (only test xs) (alone e)))
      (λ (e : test x ≡ false). rw e (one_at_most xs d.1 (λ y z m n. same y z (Memᴰ.tail m) (Memᴰ.tail n))))
      (either (test x))
    where
      alone : test x ≡ true → (y : A) → Memᴰ y (only test xs) → ⊥
      alone e y m =
          let o = only_mem test xs y m in
          d.0 (Memᴰ.cast (same x y (Memᴰ.head refl) (Memᴰ.tail o.0) e o.1) o.0)

      none : (ys : List A) → ((y : A) → Memᴰ y ys → ⊥) → length (x ∷ ys) ≤ 1
      none [] f = omega arith
      none (y ∷ ys) f = absurd (f y (Memᴰ.head refl))
