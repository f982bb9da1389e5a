-- Lists padded to a length with one entry that a test knows.
use Prim.Native.Nat.{ℕ, zero, suc, ◌-◌, ◌≤◌}
use native.Mathlib.Omega.{arith}
use mathlib.Core.Path.{◌≡◌, refl, ap, ◌∙◌}
use mathlib.Core.Bool.{Bool, true}
use mathlib.Core.Logic.{⊎_elim}
use mathlib.Core.List.Memᴰ
use mathlib.Core.List.{List, [], ◌∷◌, ◌++◌, Memᴰ}
use lib.ListN.{length, take, drop, length-drop, take-append-drop, replicate}
use lib.Seq.{length-take-le}
use Rattle.axis.specs.Range.{all}
use Rattle.axis.proofs.Tests.{and_both, and_of}

pub copies : {A : Type 0} (d : A) (n : ℕ) (x : A) → Memᴰ x (replicate n d) → x ≡ d
copies d zero x m = absurd (Memᴰ.not-nil m)
copies d (suc n) x m = ⊎_elim (λ e. e) (copies d n x) (Memᴰ.cases_cons m)

module _ {ℓ} {A : Type ℓ} (test : A → Bool) (d : A) where
  pub padding_passes : test d ≡ true → (n : ℕ) → all test (replicate n d) ≡ true
  padding_passes e zero = refl
  padding_passes e (suc n) = and_of _ _ e (padding_passes e n)

  module _ (only_d : (x : A) → test x ≡ true → x ≡ d) where
    pub all_padding : (xs : List A) → all test xs ≡ true → xs ≡ replicate (length xs) d
    all_padding [] e = refl
    all_padding (x ∷ xs) e =
        let a = and_both (test x) (all test xs) e in
        ap (λ (y : A). y ∷ xs) (only_d x a.0) ∙ ap (λ (l : List A). d ∷ l) (all_padding xs a.1)

    -- what is used of such a list, padded again, is the list
    pub padded : (xs : List A) (n k : ℕ) → length xs ≡ n → k ≤ n → all test (drop k xs) ≡ true →
        take k xs ++ replicate (n - length (take k xs)) d ≡ xs
    padded xs n k full le e =
        let used : length (take k xs) ≡ k = length-take-le k xs (omega arith) in
        let left : n - length (take k xs) ≡ length (drop k xs) = rw (used, length-drop, full) in
        rw (left, ← all_padding (drop k xs) e) (take-append-drop k xs)
