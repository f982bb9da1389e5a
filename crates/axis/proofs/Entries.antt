-- Entries of a list one by one, as a loop takes them, and lists that agree entry by entry.
use Prim.Native.Nat.{ℕ, suc, ◌+◌, ◌≤◌, ◌<◌}
use native.Mathlib.Omega.{arith}
use native.Mathlib.Numerals.{add-one}
use mathlib.Core.Path.{◌≡◌, refl, ap, subst, ◌∙◌}
use mathlib.Core.Bool.{Bool, true, ◌&&◌}
use mathlib.Core.List.Memᴰ
use mathlib.Core.List.{List, [], ◌∷◌, Memᴰ}
use lib.ListN.{length, get_or, take, drop, length-take, take-append-drop, drop_of_length-le}
use lib.Seq.{drop-cons, get_or-take, length-take-le}
use Rattle.axis.specs.Range.{all, agree}
use Rattle.axis.proofs.Tests.{true_not_false, and_both, and_of}

module _ {ℓ} {A : Type ℓ} (xs : List A) (n i : ℕ) where
  pub none_left : n ≤ i → drop i (take n xs) ≡ []
  none_left done = drop_of_length-le (take n xs) {i = i} (omega (arith, length-take n xs))

  module _ (le : n ≤ length xs) where
    pub left_turn : (d : A) → i < n → drop i (take n xs) ≡ get_or xs i d ∷ drop (i + 1) (take n xs)
    left_turn d lt =
        let l = length-take-le n xs le in
        drop-cons (take n xs) i d (omega arith) ∙ rw (add-one, get_or-take n xs i d lt)

    pub left_none : n ≤ i → drop i (take n xs) ≡ []
    left_none = none_left

    pub left_mem : (d : A) → i < n → Memᴰ (get_or xs i d) (take n xs)
    left_mem d lt =
        rw (← take-append-drop i (take n xs))
        (Memᴰ.append_right (take i (take n xs)) (rw (left_turn d lt) (Memᴰ.head refl)))

-- what stands in front of a list stands in it
pub taken_mem {ℓ} : {A : Type ℓ} (n : ℕ) (xs : List A) (x : A) → Memᴰ x (take n xs) → Memᴰ x xs
taken_mem n xs x m = subst (Memᴰ x) (take-append-drop n xs) (Memᴰ.append_left (drop n xs) m)

-- a test of the entries from a place on, as a loop takes them
module _ {ℓ} {A : Type ℓ} (test : A → Bool) (xs : List A) (i : ℕ) where
  pub rest_turn : (d : A) → i < length xs → all test (drop i xs) ≡ (test (get_or xs i d) && all test (drop (i + 1) xs))
  rest_turn d lt = rw (drop-cons xs i d lt, add-one)

  pub rest_none : length xs ≤ i → all test (drop i xs) ≡ true
  rest_none le = rw (drop_of_length-le xs le)

-- lists that agree entry by entry have one length
pub agree_length {ℓ} : {A : Type ℓ} (test : A → A → Bool) (xs ys : List A) → agree test xs ys ≡ true → length xs ≡ length ys
agree_length test [] [] e = refl
agree_length test [] (y ∷ ys) e = absurd (true_not_false _ e refl)
agree_length test (x ∷ xs) [] e = absurd (true_not_false _ e refl)
agree_length test (x ∷ xs) (y ∷ ys) e = ap suc (agree_length test xs ys (and_both (test x y) _ e).1)

-- where the test tells that entries are the same, lists that agree are the same, and a list agrees with itself
pub agree_same {ℓ} : {A : Type ℓ} (test : A → A → Bool) → ((x y : A) → test x y ≡ true → x ≡ y) → (xs ys : List A) →
    agree test xs ys ≡ true → xs ≡ ys
agree_same test says [] [] e = refl
agree_same test says [] (y ∷ ys) e = absurd (true_not_false _ e refl)
agree_same test says (x ∷ xs) [] e = absurd (true_not_false _ e refl)
agree_same test says (x ∷ xs) (y ∷ ys) e =
    let b = and_both (test x y) _ e in
    let p = says x y b.0 in
    let q = agree_same test says xs ys b.1 in
    rw (p, q)

pub agree_self {ℓ} : {A : Type ℓ} (test : A → A → Bool) → ((x : A) → test x x ≡ true) → (xs : List A) → agree test xs xs ≡ true
agree_self test says [] = refl
agree_self test says (x ∷ xs) = and_of _ _ (says x) (agree_self test says xs)
