-- Walks over a run of numbers and over a list, as tests and as lists.
use Rattle.std.specs.Prelude.{ℕ, zero, suc, ◌+◌, min, max, ◌≡◌, Bool, true, false, cond, ◌&&◌, ◌||◌, not, leb, eqb}
use mathlib.Core.List.{List, [], ◌∷◌, ◌++◌, Memᴰ}

-- whether the test holds of each of the `n` numbers from `from` on
abbrev pub every : ℕ → ℕ → (ℕ → Bool) → Bool
every from zero test = true
every from (suc n) test = test from && every (from + 1) n test

-- whether it holds of some of them
abbrev pub some : ℕ → ℕ → (ℕ → Bool) → Bool
some from zero test = false
some from (suc n) test = test from || some (from + 1) n test

-- the lists of the `n` numbers from `from` on, joined in rising order
abbrev pub each {ℓ} : {A : Type ℓ} → ℕ → ℕ → (ℕ → List A) → List A
each from zero f = []
each from (suc n) f = f from ++ each (from + 1) n f

-- whether one of two tests holds and the other does not
abbrev pub differ : Bool → Bool → Bool
differ a b = (a && not b) || (not a && b)

-- those of the `n` numbers from `from` on at which a test turns: it differs at the next number
abbrev pub turns : (ℕ → Bool) → ℕ → Bool
turns test k = differ (test k) (test (k + 1))

abbrev pub turns_from : ℕ → ℕ → (ℕ → Bool) → List ℕ
turns_from from n test = each from n (λ k. cond (turns test k) (k ∷ []) [])

-- whether the test holds of each entry of a list; of some entry
abbrev pub all {ℓ} : {A : Type ℓ} → (A → Bool) → List A → Bool
all test [] = true
all test (x ∷ xs) = test x && all test xs

abbrev pub any {ℓ} : {A : Type ℓ} → (A → Bool) → List A → Bool
any test [] = false
any test (x ∷ xs) = test x || any test xs

-- a number is one of these
abbrev pub OneOf : List ℕ → ℕ → Type 0
OneOf numbers n = any (eqb n) numbers ≡ true

-- the entries of a list for which the test holds, in their order
abbrev pub only {ℓ} : {A : Type ℓ} → (A → Bool) → List A → List A
only test [] = []
only test (x ∷ xs) = let rest = only test xs in cond (test x) (x ∷ rest) rest

-- the entries of a list for which a number is least, in their order
abbrev pub least {ℓ} : {A : Type ℓ} → (A → ℕ) → List A → List A
least number xs = only (λ x. all (λ y. leb (number x) (number y)) xs) xs

-- the greatest of some numbers, and the smallest; 0 where there are none
abbrev pub greatest : List ℕ → ℕ
greatest [] = 0
greatest (n ∷ ns) = max n (greatest ns)

abbrev pub smallest : List ℕ → ℕ
smallest [] = 0
smallest (n ∷ []) = n
smallest (n ∷ k ∷ ns) = min n (smallest (k ∷ ns))

-- the lists that the entries give, joined
abbrev pub joined {ℓ ℓ'} : {A : Type ℓ} {B : Type ℓ'} → (A → List B) → List A → List B
joined f [] = []
joined f (x ∷ xs) = f x ++ joined f xs

-- two lists side by side: what their entries make, as long as both have one
abbrev pub beside {ℓ ℓ' ℓ''} : {A : Type ℓ} {B : Type ℓ'} {C : Type ℓ''} → (A → B → C) → List A → List B → List C
beside f [] ys = []
beside f (x ∷ xs) [] = []
beside f (x ∷ xs) (y ∷ ys) = f x y ∷ beside f xs ys

-- whether two lists agree entry by entry, by a test of two entries
abbrev pub agree {ℓ} : {A : Type ℓ} → (A → A → Bool) → List A → List A → Bool
agree test [] [] = true
agree test [] (y ∷ ys) = false
agree test (x ∷ xs) [] = false
agree test (x ∷ xs) (y ∷ ys) = test x y && agree test xs ys

-- no entry of a list stands in it twice
abbrev pub Distinct {ℓ} : {A : Type ℓ} → List A → Type ℓ
Distinct [] = Unit
Distinct (x ∷ xs) = (Memᴰ x xs → ⊥) × Distinct xs

-- each entry of a list comes before all that stand after it
abbrev pub Ordered {ℓ} : {A : Type ℓ} → (A → A → Type 0) → List A → Type ℓ
Ordered before [] = Unit
Ordered before (x ∷ xs) = ((y : _) → Memᴰ y xs → before x y) × Ordered before xs
