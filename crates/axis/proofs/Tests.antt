-- What the tests of `specs/` say: from a test's value to the fact, and back.
use Prim.Native.Nat.{ℕ, zero, suc, ◌+◌, ◌-◌, ◌≤◌, ◌<◌}
use native.Mathlib.Omega.{arith}
use mathlib.Core.Path.{◌≡◌, refl, sym, ap, subst, ◌∙◌}
use mathlib.Core.Logic.{◌⊎◌, inl, inr, ⊎_elim}
use mathlib.Core.Bool.{Bool, true, false, cond, ◌&&◌, ◌||◌, not, or_assoc}
use mathlib.Core.List.Memᴰ
use mathlib.Core.List.{List, [], ◌∷◌, ◌++◌, Memᴰ}
use lib.Dec.{leb, ltb}
use borrow.Author.Tests.{ltb-true, ltb-false, leb-true, eqb-true, eqb-false, not-true, not-false, lt-ltb, le-leb}
use Rattle.axis.specs.Range.{every, some, each, all, any, only, joined}

-- a test is true or false, with the equation
pub either : (b : Bool) → (b ≡ true) ⊎ (b ≡ false)
either true = inl refl
either false = inr refl

-- what is true of both of two things, or of a number of each, is true of the one that a test gives
pub by_test : (P : ℕ → Type 0) {A : Type 0} (number : A → ℕ) (b : Bool) {x y : A} → P (number x) → P (number y) →
    P (number (cond b x y))
by_test P number true p q = p
by_test P number false p q = q

pub true_not_false : (b : Bool) → b ≡ true → b ≡ false → ⊥
true_not_false b p q = let z : ◌≡◌ {A = ℕ} 0 1 = cc in omega arith

pub and_both : (a b : Bool) → (a && b) ≡ true → (a ≡ true) × (b ≡ true)
and_both true b e = (refl, e)
and_both false b e = absurd (true_not_false false e refl)

pub and_of : (a b : Bool) → a ≡ true → b ≡ true → (a && b) ≡ true
and_of a b p q = rw (p, q)

pub and_fails : (a b : Bool) → (a && b) ≡ false → (a ≡ false) ⊎ (b ≡ false)
and_fails true b e = inr e
and_fails false b e = inl refl

pub and_first : (a b : Bool) → a ≡ false → (a && b) ≡ false
and_first a b e = rw e

pub and_last : (a b : Bool) → b ≡ false → (a && b) ≡ false
and_last true b e = e
and_last false b e = refl

pub or_either : (a b : Bool) → (a || b) ≡ true → (a ≡ true) ⊎ (b ≡ true)
or_either true b e = inl refl
or_either false b e = inr e

pub or_left : (a b : Bool) → a ≡ true → (a || b) ≡ true
or_left a b p = rw p

pub or_right : (a b : Bool) → b ≡ true → (a || b) ≡ true
or_right true b p = refl
or_right false b p = p

-- two tests that are true in the same cases are equal
pub same_test : (a b : Bool) → (a ≡ true → b ≡ true) → (b ≡ true → a ≡ true) → a ≡ b
same_test true b f g = sym (f refl)
same_test false true f g = g refl
same_test false false f g = refl

pub false_of : (a : Bool) → (a ≡ true → ⊥) → a ≡ false
false_of true f = absurd (f refl)
false_of false f = refl

pub cond_true {ℓ} : {A : Type ℓ} (b : Bool) (u v : A) → b ≡ true → cond b u v ≡ u
cond_true b u v e = rw e

pub cond_false {ℓ} : {A : Type ℓ} (b : Bool) (u v : A) → b ≡ false → cond b u v ≡ v
cond_false b u v e = rw e

-- k is one of the numbers from `from` up to `to`, that one left out
abbrev pub within : ℕ → ℕ → ℕ → Bool
within from to k = leb from k && ltb k to

pub within_of : (from to k : ℕ) → from ≤ k → k < to → within from to k ≡ true
within_of from to k lo hi = and_of _ _ (le-leb from k lo) (lt-ltb k to hi)

pub within_at : (from to k : ℕ) → within from to k ≡ true → (from ≤ k) × (k < to)
within_at from to k e = let b = and_both (leb from k) (ltb k to) e in (leb-true from k b.0, ltb-true k to b.1)

-- A test behind another, as the code makes them: no where the first fails, else the second.
module _ {t a : Bool} (e : t ≡ a) where
  pub failed : not t ≡ true → a ≡ false
  failed n = sym e ∙ not-true t n

  pub refused : (b : Bool) → not t ≡ true → false ≡ (a && b)
  refused b n = rw (failed n)

  pub passed : not t ≡ false → a ≡ true
  passed n = sym e ∙ not-false t n

  pub second : {r b : Bool} → not t ≡ false → r ≡ b → r ≡ (a && b)
  second n q = rw (passed n) q

-- `every`: the test holds of each number of the run
pub every_at : (from n : ℕ) (test : ℕ → Bool) → every from n test ≡ true → (k : ℕ) → from ≤ k → k < from + n → test k ≡ true
every_at from zero test e k lo hi = absurd (omega arith)
every_at from (suc n) test e k lo hi =
    ⊎_elim (λ (q : from ≡ k). subst (λ (i : ℕ). test i ≡ true) q (and_both (test from) (every (from + 1) n test) e).0)
    (λ (q : from + 1 ≤ k). every_at (from + 1) n test (and_both (test from) (every (from + 1) n test) e).1 k q (omega arith))
    (first_or_later from k lo)
  where
    first_or_later : (a b : ℕ) → a ≤ b → (a ≡ b) ⊎ (a + 1 ≤ b)
    first_or_later a b le = ⊎_elim (λ q. inl (eqb-true a b q)) (λ q. inr (let ne : a ≡ b → ⊥ = eqb-false a b q in omega arith)) (either (lib.Dec.eqb a b))

pub every_of : (from n : ℕ) (test : ℕ → Bool) → ((k : ℕ) → from ≤ k → k < from + n → test k ≡ true) → every from n test ≡ true
every_of from zero test f = refl
every_of from (suc n) test f =
    and_of _ _ (f from (omega arith) (omega arith)) (every_of (from + 1) n test (λ k lo hi. f k (omega arith) (omega arith)))

pub every_same : (from n : ℕ) (f g : ℕ → Bool) → ((k : ℕ) → from ≤ k → k < from + n → f k ≡ g k) → every from n f ≡ every from n g
every_same from zero f g e = refl
every_same from (suc n) f g e =
    rw (e from (omega arith) (omega arith), every_same (from + 1) n f g (λ k lo hi. e k (omega arith) (omega arith)))

-- the walks by a count that falls, as a loop takes them
pub every_turn : (k n : ℕ) (test : ℕ → Bool) → 0 < n → every k n test ≡ (test k && every (k + 1) (n - 1) test)
every_turn k zero test h = absurd (omega arith)
every_turn k (suc n) test h = let e : suc n - 1 ≡ n = omega arith in rw e

pub every_none : (k n : ℕ) (test : ℕ → Bool) → n ≤ 0 → every k n test ≡ true
every_none k zero test h = refl
every_none k (suc n) test h = absurd (omega arith)

pub some_turn : (k n : ℕ) (test : ℕ → Bool) → 0 < n → some k n test ≡ (test k || some (k + 1) (n - 1) test)
some_turn k zero test h = absurd (omega arith)
some_turn k (suc n) test h = let e : suc n - 1 ≡ n = omega arith in rw e

pub some_none : (k n : ℕ) (test : ℕ → Bool) → n ≤ 0 → some k n test ≡ false
some_none k zero test h = refl
some_none k (suc n) test h = absurd (omega arith)

-- `some`: the test fails of each number of the run, or holds of one
pub some_fails : (from n : ℕ) (test : ℕ → Bool) → some from n test ≡ false → (k : ℕ) → from ≤ k → k < from + n → test k ≡ false
some_fails from zero test e k lo hi = absurd (omega arith)
some_fails from (suc n) test e k lo hi =
    ⊎_elim (λ q. subst (λ (i : ℕ). test i ≡ false) (eqb-true from k q) (first (test from) _ e))
    (λ q. let ne = eqb-false from k q in some_fails (from + 1) n test (rest (test from) _ e) k (omega arith) (omega arith))
    (either (lib.Dec.eqb from k))
  where
    first : (a b : Bool) → (a || b) ≡ false → a ≡ false
    first true b e = e
    first false b e = refl

    rest : (a b : Bool) → (a || b) ≡ false → b ≡ false
    rest true b e = absurd (true_not_false true refl e)
    rest false b e = e

pub fails_some : (from n : ℕ) (test : ℕ → Bool) → ((k : ℕ) → from ≤ k → k < from + n → test k ≡ false) → some from n test ≡ false
fails_some from zero test f = refl
fails_some from (suc n) test f =
    rw (f from (omega arith) (omega arith), fails_some (from + 1) n test (λ k lo hi. f k (omega arith) (omega arith)))

pub each_turn {ℓ} : {A : Type ℓ} (k n : ℕ) (f : ℕ → List A) → 0 < n → each k n f ≡ f k ++ each (k + 1) (n - 1) f
each_turn k zero f h = absurd (omega arith)
each_turn k (suc n) f h = let e : suc n - 1 ≡ n = omega arith in rw e

pub each_none {ℓ} : {A : Type ℓ} (k n : ℕ) (f : ℕ → List A) → n ≤ 0 → each k n f ≡ []
each_none k zero f h = refl
each_none k (suc n) f h = absurd (omega arith)

-- a run that a loop takes up to an end
pub each_run {ℓ} : {A : Type ℓ} (k e : ℕ) (f : ℕ → List A) → k < e → each k (e - k) f ≡ f k ++ each (k + 1) (e - (k + 1)) f
each_run k e f h = let less : e - k - 1 ≡ e - (k + 1) = omega arith in each_turn k (e - k) f (omega arith) ∙ rw less

pub each_nothing {ℓ} : {A : Type ℓ} (k n : ℕ) (f : ℕ → List A) → ((i : ℕ) → k ≤ i → i < k + n → f i ≡ []) → each k n f ≡ []
each_nothing k zero f none = refl
each_nothing k (suc n) f none =
    rw (none k (omega arith) (omega arith), each_nothing (k + 1) n f (λ i lo hi. none i (omega arith) (omega arith)))

-- numbers that give nothing are passed over
pub each_past {ℓ} : {A : Type ℓ} (a b e : ℕ) (f : ℕ → List A) → a ≤ b → ((i : ℕ) → a ≤ i → i < b → i < e → f i ≡ []) → each a (e - a) f ≡ each b (e - b) f
each_past a b e f le none = go (b - a) a (omega arith) none
  where
    go : (n k : ℕ) → k + n ≡ b → ((i : ℕ) → k ≤ i → i < b → i < e → f i ≡ []) → each k (e - k) f ≡ each b (e - b) f
    go zero k q none = rw (let same : k ≡ b = omega arith in same)
    go (suc n) k q none =
        ⊎_elim
        (λ t. let lt = ltb-true k e t in each_run k e f lt ∙ rw (none k (omega arith) (omega arith) lt) (go n (k + 1) (omega arith) (λ i lo. none i
        (omega arith))))
        (λ t. let ge = ltb-false k e t in each_none k (e - k) f (omega arith) ∙ sym (each_none b (e - b) f (omega arith)))
        (either (ltb k e))

module _ {ℓ} {A : Type ℓ} where
  pub all_at : (test : A → Bool) (xs : List A) → all test xs ≡ true → (x : A) → Memᴰ x xs → test x ≡ true
  all_at test [] e x h = absurd (Memᴰ.not-nil h)
  all_at test (y ∷ ys) e x h =
      ⊎_elim (λ q. ap test q ∙ (and_both (test y) (all test ys) e).0)
      (λ m. all_at test ys (and_both (test y) (all test ys) e).1 x m) (Memᴰ.cases_cons h)

  pub all_of : (test : A → Bool) (xs : List A) → ((x : A) → Memᴰ x xs → test x ≡ true) → all test xs ≡ true
  all_of test [] f = refl
  all_of test (y ∷ ys) f = and_of _ _ (f y (Memᴰ.head refl)) (all_of test ys (λ x m. f x (Memᴰ.tail m)))

  pub all_append : (test : A → Bool) (xs ys : List A) → all test xs ≡ true → all test ys ≡ true → all test (xs ++ ys) ≡ true
  all_append test [] ys p q = q
  all_append test (x ∷ xs) ys p q =
      let a = and_both (test x) (all test xs) p in and_of _ _ a.0 (all_append test xs ys a.1 q)

  pub any_at : (test : A → Bool) (xs : List A) → any test xs ≡ true → (x : A) × Memᴰ x xs × (test x ≡ true)
  any_at test [] e = absurd (true_not_false false e refl)
  any_at test (y ∷ ys) e =
      ⊎_elim (λ q. (y, Memᴰ.head refl, q))
      (λ q. let r = any_at test ys q in (r.0, Memᴰ.tail r.1, r.2)) (or_either _ _ e)

  pub any_of : (test : A → Bool) (xs : List A) (x : A) → Memᴰ x xs → test x ≡ true → any test xs ≡ true
  any_of test [] x h e = absurd (Memᴰ.not-nil h)
  any_of test (y ∷ ys) x h e =
      ⊎_elim (λ q. or_left (test y) _ (ap test (sym q) ∙ e)) (λ m. or_right (test y) _ (any_of test ys x m e)) (Memᴰ.cases_cons h)

  pub any_same : (f g : A → Bool) (xs : List A) → ((x : A) → Memᴰ x xs → f x ≡ g x) → any f xs ≡ any g xs
  any_same f g [] e = refl
  any_same f g (x ∷ xs) e =
      rw (e x (Memᴰ.head refl), any_same f g xs (λ y m. e y (Memᴰ.tail m)))

  pub any_append : (test : A → Bool) (xs ys : List A) → any test (xs ++ ys) ≡ (any test xs || any test ys)
  any_append test [] ys = refl
  any_append test (x ∷ xs) ys = rw (any_append test xs ys) (sym (or_assoc (test x) (any test xs) (any test ys)))

  -- membership in `only`, `joined` and `each`
  pub only_mem : (test : A → Bool) (xs : List A) (x : A) → Memᴰ x (only test xs) → Memᴰ x xs × (test x ≡ true)
  only_mem test [] x h = absurd (Memᴰ.not-nil h)
  only_mem test (y ∷ ys) x h =
      ⊎_elim
      (λ t. ⊎_elim (λ q. (Memᴰ.head q, ap test q ∙ t)) (λ m. let r = only_mem test ys x m in (Memᴰ.tail r.0, r.1))
      (Memᴰ.cases_cons (rw t at h)))
      (λ t. let r = only_mem test ys x (rw t at h) in (Memᴰ.tail r.0, r.1))
      (either (test y))

  pub mem_only : (test : A → Bool) (xs : List A) (x : A) → Memᴰ x xs → test x ≡ true → Memᴰ x (only test xs)
  mem_only test [] x h e = absurd (Memᴰ.not-nil h)
  mem_only test (y ∷ ys) x h e =
      ⊎_elim
      (λ q. let t : test y ≡ true = ap test (sym q) ∙ e in rw t (Memᴰ.head q))
      (λ m. ⊎_elim (λ t. rw t (Memᴰ.tail (mem_only test ys x m e))) (λ t. rw t (mem_only test ys x m e)) (either (test y)))
      (Memᴰ.cases_cons h)

  pub only_all : (test : A → Bool) (xs : List A) → ((x : A) → Memᴰ x xs → test x ≡ true) → only test xs ≡ xs
  only_all test [] f = refl
  only_all test (x ∷ xs) f =
      let t : test x ≡ true = f x (Memᴰ.head refl) in
      rw (t, only_all test xs (λ y m. f y (Memᴰ.tail m)))

  pub each_mem : (from n : ℕ) (f : ℕ → List A) (x : A) → Memᴰ x (each from n f) → (k : ℕ) × (from ≤ k) × (k < from + n) × Memᴰ x (f k)
  each_mem from zero f x h = absurd (Memᴰ.not-nil h)
  each_mem from (suc n) f x h =
      ⊎_elim (λ m. (from, omega arith, omega arith, m))
      (λ m. let r = each_mem (from + 1) n f x m in
      let lo : from + 1 ≤ r.0 = r.1 in
      let hi : r.0 < from + 1 + n = r.2 in
      (r.0, omega arith, omega arith, r.3))
      (Memᴰ.append_cases (f from) h)

  pub each_same : (from n : ℕ) (f g : ℕ → List A) → ((k : ℕ) → from ≤ k → k < from + n → f k ≡ g k) → each from n f ≡ each from n g
  each_same from zero f g e = refl
  each_same from (suc n) f g e =
      rw (e from (omega arith) (omega arith), each_same (from + 1) n f g (λ k lo hi. e k (omega arith) (omega arith)))

  pub mem_each : (from n : ℕ) (f : ℕ → List A) (x : A) (k : ℕ) → from ≤ k → k < from + n → Memᴰ x (f k) → Memᴰ x (each from n f)
  mem_each from zero f x k lo hi m = absurd (omega arith)
  mem_each from (suc n) f x k lo hi m =
      ⊎_elim (λ q. Memᴰ.append_left _ (subst (λ (i : ℕ). Memᴰ x (f i)) (sym (eqb-true from k q)) m))
      (λ q. let ne : from ≡ k → ⊥ = eqb-false from k q in Memᴰ.append_right (f from) (mem_each (from + 1) n f x k (omega arith) (omega arith) m))
      (either (lib.Dec.eqb from k))

module _ {ℓ ℓ'} {A : Type ℓ} {B : Type ℓ'} where
  pub joined_mem : (f : A → List B) (xs : List A) (y : B) → Memᴰ y (joined f xs) → (x : A) × Memᴰ x xs × Memᴰ y (f x)
  joined_mem f [] y h = absurd (Memᴰ.not-nil h)
  joined_mem f (x ∷ xs) y h =
      ⊎_elim (λ m. (x, Memᴰ.head refl, m))
      (λ m. let r = joined_mem f xs y m in (r.0, Memᴰ.tail r.1, r.2)) (Memᴰ.append_cases (f x) h)

  pub mem_joined : (f : A → List B) (xs : List A) (x : A) (y : B) → Memᴰ x xs → Memᴰ y (f x) → Memᴰ y (joined f xs)
  mem_joined f [] x y h m = absurd (Memᴰ.not-nil h)
  mem_joined f (a ∷ xs) x y h m =
      ⊎_elim (λ q. Memᴰ.append_left _ (subst (λ (i : A). Memᴰ y (f i)) q m)) (λ t. Memᴰ.append_right (f a) (mem_joined f xs x y t m))
      (Memᴰ.cases_cons h)
