-- Lists in which no entry stands twice, and lists whose entries rise.
use Prim.Native.Nat.{ℕ, zero, suc, ◌+◌, ◌≤◌, ◌<◌, zero-le, suc-le-suc}
use native.Mathlib.Omega.{arith}
use mathlib.Core.Path.{◌≡◌, refl, sym, ap, ap₂, subst, ◌∙◌}
use mathlib.Core.Logic.{◌⊎◌, inl, inr, ⊎_elim}
use mathlib.Core.Bool.{Bool}
use mathlib.Core.List.Memᴰ
use mathlib.Core.List.{List, [], ◌∷◌, ◌++◌, map, Memᴰ}
use lib.ListN.{length, length-map}
use Rattle.axis.specs.Range.{each, only, Distinct, Ordered}
use Rattle.axis.proofs.Tests.{either, only_mem, each_mem}
use Rattle.axis.proofs.Members.{map_mem, mem_map}

module _ {ℓ} {A : Type ℓ} where
  -- a list without one of its members
  without : {x : A} (ys : List A) → Memᴰ x ys → List A
  without [] m = elim m [ ]
  without (y ∷ ys) (Memᴰ.head e) = ys
  without (y ∷ ys) (Memᴰ.tail m) = y ∷ without ys m

  without_length : {x : A} (ys : List A) (m : Memᴰ x ys) → length ys ≡ suc (length (without ys m))
  unfolding without
  without_length [] m = elim m [ ]
  without_length (y ∷ ys) (Memᴰ.head e) = refl
  without_length (y ∷ ys) (Memᴰ.tail m) = ap suc (without_length ys m)

  still_there : {x : A} (ys : List A) (m : Memᴰ x ys) (z : A) → (z ≡ x → ⊥) → Memᴰ z ys → Memᴰ z (without ys m)
  unfolding without
  still_there [] m z ne h = elim m [ ]
  still_there (y ∷ ys) (Memᴰ.head e) z ne h = ⊎_elim (λ q. absurd (ne (q ∙ sym e))) (λ k. k) (Memᴰ.cases_cons h)
  still_there (y ∷ ys) (Memᴰ.tail m) z ne h = ⊎_elim (λ q. Memᴰ.head q) (λ k. Memᴰ.tail (still_there ys m z ne k)) (Memᴰ.cases_cons h)

  -- a list without repeats is no longer than one that has all its members
  pub distinct_length : (xs ys : List A) → Distinct xs → ((x : A) → Memᴰ x xs → Memᴰ x ys) → length xs ≤ length ys
  distinct_length [] ys d f = zero-le
  distinct_length (x ∷ xs) ys d f =
      let m = f x (Memᴰ.head refl) in
      let shorter : length xs ≤ length (without ys m) =
      distinct_length xs (without ys m) d.1
      (λ z h. still_there ys m z (λ e. d.0 (subst (λ (u : A). Memᴰ u xs) e h)) (f z (Memᴰ.tail h))) in
      subst (λ (n : ℕ). suc (length xs) ≤ n) (sym (without_length ys m)) (suc-le-suc shorter)

module _ {ℓ κ} {A : Type ℓ} {B : Type κ} where
  pub map_distinct : (f : A → B) (xs : List A) → Distinct xs → ((x y : A) → Memᴰ x xs → Memᴰ y xs → f x ≡ f y → x ≡ y) → Distinct (map f xs)
  map_distinct f [] d inj = tt
  map_distinct f (x ∷ xs) d inj = (
    λ m.
        let r = map_mem f xs (f x) m in
        d.0 (subst (λ (u : A). Memᴰ u xs) (sym (inj x r.0 (Memᴰ.head refl) (Memᴰ.tail r.1) r.2)) r.1),
    map_distinct f xs d.1 (λ u v mu mv. inj u v (Memᴰ.tail mu) (Memᴰ.tail mv)),
  )

  -- a list without repeats, whose entries have keys of their own, is no longer than one that has all these keys
  pub keyed_length : (key : A → B) (xs ys : List A) → Distinct xs → ((x y : A) → Memᴰ x xs → Memᴰ y xs → key x ≡ key y → x ≡ y) →
      ((x : A) → Memᴰ x xs → (y : A) × Memᴰ y ys × (key y ≡ key x)) → length xs ≤ length ys
  keyed_length key xs ys d own f =
      rw (← length-map xs key, ← length-map ys key)
      (distinct_length (map key xs) (map key ys) (map_distinct key xs d own)
      (λ k m. let r = map_mem key xs k m in
      let y = f r.0 r.1 in
      subst (λ (u : B). Memᴰ u (map key ys)) (y.2 ∙ sym r.2) (mem_map key ys y.0 y.1)))

module _ {ℓ} {A : Type ℓ} where
  pub only_distinct : (test : A → Bool) (xs : List A) → Distinct xs → Distinct (only test xs)
  only_distinct test [] d = tt
  only_distinct test (x ∷ xs) d =
      ⊎_elim (λ t. rw t (λ m. d.0 (only_mem test xs x m).0, only_distinct test xs d.1)) (λ t. rw t (only_distinct test xs d.1)) (either (test x))

  append_distinct : (xs ys : List A) → Distinct xs → Distinct ys → ((x : A) → Memᴰ x xs → Memᴰ x ys → ⊥) → Distinct (xs ++ ys)
  append_distinct [] ys d e f = e
  append_distinct (x ∷ xs) ys d e f = (
    λ m. ⊎_elim d.0 (f x (Memᴰ.head refl)) (Memᴰ.append_cases xs m),
    append_distinct xs ys d.1 e (λ y m n. f y (Memᴰ.tail m) n),
  )

  -- lists by number, none of whose entries has two numbers
  pub each_distinct : (key : A → ℕ) (from n : ℕ) (f : ℕ → List A) →
      ((k : ℕ) → Distinct (f k)) → ((k : ℕ) (x : A) → Memᴰ x (f k) → key x ≡ k) → Distinct (each from n f)
  each_distinct key from zero f d e = tt
  each_distinct key from (suc n) f d e =
      append_distinct (f from) (each (from + 1) n f) (d from) (each_distinct key (from + 1) n f d e)
      (λ x m r.
      let found = each_mem (from + 1) n f x r in
      let here : key x ≡ from = e from x m in
      let there : key x ≡ found.0 = e found.0 x found.3 in
      let after : from + 1 ≤ found.0 = found.1 in
      omega arith)

  -- a list without repeats whose members all equal x, x among them
  pub singleton : (x : A) (xs : List A) → Distinct xs → ((y : A) → Memᴰ y xs → y ≡ x) → Memᴰ x xs → xs ≡ x ∷ []
  singleton x [] d e m = absurd (Memᴰ.not-nil m)
  singleton x (y ∷ []) d e m = ap (λ (z : A). z ∷ []) (e y (Memᴰ.head refl))
  singleton x (y ∷ z ∷ zs) d e m =
      absurd (d.0 (Memᴰ.head (e y (Memᴰ.head refl) ∙ sym (e z (Memᴰ.tail (Memᴰ.head refl))))))

  pub nothing : (xs : List A) → ((y : A) → Memᴰ y xs → ⊥) → xs ≡ []
  nothing [] f = refl
  nothing (x ∷ xs) f = absurd (f x (Memᴰ.head refl))

module _ {ℓ} {A : Type ℓ} (key : A → ℕ) where
  -- the keys rise strictly
  abbrev pub Ascending : List A → Type ℓ
  Ascending xs = Ordered (λ x y. key x < key y) xs

  -- ascending lists with the same members are equal
  pub ascending_unique : (xs ys : List A) → Ascending xs → Ascending ys →
      ((x : A) → Memᴰ x xs → Memᴰ x ys) → ((y : A) → Memᴰ y ys → Memᴰ y xs) → xs ≡ ys
  ascending_unique [] [] a b f g = refl
  ascending_unique [] (y ∷ ys) a b f g = absurd (Memᴰ.not-nil (g y (Memᴰ.head refl)))
  ascending_unique (x ∷ xs) [] a b f g = absurd (Memᴰ.not-nil (f x (Memᴰ.head refl)))
  ascending_unique (x ∷ xs) (y ∷ ys) a b f g =
      let e : x ≡ y =
      ⊎_elim (λ q. q)
      (λ m. ⊎_elim (λ q. sym q) (λ n. let lt : key x < key y = a.0 y n in let gt : key y < key x = b.0 x m in absurd (omega arith))
      (Memᴰ.cases_cons (g y (Memᴰ.head refl))))
      (Memᴰ.cases_cons (f x (Memᴰ.head refl))) in
      ap₂ ◌∷◌ e
      (ascending_unique xs ys a.1 b.1
      (λ z m. ⊎_elim (λ q. absurd (above x z (a.0 z m) (e ∙ sym q))) (λ n. n) (Memᴰ.cases_cons (f z (Memᴰ.tail m))))
      (λ z m. ⊎_elim (λ q. absurd (above y z (b.0 z m) (sym e ∙ sym q))) (λ n. n) (Memᴰ.cases_cons (g z (Memᴰ.tail m)))))
    where
      above : (u v : A) → key u < key v → u ≡ v → ⊥
      above u v lt q = let s = ap key q in omega arith

-- lists ordered one after the other
module _ {ℓ} {A : Type ℓ} (before : A → A → Type 0) where
  append_ordered : (xs ys : List A) → Ordered before xs → Ordered before ys →
      ((x y : A) → Memᴰ x xs → Memᴰ y ys → before x y) → Ordered before (xs ++ ys)
  append_ordered [] ys a b f = b
  append_ordered (x ∷ xs) ys a b f = (
    λ y m. ⊎_elim (a.0 y) (λ n. f x y (Memᴰ.head refl) n) (Memᴰ.append_cases xs m),
    append_ordered xs ys a.1 b (λ u v mu mv. f u v (Memᴰ.tail mu) mv),
  )

  pub each_ordered : (from n : ℕ) (f : ℕ → List A) → ((k : ℕ) → Ordered before (f k)) →
      ((j k : ℕ) (x y : A) → j < k → k < from + n → Memᴰ x (f j) → Memᴰ y (f k) → before x y) → Ordered before (each from n f)
  each_ordered from zero f a lt = tt
  each_ordered from (suc n) f a lt =
      append_ordered (f from) (each (from + 1) n f) (a from)
      (each_ordered (from + 1) n f a (λ j k x y l hi. lt j k x y l (omega arith)))
      (λ x y m r.
      let found = each_mem (from + 1) n f y r in
      let lo : from + 1 ≤ found.0 = found.1 in
      let hi : found.0 < from + 1 + n = found.2 in
      lt from found.0 x y (omega arith) (omega arith) m found.3)

  -- a list of at most one kind of entry, without repeats
  pub lone : (xs : List A) → Distinct xs → ((x y : A) → Memᴰ x xs → Memᴰ y xs → x ≡ y) → Ordered before xs
  lone [] d e = tt
  lone (x ∷ []) d e = (λ y m. absurd (Memᴰ.not-nil m), tt)
  lone (x ∷ y ∷ ys) d e = absurd (d.0 (Memᴰ.head (e x y (Memᴰ.head refl) (Memᴰ.tail (Memᴰ.head refl)))))

  -- the first of a list
  pub first_before : (x : A) (xs : List A) → Ordered before (x ∷ xs) → (y : A) → Memᴰ y (x ∷ xs) → (y ≡ x) ⊎ before x y
  first_before x xs o y m = ⊎_elim inl (λ n. inr (o.0 y n)) (Memᴰ.cases_cons m)
