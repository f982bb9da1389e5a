-- What is in a list and what stands at its places; lists joined from one list for each entry.
use Prim.Native.Nat.{ℕ, zero, suc, ◌+◌, ◌<◌}
use native.Mathlib.Omega.{arith}
use native.Mathlib.Numerals.{add-one}
use mathlib.Core.Path.{◌≡◌, refl, sym, ap, ap₂, ◌∙◌}
use mathlib.Core.Logic.{◌⊎◌, inl, inr, ⊎_elim}
use mathlib.Core.List.Memᴰ
use mathlib.Core.List.{List, [], ◌∷◌, ◌++◌, map, map-append, append_assoc, append-nil, Memᴰ}
use lib.ListN.{length, get_or, set, take}
use lib.Seq.{take-suc}
use Rattle.axis.specs.Range.{each, joined}

module _ {ℓ κ} {A : Type ℓ} {B : Type κ} where
  pub mem_map : (f : A → B) (xs : List A) (x : A) → Memᴰ x xs → Memᴰ (f x) (map f xs)
  mem_map f [] x m = elim m [ ]
  mem_map f (y ∷ ys) x (Memᴰ.head e) = Memᴰ.head (ap f e)
  mem_map f (y ∷ ys) x (Memᴰ.tail m) = Memᴰ.tail (mem_map f ys x m)

  pub map_mem : (f : A → B) (xs : List A) (y : B) → Memᴰ y (map f xs) → (x : A) × Memᴰ x xs × (y ≡ f x)
  map_mem f [] y m = absurd (Memᴰ.not-nil m)
  map_mem f (x ∷ xs) y m =
      ⊎_elim (λ q. (x, Memᴰ.head refl, q)) (λ k. let r = map_mem f xs y k in (r.0, Memᴰ.tail r.1, r.2)) (Memᴰ.cases_cons m)

-- a function of the entries of joined lists
pub map_each {ℓ κ} : {A : Type ℓ} {B : Type κ} (f : A → B) (from n : ℕ) (g : ℕ → List A) → map f (each from n g) ≡ each from n (λ k. map f (g k))
map_each f from zero g = refl
map_each f from (suc n) g = map-append f (g from) (each (from + 1) n g) ∙ ap (λ (zs : List _). map f (g from) ++ zs) (map_each f (from + 1) n g)

-- Lists by place: what stands at a place is in the list,
pub entry {ℓ} : {A : Type ℓ} (xs : List A) (i : ℕ) (d : A) → i < length xs → Memᴰ (get_or xs i d) xs
entry [] i d lt = absurd (omega arith)
entry (x ∷ xs) zero d lt = Memᴰ.head refl
entry (x ∷ xs) (suc i) d lt = Memᴰ.tail (entry xs i d (omega arith))

-- what is in the list stands at some place,
pub placed {ℓ} : {A : Type ℓ} (xs : List A) (x d : A) → Memᴰ x xs → (i : ℕ) × (i < length xs) × (get_or xs i d ≡ x)
placed [] x d m = elim m [ ]
placed (y ∷ ys) x d m =
    ⊎_elim (λ q. (0, omega arith, sym q)) (λ n. let r = placed ys x d n in (suc r.0, omega (arith, r.1), r.2)) (Memᴰ.cases_cons m)

-- a mapped list has at a place what is mapped there,
pub entry_map {ℓ ℓ'} : {A : Type ℓ} {B : Type ℓ'} (f : A → B) (xs : List A) (i : ℕ) (d : A) (e : B) → i < length xs →
    get_or (map f xs) i e ≡ f (get_or xs i d)
entry_map f [] i d e lt = absurd (omega arith)
entry_map f (x ∷ xs) zero d e lt = refl
entry_map f (x ∷ xs) (suc i) d e lt = entry_map f xs i d e (omega arith)

-- and a set place brings in only what it is set to.
pub set_mem {ℓ} : {A : Type ℓ} (xs : List A) (i : ℕ) (v x : A) → Memᴰ x (set xs i v) → (x ≡ v) ⊎ Memᴰ x xs
set_mem [] i v x m = inr m
set_mem (y ∷ ys) zero v x m = ⊎_elim inl (λ n. inr (Memᴰ.tail n)) (Memᴰ.cases_cons m)
set_mem (y ∷ ys) (suc i) v x m =
    ⊎_elim (λ q. inr (Memᴰ.head q)) (λ n. ⊎_elim inl (λ k. inr (Memᴰ.tail k)) (set_mem ys i v x n)) (Memᴰ.cases_cons m)

-- the entries of one more of a list
pub joined_append : {A B : Type 0} (f : A → List B) (xs ys : List A) → joined f (xs ++ ys) ≡ joined f xs ++ joined f ys
joined_append f [] ys = refl
joined_append f (x ∷ xs) ys = rw (joined_append f xs ys, append_assoc)

pub joined_more : {A B : Type 0} (f : A → List B) (xs : List A) (i : ℕ) (d : A) → i < length xs →
    joined f (take (i + 1) xs) ≡ joined f (take i xs) ++ f (get_or xs i d)
joined_more f xs i d lt = rw (add-one, take-suc xs i d lt, joined_append, append-nil)

-- one entry for each number of a run
pub each_length : {A : Type 0} (k n : ℕ) (got : ℕ → A) → length (each k n (λ i. got i ∷ [])) ≡ n
each_length k zero got = refl
each_length k (suc n) got = ap suc (each_length (k + 1) n got)

-- where these are the entries of a list in order, they make the list
pub each_entry : {A : Type 0} (got : ℕ → A) (d : A) (xs : List A) (k : ℕ) → ((i : ℕ) → i < length xs → got (k + i) ≡ get_or xs i d) →
    each k (length xs) (λ i. got i ∷ []) ≡ xs
each_entry got d [] k same = refl
each_entry got d (x ∷ xs) k same =
    ap₂ ◌∷◌ (ap got (omega arith) ∙ same 0 (omega arith))
    (each_entry got d xs (k + 1) (λ i lt. ap got (omega arith) ∙ same (suc i) (omega arith)))
