-- Two lists of one length side by side.
use Prim.Native.Nat.{ℕ, zero, suc, ◌<◌}
use native.Mathlib.Omega.{arith}
use mathlib.Core.Path.{◌≡◌, refl, sym, ap, ap₂, subst, ◌∙◌}
use mathlib.Core.Logic.{⊎_elim}
use mathlib.Core.List.Memᴰ
use mathlib.Core.List.{List, [], ◌∷◌, map, Memᴰ}
use lib.ListN.{length, get_or}
use Rattle.axis.specs.Range.{beside}

module _ {A : Type 0} {B : Type 0} {C : Type 0} (f : A → B → C) where
  pub beside_length : (xs : List A) (ys : List B) → length ys ≡ length xs → length (beside f xs ys) ≡ length xs
  beside_length [] ys e = refl
  beside_length (x ∷ xs) [] e = absurd (omega arith)
  beside_length (x ∷ xs) (y ∷ ys) e = ap suc (beside_length xs ys (omega arith))

  pub beside_at : (xs : List A) (ys : List B) (i : ℕ) (c : C) (a : A) (b : B) → i < length xs → i < length ys →
      get_or (beside f xs ys) i c ≡ f (get_or xs i a) (get_or ys i b)
  beside_at [] ys i c a b p q = absurd (omega arith)
  beside_at (x ∷ xs) [] i c a b p q = absurd (omega arith)
  beside_at (x ∷ xs) (y ∷ ys) zero c a b p q = refl
  beside_at (x ∷ xs) (y ∷ ys) (suc i) c a b p q = beside_at xs ys i c a b (omega arith) (omega arith)

  -- each entry is made of two entries
  beside_mem : (xs : List A) (ys : List B) (c : C) → Memᴰ c (beside f xs ys) → (x : A) × (y : B) × Memᴰ x xs × Memᴰ y ys × (c ≡ f x y)
  beside_mem [] ys c m = absurd (Memᴰ.not-nil m)
  beside_mem (x ∷ xs) [] c m = absurd (Memᴰ.not-nil m)
  beside_mem (x ∷ xs) (y ∷ ys) c m =
      ⊎_elim (λ e. (x, y, Memᴰ.head refl, Memᴰ.head refl, e))
      (λ k. let r = beside_mem xs ys c k in (r.0, r.1, Memᴰ.tail r.2, Memᴰ.tail r.3, r.4)) (Memᴰ.cases_cons m)

  -- and tells the second,
  module _ (second : C → B) (tells : (x : A) (y : B) → second (f x y) ≡ y) where
    pub beside_seconds : (xs : List A) (ys : List B) → length ys ≡ length xs → map second (beside f xs ys) ≡ ys
    beside_seconds [] [] e = refl
    beside_seconds [] (y ∷ ys) e = absurd (omega arith)
    beside_seconds (x ∷ xs) [] e = absurd (omega arith)
    beside_seconds (x ∷ xs) (y ∷ ys) e = ap₂ ◌∷◌ (tells x y) (beside_seconds xs ys (omega arith))

    pub beside_second : (xs : List A) (ys : List B) (c : C) → Memᴰ c (beside f xs ys) → Memᴰ (second c) ys
    beside_second xs ys c m =
        let r = beside_mem xs ys c m in subst (λ (y : B). Memᴰ y ys) (sym (ap second r.4 ∙ tells r.0 r.1)) r.3

  -- and the first.
  module _ (first : C → A) (tells : (x : A) (y : B) → first (f x y) ≡ x) where
    pub beside_firsts : (xs : List A) (ys : List B) → length ys ≡ length xs → map first (beside f xs ys) ≡ xs
    beside_firsts [] ys e = refl
    beside_firsts (x ∷ xs) [] e = absurd (omega arith)
    beside_firsts (x ∷ xs) (y ∷ ys) e = ap₂ ◌∷◌ (tells x y) (beside_firsts xs ys (omega arith))

    pub beside_first : (xs : List A) (ys : List B) (c : C) → Memᴰ c (beside f xs ys) → Memᴰ (first c) xs
    beside_first xs ys c m =
        let r = beside_mem xs ys c m in subst (λ (x : A). Memᴰ x xs) (sym (ap first r.4 ∙ tells r.0 r.1)) r.2
