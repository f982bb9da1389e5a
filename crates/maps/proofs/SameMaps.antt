-- Are two maps the same: what the tests of two good records and their tables say.
use mathlib.Core.Path.{◌≡◌, refl, sym, ap₂, ◌∙◌}
use mathlib.Core.Bool.{Bool, true, false, ◌&&◌, and-false}
use mathlib.Core.List.{List, [], ◌∷◌}
use lib.ListN.{take}
use lib.Pointwise.{pointwise}
use Rattle.axis.specs.Range.{agree}
use Rattle.axis.proofs.Entries.{agree_length}
use Rattle.mesh.specs.declared.Table.{Table}
use Rattle.mesh.specs.Blends.{same}
use Rattle.mesh.specs.Sound.{blends_of}
use Rattle.maps.specs.declared.Map.{Map}
use Rattle.maps.specs.Plain.{blends}
use Rattle.maps.specs.Record.{plain, good}
use Rattle.maps.specs.Sameness.{same_plain, sameness}
use Rattle.maps.proofs.Changing.{GoodMap, live_blends, live_count, live_values}

module _ (a b : Map) where
  pub first_bad : good a ≡ false → record { number = 2; yes = false } ≡ sameness a b
  unfolding sameness
  first_bad e = rw e

  pub second_bad : good b ≡ false → record { number = 2; yes = false } ≡ sameness a b
  unfolding sameness
  second_bad e = rw (e, and-false (good a))

  pub both_good : good a ≡ true → good b ≡ true → (told : Bool) → told ≡ same_plain (plain a) (plain b) → record { number = 0; yes = told } ≡ sameness a b
  unfolding sameness
  both_good p q told e = rw (p, q, e)

-- where the blends agree, there are as many values
module _ {a b : Map} {s t : Table} (p : GoodMap a s) (q : GoodMap b t) where
  pub same_count : agree same (blends_of s) (blends_of t) ≡ true → take s.count b.values ≡ (plain b).values
  same_count e =
      let agreed = rw (live_blends p, live_blends q) at e in
      let counts : s.count ≡ t.count = live_count p ∙ agree_length same (blends (plain a)) (blends (plain b)) agreed ∙ sym (live_count q) in
      rw counts (live_values q)

-- `==` of two lists agrees entry by entry
pub equal_agree : {A : Type 0} (one other : A → A → Bool) → ((x y : A) → one x y ≡ other x y) → (xs ys : List A) → pointwise one xs ys ≡ agree other xs ys
equal_agree one other e [] [] = refl
equal_agree one other e [] (y ∷ ys) = refl
equal_agree one other e (x ∷ xs) [] = refl
equal_agree one other e (x ∷ xs) (y ∷ ys) = ap₂ ◌&&◌ (e x y) (equal_agree one other e xs ys)
