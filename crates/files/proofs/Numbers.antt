-- Which numbers the calls on files give.
use Prim.Native.Nat.{ℕ}
use mathlib.Core.Path.{refl, sym, subst}
use mathlib.Core.Logic.{⊎_elim}
use mathlib.Core.Bool.{not}
use mathlib.Core.List.{List, [], ◌∷◌}
use lib.Dec.{leb, ltb}
use lib.ListN.{length}
use Rattle.axis.specs.Range.{OneOf}
use Rattle.axis.proofs.Tests.{by_test}
use Rattle.maps.specs.Record.{plain, good}
use Rattle.files.specs.File.{file_of}
use Rattle.files.specs.Calls.{if_refused, write_number, read_file, whole}
use Rattle.files.specs.Listing.{text_of, text_number}
use Rattle.files.specs.Numbers.{FileNumbers}
use Rattle.files.proofs.GoodFiles.{accepts}

-- What holds of two checks holds of the first refusal of them;
module _ (P : ℕ → Type 0) where
  pub first_refusal : (a b : ℕ) → P a → P b → P (if_refused a a b)
  first_refusal a b = by_test P (λ n. n) (leb 1 a)

  -- and reading bytes gives 0 or 11.
  pub reading_gives : (bytes : List ℕ) → P 0 → P 11 → P (read_file bytes).number
  reading_gives bytes p q = ⊎_elim (λ e. subst P (sym e) p) (λ e. subst P (sym e) q) (accepts bytes).number

pub file_numbers : FileNumbers
unfolding write_number text_number
file_numbers =
    record {
      writes = λ m buffer.
          let ok = OneOf (0 ∷ 2 ∷ 12 ∷ []) in
          by_test ok (λ n. n) (not (good m)) refl
          (by_test ok (λ n. n) (ltb (length buffer) (length (file_of (plain m)))) refl refl);
      reads = λ bytes. reading_gives (OneOf (0 ∷ 11 ∷ [])) bytes refl refl;
      payloads = λ bytes at. by_test (OneOf (0 ∷ 11 ∷ [])) (λ n. n) (whole bytes at) refl refl;
      lists = λ bytes out.
          let ok = OneOf (0 ∷ 11 ∷ 12 ∷ []) in
          first_refusal ok (read_file bytes).number _ (reading_gives ok bytes refl refl)
          (by_test ok (λ n. n) (ltb (length out) (length (text_of bytes))) refl refl);
    }
