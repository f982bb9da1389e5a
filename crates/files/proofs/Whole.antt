-- The whole record at a byte place: its size, and where there is none.
use Prim.Native.Nat.{ℕ, ◌+◌, ◌-◌, ◌≤◌}
use native.Mathlib.Omega.{arith}
use mathlib.Core.Path.{◌≡◌, sym, ◌∙◌}
use mathlib.Core.Logic.{⊎_elim}
use mathlib.Core.Bool.{true, false, cond, ◌&&◌}
use mathlib.Core.List.{List}
use borrow.Author.Tests.{leb-true, le-leb}
use lib.Dec.{leb}
use lib.ListN.{length, take, drop}
use Rattle.std.specs.Prelude.{Some, None}
use Rattle.std.proofs.lemmas.Option.{none-some, cond_some}
use Rattle.axis.proofs.Tests.{either, and_both, false_of}
use Rattle.files.specs.File.{word_at}
use Rattle.files.specs.Calls.{whole, payload_number, payload_at}

pub record Whole (bytes : List ℕ) (at : ℕ) : Type 0 where
  pub start : at + 2 ≤ length bytes
  pub size : 2 ≤ word_at bytes at
  pub end : at + 2 + word_at bytes at ≤ length bytes

-- a record of this length is found there
pub record Sized (bytes : List ℕ) (at size : ℕ) : Type 0 where
  pub found : whole bytes at ≡ true
  pub is : size ≡ word_at bytes at
  pub more : 2 ≤ size
  pub fits : at + 2 + size ≤ length bytes

module _ (bytes : List ℕ) (at : ℕ) where
  pub whole_says : whole bytes at ≡ true → Whole bytes at
  unfolding whole
  whole_says e =
      let a = and_both (leb (at + 2) (length bytes) && leb 2 (word_at bytes at)) _ e in
      let b = and_both (leb (at + 2) (length bytes)) (leb 2 (word_at bytes at)) a.0 in
      record { start = leb-true _ _ b.0; size = leb-true _ _ b.1; end = leb-true _ _ a.1 }

  pub whole_of : Whole bytes at → whole bytes at ≡ true
  unfolding whole
  whole_of w = rw (le-leb (at + 2) (length bytes) w.start, le-leb 2 (word_at bytes at) w.size, le-leb _ _ w.end)

  -- the length of the record, none where none is whole
  pub size_none : (Whole bytes at → ⊥) → None ≡ cond (whole bytes at) (Some (word_at bytes at)) None
  size_none f = let e : whole bytes at ≡ false = false_of _ (λ t. f (whole_says t)) in rw e

  pub size_whole : Whole bytes at → {size : ℕ} → size ≡ word_at bytes at → Some size ≡ cond (whole bytes at) (Some (word_at bytes at)) None
  size_whole w e = rw (whole_of w, e)

  pub no_size : None ≡ cond (whole bytes at) (Some (word_at bytes at)) None → whole bytes at ≡ false
  no_size e = false_of _ (λ t. none-some _ (rw t at e))

  pub some_size : {size : ℕ} → Some size ≡ cond (whole bytes at) (Some (word_at bytes at)) None → Sized bytes at size
  some_size e =
      let p = cond_some _ _ _ (sym e) in
      let w = whole_says p.0 in
      record { found = p.0; is = sym p.1; more = omega (arith, w.size, p.1); fits = omega (arith, w.end, p.1) }

-- the number of a payload tells whether a whole record is there
module _ (bytes : List ℕ) (at n : ℕ) (is : n ≡ payload_number bytes at) where
  pub no_payload : (n ≡ 0 → ⊥) → whole bytes at ≡ false
  no_payload ne = false_of _ (λ t. ne (is ∙ rw t))

  pub some_payload : n ≡ 0 → Whole bytes at
  some_payload z =
      ⊎_elim (λ t. whole_says bytes at t) (λ f. let e : 11 ≡ 0 = sym (rw f at is) ∙ z in absurd (omega (arith, e))) (either (whole bytes at))

-- the part between the end of the kind and the end of the record
pub payload_part : {bytes : List ℕ} {at size : ℕ} → Sized bytes at size →
    take (at + 2 + size - (at + 4)) (drop (at + 4) bytes) ≡ payload_at bytes at
payload_part {bytes} {at} {size} s =
    let e : at + 2 + size - (at + 4) ≡ word_at bytes at - 2 = omega (arith, s.is, s.more) in
    rw (s.found, e)
