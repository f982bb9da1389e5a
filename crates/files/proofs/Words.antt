-- Numbers of 16 bits in bytes: what is put at a place is read there.
use Prim.Native.Nat.{ℕ, zero, suc, ◌+◌, ◌*◌, ◌/◌, ◌%◌, ◌<◌}
use native.Mathlib.Omega.{arith}
use mathlib.Core.Path.{◌≡◌, refl, ap, ◌∙◌}
use mathlib.Core.Bool.{Bool, true, false}
use mathlib.Core.List.{List, [], ◌∷◌, ◌++◌, map, append_assoc, Memᴰ}
use borrow.Author.Tests.{ltb-true, lt-ltb}
use lib.Dec.{ltb}
use lib.ListN.{length, get_or, drop, length-append}
use lib.Seq.{get_or-drop, drop-drop, drop_at}
use Rattle.axis.specs.Range.{each, joined, all}
use Rattle.axis.proofs.Tests.{and_both, and_of, all_append}
use Rattle.maps.specs.Plain.{Plain, blends}
use Rattle.maps.specs.Values.{paired}
use Rattle.mesh.specs.declared.Split.{Split}
use Rattle.files.specs.File.{value_size, word, entry, word_at, head, split_entry, TableEntry, entries_of, place_and_value, value_entry, tail, file_with, file_in}

little : (n : ℕ) → n < 65536 → word_at (word n) 0 ≡ n
little n lt = omega arith

-- the number at a place is that of the bytes from there on
pub word_from : (bytes : List ℕ) (at k : ℕ) → word_at bytes (at + k) ≡ word_at (drop at bytes) k
word_from bytes at k =
    let e : at + k + 1 ≡ at + (k + 1) = omega arith in
    rw (e, get_or-drop at bytes k 0, get_or-drop at bytes (k + 1) 0)

-- a number put among the bytes that stand from a place on is read there
pub number_read : (bytes : List ℕ) (at : ℕ) (front : List ℕ) → drop at bytes ≡ front → (k n : ℕ) →
    word_at front k ≡ word_at (word n) 0 → n < 65536 → word_at bytes (at + k) ≡ n
number_read bytes at front e k n q lt = word_from bytes at k ∙ ap (λ (l : List ℕ). word_at l k) e ∙ q ∙ little n lt

-- The entries of splits have one length, and in a file of one form those of values have.
pub split_long : (s : Split) → length (split_entry s) ≡ 12
split_long s = refl

pub value_long : (old : Bool) (e : TableEntry) → length (value_entry old e) ≡ value_size old
value_long true e = refl
value_long false e = refl

-- Entries of one length in a row:
module _ {A : Type 0} (entry : A → List ℕ) (size : ℕ) (long : (x : A) → length (entry x) ≡ size) where
  pub joined_length : (xs : List A) → length (joined entry xs) ≡ size * length xs
  joined_length [] = omega arith
  joined_length (x ∷ xs) = rw (length-append, long x, joined_length xs) (omega arith)

  -- past one of them stand the others
  pub past_entry : (bytes : List ℕ) (at : ℕ) (x : A) (rest : List ℕ) → drop at bytes ≡ entry x ++ rest → drop (at + size) bytes ≡ rest
  past_entry bytes at x rest e = rw (← drop-drop size at bytes, e) (drop_at (entry x) rest size (long x))

  -- where each is read at its place, all of them are read in order
  module _ {B : Type 0} (bytes : List ℕ) (base : ℕ) (got : ℕ → B) (out : A → B) where
    pub each_read : (xs : List A) (rest : List ℕ) (k : ℕ) → drop (base + size * k) bytes ≡ joined entry xs ++ rest →
        ((x : A) → Memᴰ x xs → (i : ℕ) (more : List ℕ) → drop (base + size * i) bytes ≡ entry x ++ more → got i ≡ out x) →
        each k (length xs) (λ i. got i ∷ []) ≡ map out xs
    each_read [] rest k e reads = refl
    each_read (x ∷ xs) rest k e reads =
        let here : drop (base + size * k) bytes ≡ entry x ++ (joined entry xs ++ rest) = e ∙ append_assoc (entry x) (joined entry xs) rest in
        let place : base + size * (k + 1) ≡ base + size * k + size = omega arith in
        let next : drop (base + size * (k + 1)) bytes ≡ joined entry xs ++ rest =
        rw place (past_entry bytes (base + size * k) x (joined entry xs ++ rest) here) in
        rw (
          reads x (Memᴰ.head refl) k (joined entry xs ++ rest) here,
          each_read xs rest (k + 1) next (λ y m. reads y (Memᴰ.tail m)),
        )

-- The bytes of a file are numbers of 8 bits.
abbrev pub is_byte : ℕ → Bool
is_byte b = ltb b 256

word_bytes : (n : ℕ) → all is_byte (word n) ≡ true
word_bytes n = and_of _ _ (lt-ltb (n % 256) 256 (omega arith)) (and_of _ true (lt-ltb (n / 256 % 256) 256 (omega arith)) refl)

joined_bytes : {A : Type 0} (entry : A → List ℕ) → ((x : A) → all is_byte (entry x) ≡ true) → (xs : List A) → all is_byte (joined entry xs) ≡ true
joined_bytes entry bytes [] = refl
joined_bytes entry bytes (x ∷ xs) = all_append is_byte (entry x) (joined entry xs) (bytes x) (joined_bytes entry bytes xs)

entry_bytes : (kind : ℕ) (payload : List ℕ) → all is_byte (entry kind payload) ≡ true
entry_bytes kind payload =
    let size = 2 + 2 * length payload in
    all_append is_byte (word size ++ word kind) (joined word payload)
    (all_append is_byte (word size) (word kind) (word_bytes size) (word_bytes kind))
    (joined_bytes word word_bytes payload)

value_bytes : (old : Bool) (e : TableEntry) → all is_byte (value_entry old e) ≡ true
value_bytes true e = entry_bytes 3 (place_and_value e.term)
value_bytes false e = entry_bytes 5 (place_and_value e.term ++ e.mark ∷ [])

pub file_bytes : (old : Bool) (P : Plain) → all is_byte (file_in old P) ≡ true
unfolding file_with
file_bytes old P =
    let start = head P.lines.w P.lines.h in
    let splits = joined split_entry P.lines.splits in
    let entries = entries_of (paired (blends P) P.values) P.marks in
    let values = joined (value_entry old) entries in
    let splits_bytes = joined_bytes split_entry (λ s. entry_bytes 2 (s.direction ∷ s.position ∷ s.from ∷ s.to ∷ [])) P.lines.splits in
    let values_bytes = joined_bytes (value_entry old) (value_bytes old) entries in
    all_append is_byte (start ++ splits ++ values) tail
    (all_append is_byte (start ++ splits) values
    (all_append is_byte start splits (entry_bytes 1 (P.lines.w ∷ P.lines.h ∷ [])) splits_bytes) values_bytes)
    (entry_bytes 4 [])

-- a test that zero and all numbers of a list pass is passed at every place
pub all_places : (test : ℕ → Bool) → test 0 ≡ true → (xs : List ℕ) → all test xs ≡ true → (i : ℕ) → test (get_or xs i 0) ≡ true
all_places test none [] e i = none
all_places test none (x ∷ xs) e zero = (and_both (test x) (all test xs) e).0
all_places test none (x ∷ xs) e (suc i) = all_places test none xs (and_both (test x) (all test xs) e).1 i

pub word_small : (bytes : List ℕ) → all is_byte bytes ≡ true → (at : ℕ) → word_at bytes at < 65536
word_small bytes e at =
    let byte : (i : ℕ) → get_or bytes i 0 < 256 = λ i. ltb-true _ 256 (all_places is_byte refl bytes e i) in
    omega (arith, byte at, byte (at + 1))
