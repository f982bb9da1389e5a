-- Bytes put over others, one part after the other.
use Prim.Native.Nat.{ℕ, ◌+◌, ◌*◌, ◌/◌, ◌%◌, ◌≤◌, ◌<◌}
use native.Mathlib.Omega.{arith}
use native.Mathlib.Numerals.{add-one}
use native.Mathlib.Nat.{add-zero, add_assoc, mul-le-mul_left}
use mathlib.Core.Path.{◌≡◌, refl, sym, ap, ◌∙◌}
use mathlib.Core.List.{List, [], ◌∷◌, ◌++◌, append_assoc, append-nil}
use lib.ListN.{length, take, drop, get_or, set, length-append, length-drop, take-append-drop}
use lib.Seq.{sets-eq, length-take-le, take_all, take_at, drop_at, drop-drop}
use Rattle.axis.specs.Range.{joined}
use Rattle.axis.proofs.Tests.{cond_true, cond_false}
use borrow.Author.Tests.{le-leb, lt-leb}
use Rattle.files.specs.File.{word, entry, put, put_words}
use Rattle.files.proofs.Words.{joined_length}
use Rattle.axis.proofs.Members.{joined_more}

pub put_none : (bytes : List ℕ) (at : ℕ) → bytes ≡ put bytes at []
put_none bytes at = rw (append-nil, add-zero) (sym (take-append-drop at bytes))

module _ (bytes : List ℕ) (at : ℕ) (xs : List ℕ) (room : at + length xs ≤ length bytes) where
  front_length : length (take at bytes ++ xs) ≡ at + length xs
  front_length = rw (length-append, length-take-le at bytes (omega arith))

  pub put_length : length (put bytes at xs) ≡ length bytes
  put_length = rw (length-append, front_length, length-drop) (omega arith)

  -- what is put next to a part makes a longer part
  pub put_more : (ys : List ℕ) (n : ℕ) → at + length xs ≡ n → put (put bytes at xs) n ys ≡ put bytes at (xs ++ ys)
  put_more ys n e =
      let full : length (take at bytes ++ xs) ≡ n = front_length ∙ e in
      let past : drop (n + length ys) (put bytes at xs) ≡ drop (at + length xs + length ys) bytes =
      sym (drop-drop (length ys) n (put bytes at xs)) ∙ ap (drop (length ys)) (drop_at (take at bytes ++ xs) _ n full) ∙
      drop-drop (length ys) (at + length xs) bytes in
      rw (take_at (take at bytes ++ xs) _ n full, past, append_assoc (take at bytes) xs ys, length-append, add_assoc)

-- the same of what two calls leave
pub put_then : (bytes : List ℕ) (at : ℕ) (xs ys : List ℕ) (n : ℕ) {between after : List ℕ} → between ≡ put bytes at xs → after ≡ put between n ys →
    at + length xs ≡ n → n ≤ length bytes → after ≡ put bytes at (xs ++ ys)
put_then bytes at xs ys n p q e room = q ∙ rw p (put_more bytes at xs (omega arith) ys n e)

-- a number is put by a store of each of its bytes
pub put_word : (bytes : List ℕ) (at n : ℕ) → at + 2 ≤ length bytes → set (set bytes at (n % 256)) (at + 1) (n / 256 % 256) ≡ put bytes at (word n)
put_word bytes at n le = rw add-one (sets-eq (word n) bytes at le)

-- numbers in a row, where they fit and where they do not
module _ (bytes : List ℕ) (at : ℕ) (words : List ℕ) where
  pub words_fit : at + 2 * length words ≤ length bytes → put_words bytes at words ≡ put bytes at (joined word words)
  unfolding put_words
  words_fit le = cond_true _ _ _ (le-leb _ _ le)

  pub words_not : length bytes < at + 2 * length words → bytes ≡ put_words bytes at words
  unfolding put_words
  words_not lt = sym (cond_false _ _ _ (lt-leb _ _ lt))

-- a record: its length and kind, and then its payload
pub put_record : (bytes : List ℕ) (at kind : ℕ) (payload : List ℕ) {between after : List ℕ} → at + (4 + 2 * length payload) ≤ length bytes →
    between ≡ put_words bytes at ((2 + 2 * length payload) ∷ kind ∷ []) → after ≡ put_words between (at + 4) payload → length between ≡ length bytes →
    after ≡ put bytes at (entry kind payload)
put_record bytes at kind payload room p q same =
    put_then bytes at (word (2 + 2 * length payload) ++ word kind) (joined word payload) (at + 4) (p ∙ words_fit bytes at _ (omega arith))
    (q ∙ words_fit _ (at + 4) payload (omega arith)) refl (omega arith)

-- Entries of one length, put in a row one by one:
module _ {A : Type 0} (entry : A → List ℕ) (size : ℕ) (xs : List A) (before : List ℕ) (at : ℕ) where
  -- the first i of them are put
  pub record Some (i : ℕ) (bytes : List ℕ) : Type 0 where
    pub within : i ≤ length xs
    pub is : bytes ≡ put before at (joined entry (take i xs))

  pub some_none : Some 0 before
  some_none = record { within = omega arith; is = put_none before at }

  module _ (long : (x : A) → length (entry x) ≡ size) (room : at + size * length xs ≤ length before) {i : ℕ} {bytes : List ℕ} (s : Some i bytes) where
    so_far : length (joined entry (take i xs)) ≡ size * i
    so_far = joined_length entry size long (take i xs) ∙ rw (length-take-le i xs s.within)

    fits : at + size * i ≤ length before
    fits = omega (arith, mul-le-mul_left size s.within)

    pub some_length : length bytes ≡ length before
    some_length = ap length s.is ∙ put_length before at _ (rw so_far fits)

    pub some_room : i < length xs → at + size * i + size ≤ length bytes
    some_room lt = rw some_length (omega (arith, mul-le-mul_left size lt))

    pub some_more : (d : A) (after : List ℕ) → i < length xs → after ≡ put bytes (at + size * i) (entry (get_or xs i d)) → Some (i + 1) after
    some_more d after lt e =
        record {
          within = omega arith;
          is =
              put_then before at (joined entry (take i xs)) (entry (get_or xs i d)) (at + size * i) s.is e (rw so_far) fits ∙
              ap (put before at) (sym (joined_more entry xs i d lt));
        }

    -- the same of an entry that is known otherwise
    pub some_next : (d : A) {x : A} (after : List ℕ) → i < length xs → get_or xs i d ≡ x → after ≡ put bytes (at + size * i) (entry x) →
        Some (i + 1) after
    some_next d after lt e p = some_more d after lt (rw e p)

    pub some_done : length xs ≤ i → bytes ≡ put before at (joined entry xs)
    some_done le = s.is ∙ rw (take_all i xs le)
