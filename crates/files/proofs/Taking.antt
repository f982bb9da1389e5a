-- What loops over the bytes of a file have found so far.
use Prim.Native.Nat.{ℕ, zero, suc, ◌+◌, ◌*◌, ◌-◌, ◌/◌, ◌≤◌, ◌<◌}
use native.Mathlib.Omega.{arith}
use native.Mathlib.Numerals.{add-one}
use native.Mathlib.Nat.{zero-add, add-zero, sub-zero}
use mathlib.Core.Path.{◌≡◌, refl, ap, ◌∙◌}
use mathlib.Core.Logic.{⊎_elim}
use mathlib.Core.Bool.{Bool, true, false, cond, ◌&&◌}
use mathlib.Core.List.{List, [], ◌∷◌, ◌++◌, append_assoc}
use borrow.Author.Tests.{leb-true, le-leb, eqb-true, eq-eqb}
use lib.Dec.{leb, eqb}
use lib.ListN.{length, get_or, set, replicate, length-replicate}
use lib.Seq.{set_at}
use Rattle.mesh.specs.declared.Split.{Split}
use Rattle.axis.specs.Range.{each}
use Rattle.maps.specs.declared.Map.{Map}
use Rattle.maps.specs.Record.{no_split, lines_of, record_of}
use Rattle.axis.proofs.Tests.{either, and_both, and_of, false_of, cond_true, cond_false}
use Rattle.files.specs.File.{value_size, word_at, split_count, split_at, is_old, guessed}
use Rattle.files.specs.Inner.{Stand}
use Rattle.axis.proofs.Members.{each_length}

-- Splits in a row: one more where a whole entry of kind 2 stands, no more where none does.
module _ (bytes : List ℕ) where
  pub record SplitHere (at : ℕ) : Type 0 where
    pub fits : at + 12 ≤ length bytes
    pub kind : word_at bytes (at + 2) ≡ 2

  here_says : (at : ℕ) → (leb (at + 12) (length bytes) && eqb (word_at bytes (at + 2)) 2) ≡ true → SplitHere at
  here_says at t =
      let b = and_both (leb (at + 12) (length bytes)) (eqb (word_at bytes (at + 2)) 2) t in
      record { fits = leb-true _ _ b.0; kind = eqb-true _ _ b.1 }

  pub one_more : (at most : ℕ) → SplitHere at → split_count bytes at (suc most) ≡ suc (split_count bytes (at + 12) most)
  unfolding split_count
  one_more at most h = cond_true _ _ _ (and_of _ _ (le-leb (at + 12) (length bytes) h.fits) (eq-eqb _ _ h.kind))

  pub no_more : (at most : ℕ) → (0 < most → SplitHere at → ⊥) → split_count bytes at most ≡ 0
  unfolding split_count
  no_more at zero f = refl
  no_more at (suc most) f = cond_false _ _ _ (false_of _ (λ t. f (omega arith) (here_says at t)))

  -- no more are counted than are looked for
  pub count_few : (at most : ℕ) → split_count bytes at most ≤ most
  unfolding split_count
  count_few at zero = omega arith
  count_few at (suc most) =
      ⊎_elim (λ t. rw (one_more at most (here_says at t)) (omega (arith, count_few (at + 12) most)))
      (λ f. rw f (omega arith))
      (either (leb (at + 12) (length bytes) && eqb (word_at bytes (at + 2)) 2))

  -- n of them are found
  pub record Counted (n : ℕ) : Type 0 where
    pub within : n ≤ 60
    pub is : split_count bytes 8 60 ≡ n + split_count bytes (8 + 12 * n) (60 - n)

  pub counted_none : Counted 0
  counted_none = record { within = omega arith; is = rw zero-add }

  module _ {n : ℕ} (c : Counted n) where
    pub counted_more : n < 60 → SplitHere (8 + 12 * n) → Counted (n + 1)
    counted_more lt h =
        let e : 60 - n ≡ suc (60 - (n + 1)) = omega arith in
        let p : 8 + 12 * n + 12 ≡ 8 + 12 * (n + 1) = omega arith in
        let q : split_count bytes (8 + 12 * n) (60 - n) ≡ suc (split_count bytes (8 + 12 * (n + 1)) (60 - (n + 1))) =
        rw (e, one_more (8 + 12 * n) (60 - (n + 1)) h, p) in
        record { within = omega arith; is = omega (arith, c.is) }

    pub counted_all : (n < 60 → SplitHere (8 + 12 * n) → ⊥) → n ≡ split_count bytes 8 60
    counted_all f =
        let last : split_count bytes (8 + 12 * n) (60 - n) ≡ 0 = no_more (8 + 12 * n) (60 - n) (λ lt. f (omega arith)) in
        omega (arith, c.is)

-- An array filled from the front, entry by entry:
module _ {A : Type 0} (got : ℕ → A) (d : A) (n : ℕ) where
  abbrev run : ℕ → ℕ → List A
  run from k = each from k (λ i. got i ∷ [])

  run_more : (from k : ℕ) → run from (suc k) ≡ run from k ++ got (from + k) ∷ []
  run_more from zero = rw add-zero
  run_more from (suc k) =
      let e : from + 1 + k ≡ from + suc k = omega arith in
      rw (← e) (ap (λ (l : List A). got from ∷ l) (run_more (from + 1) k))

  pub record Filled (i : ℕ) (xs : List A) : Type 0 where
    pub within : i ≤ n
    pub is : xs ≡ run 0 i ++ replicate (n - i) d

  pub filled_none : Filled 0 (replicate n d)
  filled_none = record { within = omega arith; is = rw sub-zero }

  pub filled_more : {i : ℕ} {xs : List A} → Filled i xs → i < n → (x : A) → x ≡ got i → Filled (i + 1) (set xs i x)
  filled_more {i} {xs} f lt x q =
      let left : n - i ≡ suc (n - (i + 1)) = omega arith in
      let e : xs ≡ run 0 i ++ d ∷ replicate (n - (i + 1)) d = f.is ∙ rw left in
      let more : run 0 (i + 1) ≡ run 0 i ++ got i ∷ [] = rw add-one (run_more 0 i ∙ rw zero-add) in
      record {
        within = omega arith;
        is = rw (e, q, more, append_assoc) (set_at (run 0 i) d (replicate (n - (i + 1)) d) (got i) i (each_length 0 i got));
      }

  pub filled_all : {i : ℕ} {xs : List A} → Filled i xs → (k : ℕ) → i ≡ k → xs ≡ run 0 k ++ replicate (n - k) d
  filled_all f k e = rw e at f.is

-- The numbers at a file's places: its values and marks are as many as there is room for,
module _ (bytes : List ℕ) where
  abbrev pub guessed_places : ℕ
  guessed_places = (length bytes - 12 - 12 * split_count bytes 8 60) / value_size (is_old bytes)

  pub guessed_splits : length (guessed bytes).lines.splits ≡ split_count bytes 8 60
  unfolding guessed
  guessed_splits = each_length 0 (split_count bytes 8 60) _

  pub guessed_values : length (guessed bytes).values ≡ guessed_places
  unfolding guessed
  guessed_values = each_length 0 guessed_places _

  pub guessed_marks : length (guessed bytes).marks ≡ guessed_places
  unfolding guessed
  guessed_marks =
      ⊎_elim (λ t. rw t (length-replicate _ 0)) (λ f. rw f (each_length 0 ((length bytes - 12 - 12 * split_count bytes 8 60) / 12) _)) (either (is_old bytes))

-- an old file tells the mark 0 everywhere
marks_told : (old : Bool) (got : ℕ → ℕ) (from k : ℕ) →
    each from k (λ i. cond old 0 (got i) ∷ []) ≡ cond old (replicate k 0) (each from k (λ i. got i ∷ []))
marks_told true got from zero = refl
marks_told true got from (suc k) = ap (λ (l : List ℕ). 0 ∷ l) (marks_told true got (from + 1) k)
marks_told false got from k = refl

-- which form bytes have, where their first value is read
pub form_told : (bytes : List ℕ) (splits n : ℕ) → splits ≡ split_count bytes 8 60 → n ≡ word_at bytes (8 + 12 * splits + 2) → eqb n 3 ≡ is_old bytes
unfolding is_old
form_told bytes splits n p q = ap (λ (k : ℕ). eqb k 3) (q ∙ ap (λ (k : ℕ). word_at bytes (8 + 12 * k + 2)) p)

-- there is room for so many values
pub stand_room : {bytes : List ℕ} {splits values : ℕ} {old : Bool} → Stand bytes splits old values → 12 + 12 * splits + value_size old * values ≤ length bytes
stand_room {bytes} {splits} {values} {old} s =
    let left = length bytes - 12 - 12 * splits in omega (arith, rw (← s.are_values) at (by old left), s.room)
  where
    by : (old : Bool) (n : ℕ) → value_size old * (n / value_size old) ≤ n
    by true n = omega arith
    by false n = omega arith

-- and they are the record that the bytes tell.
pub told_map : (bytes : List ℕ) (w h count places size : ℕ) (old : Bool) (splits : List Split) (values marks : List ℕ) →
    w ≡ word_at bytes 4 → h ≡ word_at bytes 6 → count ≡ split_count bytes 8 60 → old ≡ is_old bytes → size ≡ value_size old →
    places ≡ (length bytes - 12 - 12 * count) / size →
    splits ≡ each 0 count (λ i. split_at bytes (8 + 12 * i) ∷ []) ++ replicate (60 - count) no_split →
    values ≡ each 0 places (λ i. word_at bytes (8 + 12 * count + size * i + 8) ∷ []) ++ replicate (1024 - places) 0 →
    marks ≡ each 0 places (λ i. cond old 0 (get_or bytes (8 + 12 * count + size * i + 10) 0) ∷ []) ++ replicate (1024 - places) 0 →
    ◌≡◌ {A = Map} (record { lines = record { w = w; h = h; count = count; splits = splits }; values = values; marks = marks }) (record_of (guessed bytes))
unfolding guessed record_of lines_of
told_map bytes w h count places size old splits values marks p q r o z s t u v =
    let long = guessed_values bytes in
    let long_marks = guessed_marks bytes in
    let are = marks_told old (λ i. get_or bytes (8 + 12 * count + size * i + 10) 0) 0 places in
    rw (guessed_splits bytes, long, long_marks, p, q, t, u, v, are, s, z, o, r)
