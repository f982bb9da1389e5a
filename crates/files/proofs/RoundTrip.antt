-- A written file, read: the numbers at a file's places make the map again.
use Prim.Native.Nat.{ℕ, zero, suc, ◌+◌, ◌*◌, ◌-◌, ◌/◌, ◌≤◌, ◌<◌}
use native.Mathlib.Omega.{arith}
use mathlib.Core.Path.{◌≡◌, refl, sym, ap, ◌∙◌}
use mathlib.Core.Logic.{◌⊎◌, inl, inr, ⊎_elim}
use mathlib.Core.Bool.{Bool, true, false, cond, ◌&&◌}
use mathlib.Core.List.{List, [], ◌∷◌, ◌++◌, map, map-id, map-map, append_assoc, Memᴰ}
use lib.ListN.{length, get_or, drop, replicate, length-append, length-drop, length-replicate}
use lib.Seq.{length-take-le, take-append_seam, drop-drop, drop_at, get_or-drop}
use Rattle.mesh.specs.declared.Split.{Split}
use lib.Dec.{eqb}
use borrow.Author.Tests.{eqb-true, eq-eqb}
use Rattle.axis.specs.Range.{each, joined, agree}
use Rattle.mesh.specs.Weight.{Term}
use Rattle.axis.proofs.Tests.{either, and_both, and_of, false_of, cond_true, cond_false}
use Rattle.axis.proofs.Beside.{beside_length, beside_seconds, beside_second, beside_firsts, beside_first}
use Rattle.maps.specs.declared.Map.{Map}
use Rattle.maps.specs.Outcomes.{Changed}
use Rattle.maps.specs.Plain.{Plain, fresh_plain, blends}
use Rattle.maps.specs.Values.{term, paired}
use Rattle.maps.specs.Record.{lines_of, record_of, plain, good}
use Rattle.maps.specs.Calls.{changed}
use Rattle.maps.specs.Holds.{AreMarks}
use Rattle.maps.proofs.GoodRecords.{plain_held}
use Rattle.files.specs.File.{value_size, split_entry, TableEntry, entries_of, value_entry, tail, file_with, file_in, word_at, split_count, split_at, is_old, guessed}
use Rattle.files.specs.Calls.{read_file}
use Rattle.files.proofs.Taking.{one_more, no_more, guessed_places, guessed_splits, guessed_values, guessed_marks}
use Rattle.files.proofs.Words.{word_from, number_read, split_long, value_long, joined_length, past_entry, each_read}
use Rattle.axis.proofs.Entries.{agree_same, agree_self}
use Rattle.mesh.specs.Lines.{layout}

-- a split's numbers, and a map's, are numbers of 16 bits; its values are as many as its blends
pub record Small (s : Split) : Type 0 where
  pub direction : s.direction < 65536
  pub position : s.position < 65536
  pub from : s.from < 65536
  pub to : s.to < 65536

pub record Fits (P : Plain) : Type 0 where
  pub across : P.lines.w < 65536
  pub up : P.lines.h < 65536
  pub few : length P.lines.splits ≤ 60
  pub splits : (s : Split) → Memᴰ s P.lines.splits → Small s
  pub values : (v : ℕ) → Memᴰ v P.values → v < 65536
  pub marks : AreMarks P.marks
  pub full : length P.values ≡ length (blends P)
  pub full_marks : length P.marks ≡ length (blends P)
  pub some : 0 < length (blends P)

-- the entries of a map's table: as many as its blends, with its values and its marks
module _ (P : Plain) (full : length P.values ≡ length (blends P)) (full_marks : length P.marks ≡ length (blends P)) where
  abbrev terms : List Term
  terms = paired (blends P) P.values

  abbrev pub entries : List TableEntry
  entries = entries_of terms P.marks

  terms_count : length terms ≡ length (blends P)
  terms_count = beside_length term (blends P) P.values full

  marks_count : length P.marks ≡ length terms
  marks_count = full_marks ∙ sym terms_count

  pub entries_count : length entries ≡ length (blends P)
  entries_count = beside_length _ terms P.marks marks_count ∙ terms_count

  entries_values : map (λ (e : TableEntry). e.term.multiple) entries ≡ P.values
  entries_values =
      sym (map-map (λ (t : Term). t.multiple) (λ (e : TableEntry). e.term) entries) ∙
      ap (map (λ (t : Term). t.multiple)) (beside_firsts _ (λ (e : TableEntry). e.term) (λ t k. refl) terms P.marks marks_count) ∙
      beside_seconds term (λ (t : Term). t.multiple) (λ B v. refl) (blends P) P.values full

  entries_marks : map (λ (e : TableEntry). e.mark) entries ≡ P.marks
  entries_marks = beside_seconds _ (λ (e : TableEntry). e.mark) (λ t k. refl) terms P.marks marks_count

  -- "With s splits and k blends it has 12 + 12 × s + 10 × k bytes"; document 02, L5: "12 + 12 × s + 12 × k bytes from now on"
  pub file_length : (old : Bool) → length (file_in old P) ≡ 12 + 12 * length P.lines.splits + value_size old * length (blends P)
  unfolding file_with
  file_length old =
      simp (length-append, joined_length split_entry 12 split_long, joined_length (value_entry old) (value_size old) (value_long old), entries_count)
      (omega arith)

-- What stands from a byte place on:
module _ (bytes : List ℕ) (at : ℕ) (rest : List ℕ) where
  -- the numbers of a split's entry, and of a value's
  split_read : (s : Split) → Small s → drop at bytes ≡ split_entry s ++ rest → split_at bytes at ≡ s
  split_read s small e =
      let number = number_read bytes at (split_entry s ++ rest) e in
      λ i. record {
        direction = number 4 s.direction refl small.direction i;
        position = number 6 s.position refl small.position i;
        from = number 8 s.from refl small.from i;
        to = number 10 s.to refl small.to i;
      }

  value_read : (old : Bool) (e : TableEntry) → e.term.multiple < 65536 → drop at bytes ≡ value_entry old e ++ rest → word_at bytes (at + 8) ≡ e.term.multiple
  value_read true e lt q = number_read bytes at (value_entry true e ++ rest) q 8 e.term.multiple refl lt
  value_read false e lt q = number_read bytes at (value_entry false e ++ rest) q 8 e.term.multiple refl lt

  mark_read : (e : TableEntry) → e.mark ≤ 1 → drop at bytes ≡ value_entry false e ++ rest → get_or bytes (at + 10) 0 ≡ e.mark
  mark_read e le q = sym (get_or-drop at bytes 10 0) ∙ ap (λ (l : List ℕ). get_or l 10 0) q ∙ omega arith

  -- its kind tells the form of the file
  kind_read : (old : Bool) (e : TableEntry) → drop at bytes ≡ value_entry old e ++ rest → eqb (word_at bytes (at + 2)) 3 ≡ old
  kind_read true e q = ap (λ (n : ℕ). eqb n 3) (number_read bytes at (value_entry true e ++ rest) q 2 3 refl (omega arith))
  kind_read false e q = ap (λ (n : ℕ). eqb n 3) (number_read bytes at (value_entry false e ++ rest) q 2 5 refl (omega arith))

  -- another kind than a split's ends the count of splits
  no_split_there : (most : ℕ) → drop at bytes ≡ rest → (word_at rest 2 ≡ 2 → ⊥) → split_count bytes at most ≡ 0
  no_split_there most e last = no_more bytes at most (λ lt h. last (sym (word_from bytes at 2 ∙ ap (λ (l : List ℕ). word_at l 2) e) ∙ h.kind))

  one_split : (most : ℕ) (s : Split) → drop at bytes ≡ split_entry s ++ rest → split_count bytes at (suc most) ≡ suc (split_count bytes (at + 12) most)
  one_split most s e =
      let long : length bytes - at ≡ 12 + length rest = sym (length-drop at bytes) ∙ ap length e ∙ length-append (split_entry s) rest in
      one_more bytes at most (record { fits = omega arith; kind = word_from bytes at 2 ∙ ap (λ (l : List ℕ). word_at l 2) e })

-- after the splits stands a value or the end
after_splits : (old : Bool) (es : List TableEntry) → word_at (joined (value_entry old) es ++ tail) 2 ≡ 2 → ⊥
after_splits old [] e = omega arith
after_splits true (x ∷ es) e = omega arith
after_splits false (x ∷ es) e = omega arith

-- so the splits that stand in a row are counted right
count_read : (most : ℕ) (bytes : List ℕ) (at : ℕ) (ss : List Split) (rest : List ℕ) → length ss ≤ most →
    drop at bytes ≡ joined split_entry ss ++ rest → (word_at rest 2 ≡ 2 → ⊥) → split_count bytes at most ≡ length ss
count_read most bytes at [] rest few e last = no_split_there bytes at rest most e last
count_read zero bytes at (s ∷ ss) rest few e last = absurd (omega arith)
count_read (suc most) bytes at (s ∷ ss) rest few e last =
    let here : drop at bytes ≡ split_entry s ++ (joined split_entry ss ++ rest) = e ∙ append_assoc (split_entry s) (joined split_entry ss) rest in
    let next = past_entry split_entry 12 split_long bytes at s (joined split_entry ss ++ rest) here in
    one_split bytes at (joined split_entry ss ++ rest) most s here ∙
    ap suc (count_read most bytes (at + 12) ss rest (omega arith) next last)

-- Every place of a written file, in either form:
module _ (old : Bool) (P : Plain) (ok : Fits P) where
  abbrev file : List ℕ
  file = file_in old P

  abbrev all_entries : List TableEntry
  all_entries = entries P ok.full ok.full_marks

  abbrev values_and_end : List ℕ
  values_and_end = joined (value_entry old) all_entries ++ tail

  from_splits : drop 8 file ≡ joined split_entry P.lines.splits ++ values_and_end
  unfolding file_with
  from_splits = append_assoc (joined split_entry P.lines.splits) (joined (value_entry old) all_entries) tail

  -- where the values begin
  abbrev base : ℕ
  base = 8 + 12 * length P.lines.splits

  from_values : drop base file ≡ values_and_end
  from_values =
      rw (← drop-drop (12 * length P.lines.splits) 8 file, from_splits)
      (drop_at (joined split_entry P.lines.splits) values_and_end _ (joined_length split_entry 12 split_long P.lines.splits))

  counted : split_count file 8 60 ≡ length P.lines.splits
  counted = count_read 60 file 8 P.lines.splits values_and_end ok.few from_splits (after_splits old all_entries)

  splits_read : each 0 (length P.lines.splits) (λ i. split_at file (8 + 12 * i) ∷ []) ≡ P.lines.splits
  splits_read =
      each_read split_entry 12 split_long file 8 (λ i. split_at file (8 + 12 * i)) (λ s. s) P.lines.splits values_and_end 0 from_splits
      (λ s m i more e. split_read file (8 + 12 * i) more s (ok.splits s m) e) ∙ map-id P.lines.splits

  -- its form is told by its first value
  pub form_read : is_old file ≡ old
  unfolding is_old
  form_read = rw counted (first all_entries (rw (entries_count P ok.full ok.full_marks) ok.some) from_values)
    where
      first : (es : List TableEntry) → 0 < length es → drop base file ≡ joined (value_entry old) es ++ tail → eqb (word_at file (base + 2)) 3 ≡ old
      first [] lt e = absurd (omega arith)
      first (x ∷ es) lt e =
          kind_read file base (joined (value_entry old) es ++ tail) old x (e ∙ append_assoc (value_entry old x) (joined (value_entry old) es) tail)

  -- and they are all read
  abbrev size : ℕ
  size = value_size old

  all_read : {B : Type 0} (got : ℕ → B) (out : TableEntry → B) →
      ((e : TableEntry) → Memᴰ e all_entries → (i : ℕ) (more : List ℕ) → drop (base + size * i) file ≡ value_entry old e ++ more → got i ≡ out e) →
      each 0 (length (blends P)) (λ i. got i ∷ []) ≡ map out all_entries
  all_read got out reads =
      let here : base + size * 0 ≡ base = omega arith in
      rw (← entries_count P ok.full ok.full_marks)
      (each_read (value_entry old) size (value_long old) file base got out all_entries tail 0 (rw here from_values) reads)

  values_read : each 0 (length (blends P)) (λ i. word_at file (base + size * i + 8) ∷ []) ≡ P.values
  values_read =
      all_read (λ i. word_at file (base + size * i + 8)) (λ e. e.term.multiple)
      (λ e m i more q. value_read file (base + size * i) more old e (ok.values e.term.multiple (value_in e m)) q) ∙
      entries_values P ok.full ok.full_marks
    where
      value_in : (e : TableEntry) → Memᴰ e all_entries → Memᴰ e.term.multiple P.values
      value_in e m =
          beside_second term (λ (t : Term). t.multiple) (λ B v. refl) (blends P) P.values e.term
          (beside_first _ (λ (e : TableEntry). e.term) (λ t k. refl) (paired (blends P) P.values) P.marks e m)

  values_counted : (length file - 12 - 12 * length P.lines.splits) / size ≡ length (blends P)
  values_counted =
      let long = file_length P ok.full ok.full_marks old in
      let left : length file - 12 - 12 * length P.lines.splits ≡ size * length (blends P) = omega arith in
      rw left (by old)
    where
      by : (old : Bool) → value_size old * length (blends P) / value_size old ≡ length (blends P)
      by true = omega arith
      by false = omega arith

-- The marks are read, or there are none to read,
marks_read : (old : Bool) (P : Plain) (ok : Fits P) → (old ≡ true → P.marks ≡ replicate (length (blends P)) 0) →
    let k = length (blends P) in
    cond old (replicate k 0) (each 0 k (λ i. get_or (file_in old P) (base old P ok + value_size old * i + 10) 0 ∷ [])) ≡ P.marks
marks_read true P ok none = sym (none refl)
marks_read false P ok none =
    all_read false P ok (λ i. get_or (file_in false P) (base false P ok + 12 * i + 10) 0) (λ e. e.mark)
    (λ e m i more q.
    mark_read (file_in false P) (base false P ok + 12 * i) more e
    (ok.marks e.mark (beside_second _ (λ (e : TableEntry). e.mark) (λ t k. refl) (paired (blends P) P.values) P.marks e m)) q) ∙
    entries_marks P ok.full ok.full_marks

-- and so the map is told.
pub guessed_file : (old : Bool) (P : Plain) → Fits P → (old ≡ true → P.marks ≡ replicate (length (blends P)) 0) → guessed (file_in old P) ≡ P
unfolding guessed file_with
guessed_file old P ok none =
    let number = number_read (file_in old P) 0 (file_in old P) refl in
    rw (form_read old P ok, counted old P ok, values_counted old P ok, splits_read old P ok, values_read old P ok, marks_read old P ok none)
    (λ i.
    record {
      lines = layout (number 4 P.lines.w refl ok.across i) (number 6 P.lines.h refl ok.up i) P.lines.splits;
      values = P.values;
      marks = P.marks;
    })

-- the record of a map has as many values and marks as blends, where they are not more than it has places
module _ (P : Plain) (few : length (blends P) ≤ 1024) where
  pub held_values : length (plain (record_of P)).values ≡ length (blends (plain (record_of P)))
  unfolding record_of lines_of plain
  held_values = rw (take-append_seam P.lines.splits) (length-take-le _ _ (rw (length-append, length-replicate) (omega arith)))

  pub held_marks : length (plain (record_of P)).marks ≡ length (blends (plain (record_of P)))
  unfolding record_of lines_of plain
  held_marks = rw (take-append_seam P.lines.splits) (length-take-le _ _ (rw (length-append, length-replicate) (omega arith)))

pub same_bytes : {xs ys : List ℕ} → xs ≡ ys → agree eqb xs ys ≡ true
same_bytes {xs} e = rw (← e) (agree_self eqb (λ x. eq-eqb x x refl) xs)

-- Bytes are read where the record that they tell is good and they are its file, and are refused otherwise.
module _ (bytes : List ℕ) where
  abbrev pub told : Map
  told = record_of (guessed bytes)

  -- its file, in the form that they have
  abbrev pub told_file : List ℕ
  told_file = file_in (is_old bytes) (plain told)

  abbrev file_here : Bool
  file_here = good told && agree eqb bytes told_file

  says : file_here ≡ true → (good told ≡ true) × (bytes ≡ told_file)
  says t = let b = and_both (good told) _ t in (b.0, agree_same eqb eqb-true bytes told_file b.1)

  pub is_read : good told ≡ true → bytes ≡ told_file → read_file bytes ≡ changed 0 told
  unfolding read_file
  is_read g e = cond_true _ _ _ (and_of _ _ g (same_bytes e))

  pub is_refused : (good told ≡ true → bytes ≡ told_file → ⊥) → read_file bytes ≡ changed 11 (record_of (fresh_plain 1 1))
  unfolding read_file
  is_refused f = cond_false _ _ _ (false_of file_here (λ t. let b = says t in f b.0 b.1))

  pub read_either : ((read_file bytes).number ≡ 0) ⊎ (read_file bytes ≡ changed 11 (record_of (fresh_plain 1 1)))
  unfolding read_file
  read_either = ⊎_elim (λ t. inl (rw t)) (λ f. inr (rw f)) (either file_here)

  -- an accepted file is the one that its map is written to
  pub accepted_file : (read_file bytes).number ≡ 0 → (good told ≡ true) × (bytes ≡ told_file) × ((read_file bytes).map ≡ told)
  unfolding read_file
  accepted_file e =
      ⊎_elim (λ t. let b = says t in (b.0, b.1, ap (λ (c : Changed). c.map) (is_read b.0 b.1)))
      (λ f. let z : ◌≡◌ {A = ℕ} 11 0 = rw f at e in absurd (omega arith))
      (either file_here)

  -- It has a value and a mark for each blend, so the map that is read is the one whose file it is.
  module _ (few : length (blends (guessed bytes)) ≤ 1024) (e : bytes ≡ told_file) where
    pub told_length : length bytes ≡ 12 + 12 * length (guessed bytes).lines.splits + value_size (is_old bytes) * length (blends (guessed bytes))
    unfolding record_of lines_of plain
    told_length =
        ap length e ∙ file_length (plain told) (held_values (guessed bytes) few) (held_marks (guessed bytes) few) (is_old bytes) ∙
        rw (take-append_seam (guessed bytes).lines.splits)

    all_places : guessed_places bytes ≡ length (blends (guessed bytes))
    all_places =
        let left : length bytes - 12 - 12 * split_count bytes 8 60 ≡ value_size (is_old bytes) * length (blends (guessed bytes)) =
        omega (arith, told_length, guessed_splits bytes) in
        rw left (by (is_old bytes))
      where
        by : (old : Bool) → value_size old * length (blends (guessed bytes)) / value_size old ≡ length (blends (guessed bytes))
        by true = omega arith
        by false = omega arith

    pub all_values : plain told ≡ guessed bytes
    all_values = plain_held (guessed bytes) (guessed_values bytes ∙ all_places) (guessed_marks bytes ∙ all_places)

-- So a map reads back from its file in either form, from an old one where its marks are 0.
pub written_reads : (old : Bool) (P : Plain) → Fits P → (old ≡ true → P.marks ≡ replicate (length (blends P)) 0) → good (record_of P) ≡ true →
    read_file (file_in old P) ≡ changed 0 (record_of P)
unfolding read_file
written_reads old P ok none g =
    rw (guessed_file old P ok none, form_read old P ok, plain_held P ok.full ok.full_marks)
    (cond_true _ _ _ (and_of _ _ g (same_bytes {xs = file_in old P} refl)))
