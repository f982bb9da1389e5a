-- The files of good records: a written map reads back, and bytes are accepted exactly where they are such a file, in either form.
use Prim.Native.Nat.{ℕ, ◌-◌, ◌*◌, ◌/◌, ◌≤◌, ◌<◌}
use native.Mathlib.Omega.{arith}
use native.Mathlib.Nat.{mul-le-mul_right}
use mathlib.Core.Path.{◌≡◌, refl, sym, ap, ap₂, subst, ◌∙◌}
use mathlib.Core.Logic.{◌⊎◌, inl, inr, ⊎_elim}
use mathlib.Core.Bool.{Bool, true, false}
use mathlib.Core.List.{List, [], ◌∷◌, ◌++◌, Memᴰ}
use borrow.Author.Tests.{leb-true, eqb-true}
use lib.Dec.{leb, eqb}
use lib.ListN.{length, take, replicate}
use Rattle.mesh.specs.declared.Split.{Split}
use Rattle.mesh.specs.declared.Blend.{Blend}
use Rattle.mesh.specs.Lines.{number, side, other, allowed_side, in_range, layout_of}
use Rattle.mesh.specs.declared.Direction.{Direction}
use Rattle.mesh.specs.declared.Direction.TheVariants.{Upright as upright, Level as level}
use Rattle.mesh.specs.Sound.{sound}
use Rattle.axis.specs.Range.{all, joined}
use Rattle.axis.proofs.Tests.{either, true_not_false, and_both, all_at, all_of, all_append}
use Rattle.axis.proofs.Padding.{copies, padding_passes, all_padding}
use Rattle.axis.proofs.Entries.{taken_mem}
use Rattle.axis.proofs.Beside.{beside_second}
use Rattle.mesh.proofs.Ranges.{in_range_says}
use Rattle.maps.specs.declared.Map.{Map}
use Rattle.maps.specs.Outcomes.{Changed}
use Rattle.maps.specs.Plain.{Plain, fresh_plain, blends}
use Rattle.maps.specs.Values.{paired}
use Rattle.maps.specs.Record.{is_zero, record_of, Held, plain, good}
use Rattle.maps.specs.Calls.{changed}
use Rattle.maps.specs.Holds.{Holds}
use Rattle.maps.proofs.OverSquare.{four_at}
use Rattle.maps.proofs.GoodRecords.{record_good, fresh_holds, GoodFacts, good_facts}
use Rattle.maps.proofs.Reached.{good_reached}
use Rattle.mesh.proofs.Accepted.{replays_sides, replays_stands, replays_sound, replays_short}
use Rattle.files.specs.File.{value_size, largest_file, head, split_entry, TableEntry, entries_of, marked_entry, tail, file_with, file_in, file_of, old_file_of, split_count, is_old, guessed}
use Rattle.files.specs.Calls.{read_file}
use Rattle.files.specs.Accepted.{IsFile, IsOldFile, unmarked_entry, Accepts}
use Rattle.files.proofs.RoundTrip.{Small, Fits, file_length, accepted_file, written_reads, read_either}
use Rattle.files.proofs.ReadMaps.{map_held, told_held, guessed_holds}
use Rattle.mesh.specs.Splits.{live_of}

most : (s : ℕ) → allowed_side s ≡ true → s ≤ 128
most s e = leb-true s 128 (and_both (leb 1 s) (leb s 128) e).1

side_most : (d : Direction) (w h : ℕ) → w ≤ 128 → h ≤ 128 → (side d w h ≤ 128) × (number d < 2)
side_most upright w h hw hh = (hw, omega arith)
side_most level w h hw hh = (hh, omega arith)

-- numbers in range are numbers of 16 bits
module _ (w h : ℕ) (hw : w ≤ 128) (hh : h ≤ 128) (s : Split) (e : in_range w h s ≡ true) where
  small_at : (d : Direction) → s.direction ≡ number d → Small s
  small_at d q =
      let r = in_range_says w h d s e q in
      let a = side_most d w h hw hh in
      let b = side_most (other d) w h hw hh in
      record {
        direction = omega (arith, a.1);
        position = omega (arith, r.0, a.0);
        from = omega (arith, r.1, r.2, b.0);
        to = omega (arith, r.2, b.0);
      }

  small : Small s
  unfolding in_range
  small =
      ⊎_elim (λ (t : eqb s.direction 0 ≡ true). small_at upright (eqb-true _ _ t))
      (λ (f : eqb s.direction 0 ≡ false).
      small_at level (eqb-true _ _ (and_both (eqb s.direction 1) _ (rw f at e)).0))
      (either (eqb s.direction 0))

-- a sound map has a blend
some_blend : (w h : ℕ) (bs : List Blend) → 1 ≤ w → 1 ≤ h → sound w h bs ≡ true → 0 < length bs
some_blend w h [] hw hh s = let four = four_at w h [] s 0 0 hw hh (omega arith) (omega arith) in absurd (omega arith)
some_blend w h (B ∷ bs) hw hh s = omega arith

good_fits : (P : Plain) → Holds P → ((v : ℕ) → Memᴰ v P.values → v < 65536) → Fits P
good_fits P holds values =
    let r = holds.taken in
    let hw = most P.lines.w r.across in
    let hh = most P.lines.h r.up in
    let sides = replays_sides r in
    record {
      across = omega arith;
      up = omega arith;
      few = r.few;
      splits = λ s m. small P.lines.w P.lines.h hw hh s
          (all_at (in_range P.lines.w P.lines.h) P.lines.splits (replays_stands r).ranges s m);
      values = values;
      marks = holds.are_marks;
      full = holds.counted;
      full_marks = holds.counted_marks;
      some = some_blend P.lines.w P.lines.h (blends P) sides.0 sides.2 (replays_sound r);
    }

-- What calls may have reached reads back from its file.
pub plain_reads_back : (P : Plain) → Holds P → ((v : ℕ) → Memᴰ v P.values → v < 65536) → read_file (file_of P) ≡ changed 0 (record_of P)
plain_reads_back P holds values = written_reads false P (good_fits P holds values) (λ o. absurd (true_not_false false o refl)) (record_good holds).0

-- "A written file has 12 + 12 × s + 12 × k bytes from now on, a fresh map's 60"; the largest has
-- 13,020. No bytes that are accepted are more, those of an old file among them.
form_most : (old : Bool) (P : Plain) → Holds P → length (file_in old P) ≤ largest_file
form_most old P h =
    let long = file_length P h.counted h.counted_marks old in
    let wide = mul-le-mul_right (length (blends P)) (size_most old) in
    omega (arith, long, wide, h.taken.few, replays_short h.taken)
  where
    size_most : (old : Bool) → value_size old ≤ value_size false
    size_most true = omega arith
    size_most false = omega arith

pub file_most : (P : Plain) → Holds P → length (file_of P) ≤ largest_file
file_most = form_most false

pub accepted_most : (bytes : List ℕ) → (read_file bytes).number ≡ 0 → length bytes ≤ largest_file
accepted_most bytes e =
    let is = (accepted_file bytes e).1 ∙ ap (file_in (is_old bytes)) (told_held bytes e) in
    omega (arith, ap length is, form_most (is_old bytes) (guessed bytes) (guessed_holds bytes e))

pub fresh_file : (w h : ℕ) → allowed_side w ≡ true → allowed_side h ≡ true → length (file_of (fresh_plain w h)) ≡ 60
unfolding fresh_plain
fresh_file w h a b =
    let holds = fresh_holds w h a b in
    omega (arith, file_length (fresh_plain w h) holds.counted holds.counted_marks false, holds.counted)

-- marks that are all 0
no_marks_held : {m : Map} → GoodFacts m → all is_zero m.marks ≡ true → (plain m).marks ≡ replicate (length (blends (plain m))) 0
unfolding plain
no_marks_held {m} f zeros =
    let k = length (live_of (layout_of m.lines)) in
    let used = all_of is_zero (take k m.marks) (λ x i. all_at is_zero m.marks zeros x (taken_mem k m.marks x i)) in
    all_padding is_zero 0 (λ v q. eqb-true v 0 q) (take k m.marks) used ∙ ap (λ (n : ℕ). replicate n 0) f.holds.counted_marks

-- A good record reads back from its file, and from its old file where its marks are all 0.
module _ {m : Map} (held : Held m) (g : good m ≡ true) where
  facts : GoodFacts m
  facts = good_facts m held.full g

  pub map_reads_back : read_file (file_of (plain m)) ≡ changed 0 m
  map_reads_back = let at = good_reached m held g in plain_reads_back (plain m) at.holds at.valued.small ∙ ap (changed 0) facts.is_record

  pub old_reads_back : all is_zero m.marks ≡ true → read_file (old_file_of (plain m)) ≡ changed 0 m
  old_reads_back none =
      let at = good_reached m held g in
      written_reads true (plain m) (good_fits (plain m) at.holds at.valued.small) (λ o. no_marks_held facts none) (ap good facts.is_record ∙ g) ∙
      ap (changed 0) facts.is_record

  -- Its file then has the mark 0 in every entry.
  pub as_unmarked : all is_zero m.marks ≡ true → file_of (plain m) ≡ file_with unmarked_entry (plain m)
  unfolding file_with
  as_unmarked none =
      let lines = (plain m).lines in
      ap (λ (values : List ℕ). head lines.w lines.h ++ joined split_entry lines.splits ++ values ++ tail)
      (alike (entries_of (paired (blends (plain m)) (plain m).values) (plain m).marks) zero_marks)
    where
      zero_marks : (e : TableEntry) → Memᴰ e (entries_of (paired (blends (plain m)) (plain m).values) (plain m).marks) → e.mark ≡ 0
      zero_marks e i =
          let k = beside_second _ (λ (e : TableEntry). e.mark) (λ t k. refl) (paired (blends (plain m)) (plain m).values) (plain m).marks e i in
          copies 0 (length (blends (plain m))) e.mark (subst (Memᴰ e.mark) (no_marks_held facts none) k)

      alike : (es : List TableEntry) → ((e : TableEntry) → Memᴰ e es → e.mark ≡ 0) → joined marked_entry es ≡ joined unmarked_entry es
      alike [] z = refl
      alike (e ∷ es) z =
          ap₂ ◌++◌ (ap (λ (k : ℕ). marked_entry (record { term = e.term; mark = k })) (z e (Memᴰ.head refl))) (alike es (λ x i. z x (Memᴰ.tail i)))

-- an old file tells the mark 0 everywhere
told_unmarked : (bytes : List ℕ) → is_old bytes ≡ true → all is_zero (record_of (guessed bytes)).marks ≡ true
unfolding guessed record_of
told_unmarked bytes t =
    let k = (length bytes - 12 - 12 * split_count bytes 8 60) / 10 in
    let unused : ℕ = 1024 - length {A = ℕ} (replicate k 0) in
    rw t (all_append is_zero (replicate k 0) (replicate unused 0) (padding_passes is_zero 0 refl k) (padding_passes is_zero 0 refl unused))

-- Which bytes are accepted.
pub accepts : (bytes : List ℕ) → Accepts bytes
accepts bytes =
    record {
      accepted = λ m e.
          let a = accepted_file bytes (ap (λ (c : Changed). c.number) e) in
          let is : (read_file bytes).map ≡ m = ap (λ (c : Changed). c.map) e in
          let told = sym a.2 ∙ is in
          let held = rw is at (map_held bytes) in
          let is_good = rw told at a.0 in
          let file : bytes ≡ file_in (is_old bytes) (plain m) = a.1 ∙ ap (λ (n : Map). file_in (is_old bytes) (plain n)) told in
          ⊎_elim
          (λ (o : is_old bytes ≡ true).
          inr (record {
            held = held;
            is_good = is_good;
            no_marks = rw told at (told_unmarked bytes o);
            is_file = file ∙ ap (λ (old : Bool). file_in old (plain m)) o;
          }))
          (λ (n : is_old bytes ≡ false). inl (record { held = held; is_good = is_good; is_file = file ∙ ap (λ (old : Bool). file_in old (plain m)) n }))
          (either (is_old bytes));
      is_read = back;
      rewritten = λ m is. as_unmarked is.held is.is_good is.no_marks;
      number = ⊎_elim (λ z. inl z) (λ f. inr (rw f)) (read_either bytes);
      no_file = λ n m is. let z : ◌≡◌ {A = ℕ} 11 0 = sym n ∙ ap (λ (c : Changed). c.number) (back m is) in omega arith;
      fresh = λ n. ⊎_elim (λ z. absurd (omega (arith, n, z))) (λ f. ap (λ (c : Changed). c.map) f) (read_either bytes);
    }
  where
    back : (m : Map) → IsFile bytes m ⊎ IsOldFile bytes m → read_file bytes ≡ changed 0 m
    back m =
        ⊎_elim (λ (is : IsFile bytes m). ap read_file is.is_file ∙ map_reads_back is.held is.is_good)
        (λ (is : IsOldFile bytes m). ap read_file is.is_file ∙ old_reads_back is.held is.is_good is.no_marks)
