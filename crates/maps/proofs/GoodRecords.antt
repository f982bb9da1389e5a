-- What a good record gives, and what makes a record good.
use Prim.Native.Nat.{ℕ, ◌-◌, ◌≤◌}
use native.Mathlib.Omega.{arith}
use mathlib.Core.Path.{◌≡◌, refl}
use mathlib.Core.Logic.{⊎_elim}
use mathlib.Core.Bool.{true}
use mathlib.Core.List.{List, ◌++◌}
use borrow.Author.Tests.{le-leb, leb-true, eqb-true, ltb-true}
use lib.Dec.{eqb, ltb}
use lib.ListN.{length, get_or, take, replicate, length-set, length-map}
use lib.Seq.{length-take-le, take-append_seam, drop-append_seam}
use Rattle.axis.proofs.Tests.{either, and_both, all_at, all_of, all_append}
use Rattle.axis.proofs.Entries.{taken_mem}
use Rattle.axis.proofs.Members.{entry, map_mem, set_mem}
use Rattle.axis.proofs.Padding.{copies, padding_passes, padded}
use Rattle.mesh.specs.declared.Split.{Split}
use Rattle.mesh.specs.declared.Blend.{Blend}
use Rattle.mesh.specs.Lines.{Layout, layout_of, splits_of, allowed_side}
use Rattle.mesh.specs.Sound.{sound, table}
use Rattle.mesh.specs.Splits.{live_of, with_line, exact_number}
use Rattle.mesh.specs.Replay.{replays, Replays, HasTable}
use Rattle.mesh.proofs.Fresh.{fresh_live}
use Rattle.mesh.proofs.Accepted.{replays_sides, replays_sound, replays_short, replays_more, fresh_replays, replays_says, counted_lines, lines_replay}
use Rattle.maps.specs.declared.Map.{Map}
use Rattle.maps.specs.Plain.{Plain, fresh_plain, blends}
use Rattle.maps.specs.Values.{place_of, kept_mark, drawn}
use Rattle.maps.specs.Record.{no_split, is_no_split, is_zero, is_mark, lines_of, record_of, Full, plain, good}
use Rattle.maps.specs.Calls.{set_plain}
use Rattle.maps.specs.Holds.{AreMarks, Holds}
use Rattle.maps.proofs.Opening.{good_passes, passes_good}

-- the test of a split that is zero
blank_split : (s : Split) → is_no_split s ≡ true → s ≡ no_split
blank_split s e =
    let c = and_both _ (eqb s.to 0) e in
    let b = and_both _ (eqb s.from 0) c.0 in
    let a = and_both (eqb s.direction 0) (eqb s.position 0) b.0 in
    let p = eqb-true _ _ a.0 in
    let q = eqb-true _ _ a.1 in
    let u = eqb-true _ _ b.1 in
    let v = eqb-true _ _ c.1 in
    λ i. record { direction = p i; position = q i; from = u i; to = v i }

-- a layout that replays, as a test of its lines
pub layout_replay : (P : Layout) → replays (lines_of P) ≡ true → Replays P
unfolding lines_of
layout_replay P e =
    let r = replays_says (lines_of P) e in record { across = r.0; up = r.1; few = r.2; all_taken = rw (take-append_seam P.splits) at r.3 }

layout_replays : {P : Layout} → Replays P → replays (lines_of P) ≡ true
unfolding replays lines_of
layout_replays {P} r = rw (take-append_seam P.splits, r.across, r.up, le-leb _ 60 r.few, r.all_taken)

-- The record of a map holds it, where its values and marks are as many as its blends,
pub plain_held : (P : Plain) → length P.values ≡ length (blends P) → length P.marks ≡ length (blends P) → plain (record_of P) ≡ P
unfolding record_of lines_of plain
plain_held P full full_marks = rw (take-append_seam P.lines.splits, in_front P.values full, in_front P.marks full_marks)
  where
    in_front : (xs : List ℕ) {n : ℕ} → length xs ≡ n → take n (xs ++ replicate (1024 - length xs) 0) ≡ xs
    in_front xs e = rw (← e) (take-append_seam xs (replicate (1024 - length xs) 0))

-- and is good, where a good record may hold the map.
module _ {P : Plain} (p : Holds P) where
  is_good : good (record_of P) ≡ true
  unfolding record_of lines_of
  is_good =
      passes_good (record_of P)
      (record {
        accepted? = layout_replays p.taken;
        no_splits = rw drop-append_seam (padding_passes is_no_split no_split refl (60 - length P.lines.splits));
        no_values = rw (take-append_seam P.lines.splits, ← p.counted, drop-append_seam) (padding_passes is_zero 0 refl (1024 - length P.values));
        are_marks = all_append is_mark P.marks _ (all_of is_mark P.marks (λ k m. le-leb k 1 (p.are_marks k m)))
            (padding_passes is_mark 0 refl (1024 - length P.marks));
        no_marks = rw (take-append_seam P.lines.splits, ← p.counted_marks, drop-append_seam) (padding_passes is_zero 0 refl (1024 - length P.marks));
      })

  pub record_good : (good (record_of P) ≡ true) × (plain (record_of P) ≡ P)
  record_good = (is_good, plain_held P p.counted p.counted_marks)

-- What a good record gives the calls that open it.
pub record GoodFacts (m : Map) : Type 0 where
  pub across : (1 ≤ m.lines.w) × (m.lines.w ≤ 128)
  pub up : (1 ≤ m.lines.h) × (m.lines.h ≤ 128)
  pub few : m.lines.count ≤ 60
  pub holds : Holds (plain m)
  pub is_sound : sound m.lines.w m.lines.h (blends (plain m)) ≡ true
  pub is_short : length (blends (plain m)) ≤ 1024
  pub counted_splits : length (splits_of m.lines) ≡ m.lines.count
  pub has_table : HasTable m.lines (table (blends (plain m)))
  pub is_record : record_of (plain m) ≡ m

pub good_facts : (m : Map) → Full m → good m ≡ true → GoodFacts m
unfolding plain record_of lines_of
good_facts m full e =
    let p = good_passes m e in
    let L = m.lines in
    let lines = lines_replay L full.splits p.accepted? in
    let few = (replays_says L p.accepted?).2 in
    let n = counted_lines L full.splits p.accepted? in
    let short = replays_short lines in
    let sides = replays_sides lines in
    let k = length (live_of (layout_of L)) in
    let splits = padded is_no_split no_split blank_split L.splits 60 L.count full.splits few p.no_splits in
    let values = padded is_zero 0 (λ v q. eqb-true v 0 q) m.values 1024 k full.values short p.no_values in
    let marks = padded is_zero 0 (λ v q. eqb-true v 0 q) m.marks 1024 k full.marks short p.no_marks in
    record {
      across = (sides.0, sides.1);
      up = (sides.2, sides.3);
      few = few;
      holds =
          record {
            taken = lines;
            counted = length-take-le k m.values (rw full.values short);
            counted_marks = length-take-le k m.marks (rw full.marks short);
            are_marks = λ x mem. leb-true x 1 (all_at is_mark m.marks p.are_marks x (taken_mem k m.marks x mem));
          };
      is_sound = replays_sound lines;
      is_short = replays_short lines;
      counted_splits = n;
      has_table = record { accepted? = p.accepted?; is_table = refl };
      is_record = λ i. record { lines = record { w = L.w; h = L.h; count = n i; splits = splits i }; values = values i; marks = marks i };
    }

-- a mark that a split keeps is one of before, or 0
kept_mark_lem : (bs : List Blend) (marks : List ℕ) → length marks ≡ length bs → AreMarks marks → (B : Blend) → kept_mark bs marks B ≤ 1
unfolding kept_mark
kept_mark_lem bs marks full are B =
    let i = place_of bs B.across.m B.up.m in
    ⊎_elim (λ t. rw t (are (get_or marks i 0) (entry marks i 0 (omega (arith, ltb-true i (length bs) t))))) (λ f. rw f (omega arith)) (either (ltb i (length bs)))

-- What an accepted call leaves may be held again: a fresh map,
pub fresh_holds : (w h : ℕ) → allowed_side w ≡ true → allowed_side h ≡ true → Holds (fresh_plain w h)
unfolding fresh_plain
fresh_holds w h a b =
    let taken = fresh_replays w h a b in
    let s = replays_sides taken in
    let four : length (blends (fresh_plain w h)) ≡ 4 = rw (fresh_live w h s.0 s.2 s.3) in
    record {
      taken = taken;
      counted = rw four;
      counted_marks = rw four;
      are_marks = λ k m. omega (arith, copies 0 4 k m);
    }

-- a map with one value set,
pub set_holds : {P : Plain} → Holds P → (m n v : ℕ) → Holds (set_plain P m n v)
unfolding set_plain
set_holds {P} p m n v =
    record {
      taken = p.taken;
      counted = rw length-set p.counted;
      counted_marks = rw length-set p.counted_marks;
      are_marks = λ k mem. ⊎_elim (λ e. omega arith) (p.are_marks k) (set_mem P.marks _ 1 k mem);
    }

-- and one with a split drawn that is accepted.
pub drawn_holds : {P : Plain} → Holds P → (s : Split) → exact_number P.lines s ≡ 0 → Holds (drawn P s)
unfolding drawn
drawn_holds {P} p s e =
    let new = live_of (with_line P.lines s) in
    record {
      taken = replays_more p.taken s e;
      counted = length-map new _;
      counted_marks = length-map new _;
      are_marks = λ k mem.
          let r = map_mem (kept_mark (blends P) P.marks) new k mem in
          rw r.2 (kept_mark_lem (blends P) P.marks p.counted_marks p.are_marks r.0);
    }
