-- The file of a good record: what its table in hand gives, and what writing it leaves.
use Prim.Native.Nat.{ℕ, ◌+◌, ◌-◌, ◌*◌, ◌≤◌, ◌<◌}
use native.Mathlib.Omega.{arith}
use native.Mathlib.Nat.{zero-add}
use mathlib.Core.Path.{◌≡◌, subst, ◌∙◌}
use mathlib.Core.Bool.{Bool, true, false}
use mathlib.Core.List.{List, ◌++◌}
use borrow.Author.Tests.{lt-ltb, le-ltb}
use lib.ListN.{length, replicate, length-append, length-replicate}
use Rattle.std.proofs.lemmas.List.{length-take}
use Rattle.mesh.specs.declared.Table.{Table}
use Rattle.mesh.specs.Lines.{layout_of, splits_of, mesh_of}
use Rattle.mesh.specs.Replay.{Replays}
use Rattle.mesh.proofs.Accepted.{replays_short, replays_says}
use Rattle.mesh.specs.Sound.{table}
use Rattle.mesh.proofs.BlendTables.{proper_largest, table_blends, table_count}
use Rattle.mesh.proofs.SoundMaps.{live_proper}
use Rattle.maps.specs.declared.Map.{Map}
use Rattle.maps.specs.declared.opened.Opened.{Opened}
use Rattle.maps.specs.Record.{no_split, lines_of, record_of, Full, plain, good}
use Rattle.maps.proofs.Opening.{good_passes, good_table}
use Rattle.maps.proofs.Changing.{GoodMap, opened_map, few, live_table, live_blends, live_count}
use Rattle.files.specs.Calls.{Written}
use Rattle.files.specs.File.{value_size, file_with, file_in, file_of, put}
use Rattle.files.specs.Calls.{write_number, written, after}
use Rattle.files.proofs.RoundTrip.{file_length}
use Rattle.files.proofs.Terms.{InHand, filed}

-- an opened map's table is fit for its file
pub record Ready (m : Map) (t : Table) : Type 0 where
  pub is_good : good m ≡ true
  pub few : m.lines.count ≤ 60
  pub hand : InHand t m.values m.marks
  pub is_file : (old : Bool) → filed old m t ≡ file_in old (plain m)
  pub size : (old : Bool) → length (file_in old (plain m)) ≡ 12 + 12 * m.lines.count + value_size old * t.count

all_places : {m : Map} {t : Table} → GoodMap m t → length t.blends ≡ 1024
unfolding table
all_places g = rw (live_table g, length-append, length-replicate) (omega (arith, g.facts.is_short))

-- a list that is padded to a length has it
padded_long : {A : Type 0} (xs : List A) (n : ℕ) (d : A) → length xs ≤ n → length (xs ++ replicate (n - length xs) d) ≡ n
padded_long xs n d le =
    let r = length-replicate (n - length xs) d in length-append xs (replicate (n - length xs) d) ∙ omega (arith, r)

splits_few : {m : Map} {t : Table} → GoodMap m t → length (plain m).lines.splits ≤ 60
unfolding plain
splits_few g = rw g.facts.counted_splits g.facts.few

-- a good record is that of what it holds, so its arrays are full
full_of : {m : Map} {t : Table} → GoodMap m t → Full m
unfolding record_of lines_of
full_of {m} g =
    let f = g.facts in
    let P = plain m in
    let h = f.holds in
    subst Full f.is_record
    (record {
      splits = padded_long P.lines.splits 60 no_split (splits_few g);
      values = padded_long P.values 1024 0 (omega (arith, h.counted, f.is_short));
      marks = padded_long P.marks 1024 0 (omega (arith, h.counted_marks, f.is_short));
    })

pub ready : {m : Map} {t : Table} → GoodMap m t → Ready m t
unfolding plain file_with
ready {m} {t} g =
    let f = g.facts in
    let full = full_of g in
    record {
      is_good = g.is_good;
      few = f.few;
      hand =
          record {
            ok =
                record {
                  few = few g;
                  rise = λ B mem. proper_largest m.lines.w m.lines.h B f.across.1 f.up.1
                      (live_proper m.lines.w m.lines.h f.across.0 f.up.0 (mesh_of (plain m).lines) B (rw (live_blends g) at mem));
                };
            places = all_places g;
            full = full.values;
            full_marks = full.marks;
          };
      is_file = λ old. rw (live_table g, table_blends, table_count);
      size = λ old. file_length (plain m) f.holds.counted f.holds.counted_marks old ∙ rw (f.counted_splits, live_count g);
    }

pub opened_ready : (o : Opened) → Full o.map → Ready o.map o.table
opened_ready o full = ready (opened_map o.opens full)

-- how many splits and blends it has at most
pub opened_few : (o : Opened) → (o.map.lines.count ≤ 60) × (o.table.count ≤ 1024)
unfolding plain
opened_few o =
    let m = o.map in
    let r = replays_says m.lines (good_passes m o.opens.is_good).accepted? in
    let few : length (splits_of m.lines) ≤ 60 = omega (arith, length-take m.lines.count m.lines.splits, r.2) in
    let lines : Replays (layout_of m.lines) = record { across = r.0; up = r.1; few = few; all_taken = r.3 } in
    (r.2, rw (o.opens.is_table ∙ good_table m o.opens.is_good, table_count) (replays_short lines))

-- what `write` answers and leaves
module _ (m : Map) (buffer : List ℕ) where
  abbrev outcome : ℕ → ℕ → List ℕ → Type 0
  outcome number long left = (◌≡◌ {A = Written} (record { number = number; length = long }) (written m buffer)) × (left ≡ after m buffer)

  abbrev file : List ℕ
  file = file_of (plain m)

  pub write_bad : good m ≡ false → outcome 2 0 buffer
  unfolding write_number
  write_bad f = (rw f, rw f)

  module _ (t : good m ≡ true) where
    pub write_short : length buffer < length file → outcome 12 0 buffer
    unfolding write_number
    write_short lt = let s = lt-ltb (length buffer) (length file) lt in (rw (t, s), rw (t, s))

    pub write_whole : length file ≤ length buffer → outcome 0 (length file) (put buffer 0 file)
    unfolding write_number
    write_whole le = let s = le-ltb (length buffer) (length file) le in (rw (t, s), rw (t, s, zero-add))
