-- The map that reading hands back, the fresh 1 by 1 map where the bytes are no file: a good record, with its table.
use Prim.Native.Nat.{ℕ, ◌+◌, ◌*◌, ◌-◌, ◌<◌}
use native.Mathlib.Omega.{arith}
use mathlib.Core.Path.{◌≡◌, refl, sym, ap, subst}
use mathlib.Core.Logic.{⊎_elim}
use mathlib.Core.Bool.{Bool, true}
use mathlib.Core.List.Memᴰ
use mathlib.Core.List.{List, [], ◌∷◌, ◌++◌, Memᴰ}
use lib.Dec.{ltb}
use lib.ListN.{length, replicate, length-append, length-replicate}
use borrow.Author.Tests.{ltb-true, lt-ltb, leb-true}
use Rattle.axis.specs.Range.{all}
use Rattle.axis.proofs.Tests.{all_at, all_of, all_append, each_mem}
use Rattle.axis.proofs.Padding.{padding_passes}
use Rattle.maps.specs.Outcomes.{Changed}
use Rattle.maps.specs.Plain.{Plain, fresh_plain}
use Rattle.maps.specs.Record.{is_mark, lines_of, record_of, Held, plain, good}
use Rattle.maps.specs.Opened.{IsTable, table_of}
use Rattle.maps.specs.Holds.{Holds}
use Rattle.maps.proofs.Opening.{good_passes}
use Rattle.maps.proofs.GoodRecords.{record_good, fresh_holds}
use Rattle.mesh.proofs.Accepted.{replays_short}
use Rattle.maps.proofs.Changing.{GoodMap, opened_map}
use Rattle.maps.proofs.StaysOpened.{good_opens}
use Rattle.files.specs.File.{value_size, word_at, split_count, is_old, guessed}
use Rattle.files.specs.Calls.{read_file}
use Rattle.files.proofs.Words.{is_byte, file_bytes, all_places, word_small}
use Rattle.files.proofs.Taking.{guessed_places}
use Rattle.files.proofs.RoundTrip.{held_values, held_marks, accepted_file, all_values, read_either}
use Rattle.files.proofs.Reading.{good_replays, good_short}

-- What an accepted file tells is what the map that is read holds.
module _ (bytes : List ℕ) (e : (read_file bytes).number ≡ 0) where
  is_good : good (record_of (guessed bytes)) ≡ true
  is_good = (accepted_file bytes e).0

  pub told_held : plain (record_of (guessed bytes)) ≡ guessed bytes
  told_held = all_values bytes (good_short (guessed bytes) is_good) (accepted_file bytes e).1

  pub guessed_holds : Holds (guessed bytes)
  unfolding record_of
  guessed_holds =
      let short = good_short (guessed bytes) is_good in
      let marks = (good_passes (record_of (guessed bytes)) is_good).are_marks in
      record {
        taken = good_replays (guessed bytes) is_good;
        counted = rw told_held at (held_values (guessed bytes) short);
        counted_marks = rw told_held at (held_marks (guessed bytes) short);
        are_marks = λ k m. leb-true k 1 (all_at is_mark _ marks k (Memᴰ.append_left _ m));
      }

  pub guessed_small : (v : ℕ) → Memᴰ v (guessed bytes).values → v < 65536
  unfolding guessed
  guessed_small v m =
      let at = 8 + 12 * split_count bytes 8 60 in
      let size = value_size (is_old bytes) in
      let r = each_mem 0 (guessed_places bytes) (λ i. word_at bytes (at + size * i + 8) ∷ []) v m in
      let small : all is_byte bytes ≡ true =
      subst (λ (l : List ℕ). all is_byte l ≡ true) (sym (accepted_file bytes e).1) (file_bytes (is_old bytes) (plain (record_of (guessed bytes)))) in
      rw (Memᴰ.eq_of_singleton r.3) (word_small bytes small (at + size * r.0 + 8))

-- The record of what a good record may hold has all the places of its arrays.
all_held : {P : Plain} → Holds P → ((v : ℕ) → Memᴰ v P.values → v < 65536) → Held (record_of P)
unfolding record_of lines_of
all_held {P} p small =
    let few = replays_short p.taken in
    let is_small : ℕ → Bool = λ v. ltb v 65536 in
    let unused = 1024 - length P.values in
    let used_small = all_of is_small P.values (λ v m. lt-ltb v 65536 (small v m)) in
    let all_small = all_append is_small P.values (replicate unused 0) used_small (padding_passes is_small 0 refl unused) in
    record {
      full =
          record {
            splits = rw (length-append, length-replicate) (omega (arith, p.taken.few));
            values = rw (length-append, length-replicate) (omega (arith, p.counted, few));
            marks = rw (length-append, length-replicate) (omega (arith, p.counted_marks, few));
          };
      small = λ i. ltb-true _ 65536 (all_places is_small refl (P.values ++ replicate unused 0) all_small i);
    }

-- The map that is handed back, whether or not the bytes are a file, is such a record,
pub record Read (bytes : List ℕ) : Type 0 where
  pub of : Plain
  pub holds : Holds of
  pub small : (v : ℕ) → Memᴰ v of.values → v < 65536
  pub is : (read_file bytes).map ≡ record_of of

pub read_holds : (bytes : List ℕ) → Read bytes
unfolding fresh_plain
read_holds bytes =
    ⊎_elim
    (λ z. record { of = guessed bytes; holds = guessed_holds bytes z; small = guessed_small bytes z; is = (accepted_file bytes z).2 })
    (λ f.
    record {
      of = fresh_plain 1 1;
      holds = fresh_holds 1 1 refl refl;
      small = λ v m. ltb-true v 65536 (all_at (λ v. ltb v 65536) (replicate 4 0) refl v m);
      is = ap (λ (c : Changed). c.map) f;
    })
    (read_either bytes)

pub read_good : (bytes : List ℕ) → good (read_file bytes).map ≡ true
read_good bytes = let h = read_holds bytes in rw h.is (record_good h.holds).0

pub map_held : (bytes : List ℕ) → Held (read_file bytes).map
map_held bytes = let h = read_holds bytes in rw h.is (all_held h.holds h.small)

-- so it has its table.
pub read_opens : (bytes : List ℕ) → IsTable (read_file bytes).map (table_of (read_file bytes).map)
read_opens bytes = good_opens (read_good bytes)

pub read_map : (bytes : List ℕ) → GoodMap (read_file bytes).map (table_of (read_file bytes).map)
read_map bytes = opened_map (read_opens bytes) (map_held bytes).full
