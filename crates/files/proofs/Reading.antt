-- Bytes that are read: the map that they tell is written again, and compared.
use Prim.Native.Nat.{ℕ, ◌+◌, ◌*◌, ◌≤◌}
use native.Mathlib.Omega.{arith}
use native.Mathlib.Nat.{mul-le-mul_left}
use mathlib.Core.Path.{◌≡◌, sym, ap, ◌∙◌}
use mathlib.Core.Bool.{Bool, true, false}
use mathlib.Core.List.{List}
use borrow.Author.Tests.{eqb-true}
use lib.Dec.{eqb}
use lib.ListN.{length}
use Rattle.axis.proofs.Tests.{true_not_false}
use Rattle.maps.specs.declared.Map.{Map}
use Rattle.maps.specs.Plain.{Plain, fresh_plain, blends}
use Rattle.maps.specs.Record.{record_of, plain, good}
use Rattle.maps.specs.Calls.{changed}
use Rattle.maps.proofs.Opening.{good_passes}
use Rattle.maps.proofs.GoodRecords.{layout_replay}
use Rattle.mesh.proofs.Accepted.{replays_short}
use Rattle.mesh.specs.Replay.{Replays}
use Rattle.files.specs.File.{value_size, file_in, split_count, is_old, guessed}
use Rattle.files.specs.Calls.{read_file}
use Rattle.axis.specs.Range.{agree}
use Rattle.axis.proofs.Entries.{agree_same}
use Rattle.files.proofs.Taking.{guessed_splits}
use Rattle.files.proofs.RoundTrip.{told, told_file, told_length, same_bytes, is_read, is_refused}

-- a good record's lines, and how few blends they have
pub good_replays : (P : Plain) → good (record_of P) ≡ true → Replays P.lines
unfolding record_of
good_replays P g = layout_replay P.lines (good_passes (record_of P) g).accepted?

pub good_short : (P : Plain) → good (record_of P) ≡ true → length (blends P) ≤ 1024
good_short P g = replays_short (good_replays P g)

-- the bytes of a value's record, in either form
pub size_least : (old : Bool) → 10 ≤ value_size old
size_least true = omega arith
size_least false = omega arith

module _ (bytes : List ℕ) where
  -- the lengths that a file may have
  pub record FileLength : Type 0 where
    pub least : 12 + 12 * split_count bytes 8 60 ≤ length bytes
    pub most : length bytes ≤ 12 + 12 * split_count bytes 8 60 + value_size (is_old bytes) * 1024

  pub file_lengths : good (told bytes) ≡ true → bytes ≡ told_file bytes → FileLength
  file_lengths g e =
      let few = good_short (guessed bytes) g in
      let long = told_length bytes few e in
      let all = mul-le-mul_left (value_size (is_old bytes)) few in
      record { least = omega (arith, long, guessed_splits bytes); most = omega (arith, long, guessed_splits bytes, all) }

  -- the map that they tell, opened, and its file compared with them
  module _ (m : Map) (is : m ≡ told bytes) where
    pub not_opened : good m ≡ false → read_file bytes ≡ changed 11 (record_of (fresh_plain 1 1))
    not_opened f = is_refused bytes (λ g e. true_not_false _ g (rw is at f))

    pub not_same : agree eqb bytes (file_in (is_old bytes) (plain m)) ≡ false → read_file bytes ≡ changed 11 (record_of (fresh_plain 1 1))
    not_same f = is_refused bytes (λ g e. true_not_false _ (same_bytes (e ∙ ap (λ (n : Map). file_in (is_old bytes) (plain n)) (sym is))) f)

    pub all_same : good m ≡ true → agree eqb bytes (file_in (is_old bytes) (plain m)) ≡ true → changed 0 m ≡ read_file bytes
    all_same g t =
        let e = agree_same eqb eqb-true bytes (file_in (is_old bytes) (plain m)) t in
        rw is (sym (is_read bytes (ap good (sym is) ∙ g) (e ∙ ap (λ (n : Map). file_in (is_old bytes) (plain n)) is)))
