-- What the rest of a question answers, on a good record and its table.
use Prim.Native.Nat.{ℕ, ◌+◌, ◌≤◌, ◌<◌}
use native.Mathlib.Omega.{arith}
use mathlib.Core.Path.{◌≡◌, sym, ap, ◌∙◌}
use mathlib.Core.Bool.{Bool, true, false, cond, ◌&&◌}
use mathlib.Core.List.{map}
use borrow.Author.Tests.{leb-true, le-leb, lt-leb, le-ltb, lt-ltb}
use lib.Dec.{ltb, leb}
use lib.ListN.{length, get_or, take}
use Rattle.std.specs.Prelude.{Option, Some, None, Result}
use Rattle.std.specs.Option.{ok_or}
use Rattle.axis.specs.Gap.{corner}
use Rattle.axis.specs.Range.{only, turns_from}
use Rattle.axis.proofs.Tests.{and_both, and_of, cond_true, cond_false}
use Rattle.axis.proofs.Turns.{turns_same}
use Rattle.mesh.specs.declared.Table.{Table}
use Rattle.mesh.specs.Sound.{none, over_square, blends_of}
use Rattle.mesh.specs.declared.refusal.Refusal.{Refusal}
use Rattle.mesh.specs.declared.refusal.Refusal.TheVariants.{NoPair}
use Rattle.maps.specs.declared.Map.{Map}
use Rattle.maps.specs.declared.Pairs.{Pairs as Noted}
use Rattle.maps.specs.Told.{told_pairs}
use Rattle.maps.specs.Plain.{blends}
use Rattle.maps.specs.Values.{reading_at}
use Rattle.maps.specs.Record.{plain}
use Rattle.maps.specs.Calls.{shape, no_place, table_place, no_reading, reading_on, reading, no_weights, weight_over, weights}
use Rattle.maps.specs.Pairs.{no_pairs, counted_pairs, pairs_along, row_pairs, column_pairs}
use Rattle.maps.specs.Inner.{AtPoint, counted, along_pairs}
use Rattle.maps.proofs.OldTable.{old_point}
use Rattle.maps.proofs.Walking.{in_walk}
use Rattle.maps.proofs.Changing.{GoodMap, in_table, passed, live_blends, live_count, live_values, live_blend, live_value, live_mark}

module _ {m : Map} {t : Table} (g : GoodMap m t) where
  -- a table place,
  module _ (i : ℕ) where
    pub place_none : t.count ≤ i → no_place 9 ≡ table_place m i
    unfolding table_place
    place_none le = sym (cond_false _ _ _ (passed g) ∙ cond_false _ _ _ (le-ltb i (length (blends (plain m))) (omega (arith, live_count g))))

    module _ (lt : i < t.count) where
      within : i < length (blends (plain m))
      within = omega (arith, live_count g)

      pub place_some : record { number = 0; blend = shape (get_or t.blends i none); value = get_or m.values i 0; mark = get_or m.marks i 0 } ≡ table_place m i
      unfolding table_place
      place_some = rw (live_blend g i lt, live_value g i lt, live_mark g i lt) (sym (cond_false _ _ _ (passed g) ∙ cond_true _ _ _ (lt-ltb i _ within)))

  -- a point,
  module _ (u v : ℕ) where
    pub reading_out : (leb u m.lines.w && leb v m.lines.h) ≡ false → no_reading 10 ≡ reading m u v
    unfolding reading plain
    reading_out e = sym (cond_false _ _ _ (passed g) ∙ cond_false _ _ _ e)

    pub weights_out : (leb u m.lines.w && leb v m.lines.h) ≡ false → no_weights 10 ≡ weights m u v
    unfolding weights plain
    weights_out e = sym (cond_false _ _ _ (passed g) ∙ cond_false _ _ _ e)

    -- and one in the domain, over whose unit square lie four blends.
    module _ (e : (leb u m.lines.w && leb v m.lines.h) ≡ true) where
      pub at_point : AtPoint m.lines.w m.lines.h t u v
      at_point = let b = and_both (leb u m.lines.w) _ e in old_point (in_table g) u v (leb-true u _ b.0) (leb-true v _ b.1)

      pub reading_in : record { number = 0; litres = reading_at (blends_of t) (take t.count m.values) u v } ≡ reading m u v
      unfolding reading plain
      reading_in = rw (live_blends g, live_values g) (sym (cond_false _ _ _ (passed g) ∙ cond_true _ _ _ e))

      pub weights_in : record {
        number = 0;
        entries = map (weight_over m.lines.w m.lines.h u v) (only (over_square (corner m.lines.w u + 1) (corner m.lines.h v + 1)) (blends_of t));
      } ≡ weights m u v
      unfolding weights plain
      weights_in = rw (live_blends g) (sym (cond_false _ _ _ (passed g) ∙ cond_true _ _ _ e))

  -- and a row or a column, whose points lie in the domain.
  by_walk : (row : Bool) (at wanted : ℕ) → along_pairs m row at wanted ≡ cond (leb at (cond row m.lines.h m.lines.w))
      (pairs_along (cond row m.lines.w m.lines.h) (λ k. reading_on (plain m) (cond row k at) (cond row at k)) wanted) (no_pairs 10)
  unfolding row_pairs column_pairs plain
  by_walk true at wanted = cond_false _ _ _ (passed g)
  by_walk false at wanted = cond_false _ _ _ (passed g)

  module _ (row : Bool) (at wanted : ℕ) where
    pub pairs_out : cond row m.lines.h m.lines.w < at → no_pairs 10 ≡ along_pairs m row at wanted
    pairs_out lt = sym (by_walk row at wanted ∙ cond_false _ _ _ (lt-leb _ _ lt))

    module _ (le : at ≤ cond row m.lines.h m.lines.w) where
      pub pairs_unwanted : (leb 1 wanted && leb wanted 65535) ≡ false → no_pairs 13 ≡ along_pairs m row at wanted
      pairs_unwanted e = sym (by_walk row at wanted ∙ cond_true _ _ _ (le-leb _ _ le) ∙ cond_false _ _ _ e)

      read_along : (k : ℕ) → k ≤ cond row m.lines.w m.lines.h →
          (reading_on (plain m) (cond row k at) (cond row at k)).litres ≡ reading_at (blends_of t) (take t.count m.values) (cond row k at) (cond row at k)
      unfolding plain
      read_along k kn =
          let i = in_walk row m.lines.w m.lines.h k at kn le in
          rw (live_blends g, live_values g, le-leb _ _ i.0, le-leb _ _ i.1)

      pub pairs_in : 1 ≤ wanted → wanted ≤ 65535 →
          counted_pairs (turns_from 0 (cond row m.lines.w m.lines.h)
          (λ k. ltb (reading_at (blends_of t) (take t.count m.values) (cond row k at) (cond row at k)) wanted)) ≡ along_pairs m row at wanted
      pairs_in low high =
          sym (by_walk row at wanted ∙ cond_true _ _ _ (le-leb _ _ le) ∙ cond_true _ _ _ (and_of _ _ (le-leb _ _ low) (le-leb _ _ high)) ∙
          ap counted_pairs (turns_same 0 (cond row m.lines.w m.lines.h) _ _ (λ k kn. ap (λ (n : ℕ). ltb n wanted) (read_along k (omega arith)))))

-- The pairs that a walk noted, as an answer: "13, no such pair".
pub paired_counted : (r : Result Noted Refusal) (pairs : Option Noted) → r ≡ ok_or pairs NoPair → told_pairs r ≡ counted pairs
paired_counted r (Some p) e = ap told_pairs e
paired_counted r None e = ap told_pairs e
