-- What the table and the reading call answer on the record of a map.
use Prim.Native.Nat.{ℕ, zero, suc, ◌-◌, ◌≤◌, ◌<◌}
use native.Mathlib.Omega.{arith}
use mathlib.Core.Path.{◌≡◌, ap, subst, ◌∙◌}
use mathlib.Core.Logic.{⊎_elim}
use mathlib.Core.Bool.{false, cond}
use mathlib.Core.List.{Memᴰ}
use borrow.Author.Tests.{lt-ltb, le-ltb, le-leb, ltb-true, ltb-false}
use lib.Dec.{ltb}
use lib.IntN.{pos, pred_ℤ}
use lib.ListN.{length, get_or}
use Rattle.axis.proofs.Tests.{either, cond_true, cond_false}
use Rattle.mesh.specs.declared.Blend.{Blend}
use Rattle.mesh.specs.Lines.{mesh_of}
use Rattle.mesh.specs.Sound.{none, ProperIn}
use Rattle.mesh.proofs.Cuts.{proper_facts}
use Rattle.mesh.proofs.SoundMaps.{live_proper}
use Rattle.maps.specs.Outcomes.{Placed}
use Rattle.maps.specs.Plain.{Plain, blends}
use Rattle.maps.specs.Values.{reading_at, in_domain}
use Rattle.maps.specs.Record.{record_of}
use Rattle.maps.specs.Calls.{shape, no_shape, table_place, reading}
use Rattle.maps.specs.Straight.{table_values}
use Rattle.axis.proofs.Members.{each_entry}
use Rattle.maps.specs.Holds.{Holds}
use Rattle.maps.proofs.GoodRecords.{record_good}
use Rattle.mesh.proofs.Accepted.{replays_sides}

-- a knot, in document 01's coordinates
knot_from : (n : ℕ) → 1 ≤ n → pred_ℤ (pos n) ≡ pos (n - 1)
knot_from zero lt = absurd (omega arith)
knot_from (suc n) lt = let e : suc n - 1 ≡ n = omega arith in rw e

module _ (P : Plain) (holds : Holds P) where
  -- a table place: that of a blend, and one past them
  module _ (i : ℕ) where
    place_answers : table_place (record_of P) i ≡ cond (ltb i (length (blends P)))
        (record { number = 0; blend = shape (get_or (blends P) i none); value = get_or P.values i 0; mark = get_or P.marks i 0 })
        (record { number = 9; blend = no_shape; value = 0; mark = 0 })
    unfolding table_place
    place_answers = rw ((record_good holds).0, (record_good holds).1)

    pub place_listed : i < length (blends P) →
        table_place (record_of P) i ≡ record { number = 0; blend = shape (get_or (blends P) i none); value = get_or P.values i 0; mark = get_or P.marks i 0 }
    place_listed lt = place_answers ∙ cond_true _ _ _ (lt-ltb _ _ lt)

    pub place_none : length (blends P) ≤ i → (table_place (record_of P) i).number ≡ 9
    place_none le = ap (λ (r : Placed). r.number) (place_answers ∙ cond_false _ _ _ (le-ltb _ _ le))

    -- a place that answers 0 holds a live blend
    pub answers_listed : (table_place (record_of P) i).number ≡ 0 → i < length (blends P)
    answers_listed e = ⊎_elim (ltb-true i _) (λ f. absurd (omega (arith, place_none (ltb-false i _ f)))) (either (ltb i (length (blends P))))

  -- the values that the table call gives are those that the map holds
  pub table_values_lem : table_values (record_of P) (length (blends P)) ≡ P.values
  table_values_lem =
      subst (λ (k : ℕ). table_values (record_of P) k ≡ P.values) holds.counted
      (each_entry (λ i. (table_place (record_of P) i).value) 0 P.values 0
      (λ k lt. ap (λ (j : ℕ). (table_place (record_of P) j).value) (omega arith) ∙
      ap (λ (r : Placed). r.value) (place_listed k (omega (arith, holds.counted)))))

  -- the anchor of a live blend, in document 01's coordinates; it lies in the domain
  module _ (B : Blend) (m : Memᴰ B (blends P)) where
    facts : ProperIn P.lines.w P.lines.h B
    facts =
        let s = replays_sides holds.taken in
        proper_facts P.lines.w P.lines.h B (live_proper P.lines.w P.lines.h s.0 s.2 (mesh_of P.lines) B m)

    pub anchor_shown : (pred_ℤ (pos B.across.m) ≡ pos (B.across.m - 1)) × (pred_ℤ (pos B.up.m) ≡ pos (B.up.m - 1))
    anchor_shown =
        let a = facts.across in
        let b = facts.up in
        (knot_from _ (omega arith), knot_from _ (omega arith))

    pub anchor_in : (B.across.m - 1 ≤ P.lines.w) × (B.up.m - 1 ≤ P.lines.h)
    anchor_in =
        let a = facts.across in
        let b = facts.up in
        (omega arith, omega arith)

  -- a point, in the domain and outside it
  module _ (u v : ℕ) where
    pub point_answers : u ≤ P.lines.w → v ≤ P.lines.h → reading (record_of P) u v ≡ record { number = 0; litres = reading_at (blends P) P.values u v }
    unfolding reading
    point_answers uw vh = rw ((record_good holds).0, (record_good holds).1, le-leb _ _ uw, le-leb _ _ vh)

    pub outside_answers : in_domain P u v ≡ false → reading (record_of P) u v ≡ record { number = 10; litres = 0 }
    unfolding reading
    outside_answers e = rw ((record_good holds).0, (record_good holds).1, e)
