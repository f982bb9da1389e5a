-- What an accepted split does to the answers of the reading call.
use Prim.Native.Nat.{ℕ, ◌+◌, ◌-◌, ◌≤◌}
use native.Mathlib.Omega.{arith}
use mathlib.Core.Path.{◌≡◌, refl, ◌∙◌}
use mathlib.Core.Logic.{⊎_elim}
use mathlib.Core.Bool.{true}
use mathlib.Core.List.{Memᴰ}
use borrow.Author.Tests.{leb-true}
use lib.Dec.{leb}
use lib.ListN.{get_or}
use Rattle.mesh.specs.declared.Split.{Split}
use Rattle.mesh.specs.declared.Blend.{Blend}
use Rattle.mesh.specs.Sound.{none}
use Rattle.axis.proofs.Tests.{either, and_both}
use Rattle.maps.specs.Outcomes.{Reading}
use Rattle.maps.specs.Plain.{Plain, blends}
use Rattle.maps.specs.Values.{reading_at, in_domain, drawn}
use Rattle.mesh.specs.Splits.{sound_with, exact_number}
use Rattle.maps.specs.Record.{record_of}
use Rattle.maps.specs.Calls.{reading}
use Rattle.maps.specs.Demand.{Gentle}
use Rattle.axis.proofs.Members.{entry}
use Rattle.mesh.proofs.Passing.{exact_says}
use Rattle.maps.specs.Holds.{Holds}
use Rattle.maps.proofs.Readings.{drawn_reading, drawn_anchor}
use Rattle.maps.proofs.Reached.{Reached, drawn_leads}
use Rattle.maps.proofs.Answers.{place_listed, answers_listed, anchor_shown, anchor_in, point_answers, outside_answers}

-- readings of the same number, at most one apart
record Near (r q : Reading) : Type 0 where
  number : q.number ≡ r.number
  high : q.litres ≤ r.litres + 1
  low : r.litres ≤ q.litres + 1

module _ (P : Plain) (at : Reached P) (s : Split) (accepted : exact_number P.lines s ≡ 0) where
  still : sound_with P.lines s ≡ true
  still = (exact_says P.lines s accepted).1

  after : Holds (drawn P s)
  after = (drawn_leads P at s accepted).reached.holds

  same_domain : (u v : ℕ) → in_domain (drawn P s) u v ≡ in_domain P u v
  unfolding drawn
  same_domain u v = refl

  reading_after : (u v : ℕ) → u ≤ P.lines.w → v ≤ P.lines.h →
      reading (record_of (drawn P s)) u v ≡ record { number = 0; litres = reading_at (blends (drawn P s)) (drawn P s).values u v }
  reading_after u v uw vh = let l = drawn_leads P at s accepted in point_answers (drawn P s) after u v (rw l.wide uw) (rw l.tall vh)

  readings_near : (u v : ℕ) → Near (reading (record_of P) u v) (reading (record_of (drawn P s)) u v)
  readings_near u v =
      ⊎_elim
      (λ e. let d = and_both (leb u P.lines.w) (leb v P.lines.h) e in
      let uw = leb-true _ _ d.0 in
      let vh = leb-true _ _ d.1 in
      let r = drawn_reading P at.valued s still u v uw vh in
      rw (point_answers P at.holds u v uw vh, reading_after u v uw vh) (record { number = refl; high = r.0; low = r.1 }))
      (λ e. rw (outside_answers P at.holds u v e, outside_answers (drawn P s) after u v (same_domain u v ∙ e))
      (record { number = refl; high = omega arith; low = omega arith }))
      (either (in_domain P u v))

  -- at the anchor of a live blend
  anchor_kept : (B : Blend) → Memᴰ B (blends P) → let u = B.across.m - 1 in let v = B.up.m - 1 in
      ((reading (record_of P) u v).number ≡ 0) × (reading (record_of (drawn P s)) u v ≡ reading (record_of P) u v)
  anchor_kept B m =
      let u = B.across.m - 1 in
      let v = B.up.m - 1 in
      let d = anchor_in P at.holds B m in
      rw (point_answers P at.holds u v d.0 d.1, reading_after u v d.0 d.1, drawn_anchor P at.valued s still B m) (refl, refl)

  pub split_gentle : Gentle (record_of P) (record_of (drawn P s))
  split_gentle =
      record {
        anchors = λ i e.
            let lt = answers_listed P at.holds i e in
            let B = get_or (blends P) i none in
            let m = entry (blends P) i none lt in
            let a = anchor_shown P at.holds B m in
            let k = anchor_kept B m in
            rw (place_listed P at.holds i lt) (B.across.m - 1, B.up.m - 1, a.0, a.1, k.0, k.1);
        numbers = λ u v. (readings_near u v).number;
        raised = λ u v. (readings_near u v).high;
        lowered = λ u v. (readings_near u v).low;
      }
