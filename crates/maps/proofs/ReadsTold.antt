-- What users are told of readings, of every map that calls may have reached; and how large values
-- are after a list of calls.
use Prim.Native.Nat.{ℕ, ◌+◌, ◌-◌, ◌%◌, ◌≤◌}
use native.Mathlib.Omega.{arith}
use native.Mathlib.Nat.{mod-lt}
use mathlib.Core.Path.{◌≡◌, sym, ap, subst, ◌∙◌}
use mathlib.Core.Logic.{⊎_elim}
use mathlib.Core.Bool.{true, false, cond}
use mathlib.Core.List.Memᴰ
use mathlib.Core.List.{List, [], ◌∷◌, ◌++◌, Memᴰ}
use borrow.Author.Tests.{leb-true, ltb-true}
use lib.Dec.{leb, ltb, eqb}
use lib.ListN.{length, get_or}
use Rattle.axis.specs.Range.{greatest}
use Rattle.axis.proofs.Tests.{either, and_both}
use Rattle.axis.proofs.Extremes.{at_most_greatest}
use Rattle.axis.proofs.Members.{entry, set_mem}
use Rattle.mesh.specs.declared.Split.{Split}
use Rattle.mesh.specs.Sound.{none}
use Rattle.mesh.specs.Lengthening.{within}
use Rattle.mesh.proofs.Passing.{exact_says}
use Rattle.maps.specs.declared.Map.{Map}
use Rattle.maps.specs.Plain.{Plain, blends}
use Rattle.maps.specs.Values.{reading_at, in_domain, place_of}
use Rattle.maps.specs.Record.{record_of, good}
use Rattle.maps.specs.Calls.{set_plain, reading}
use Rattle.maps.specs.Histories.{Call, set, split, place, reads, weighs, along_row, along_column, same_as, number, number_of, Outcome, by_library, by_machine, ending}
use Rattle.maps.specs.Reads.{Reads, value_set, values_set}
use Rattle.maps.proofs.Readings.{place_found, reading_value, reading_within, reading_most, drawn_within, set_reading}
use Rattle.maps.proofs.Reached.{Reached, Leads, Takes, no_line, one_line, split_takes, step_leads}
use Rattle.maps.proofs.Following.{step_follows}
use Rattle.maps.proofs.Answers.{place_listed, answers_listed, table_values_lem, anchor_shown, anchor_in, point_answers, outside_answers}
use Rattle.maps.proofs.ByWeights.{record_weights}

-- each value of a map is at most k
abbrev pub Within : ℕ → Plain → Type 0
Within k P = (x : ℕ) → Memᴰ x P.values → x ≤ k

module _ (P : Plain) (at : Reached P) where
  -- What is at most k at every whole point of the domain is so at every point that is asked for:
  -- outside it the answer is 0.
  point_within : (k : ℕ) → ((u v : ℕ) → u ≤ P.lines.w → v ≤ P.lines.h → reading_at (blends P) P.values u v ≤ k) →
      (u v : ℕ) → (reading (record_of P) u v).litres ≤ k
  point_within k most u v =
      ⊎_elim
      (λ (t : in_domain P u v ≡ true).
      let d = and_both (leb u P.lines.w) (leb v P.lines.h) t in
      let uw = leb-true _ _ d.0 in
      let vh = leb-true _ _ d.1 in
      rw (point_answers P at.holds u v uw vh) (most u v uw vh))
      (λ (f : in_domain P u v ≡ false). rw (outside_answers P at.holds u v f) (omega arith)) (either (in_domain P u v))

  -- So no reading is above what all values are.
  pub readings_within : (k : ℕ) → Within k P → (u v : ℕ) → (reading (record_of P) u v).litres ≤ k
  readings_within k within = point_within k (reading_within P at.valued k within)

  pub reached_reads : Reads (record_of P) P.lines.w P.lines.h (length (blends P))
  reached_reads =
      record {
        by_weights = record_weights at.holds;
        at_anchors = λ i e.
            let lt = answers_listed P at.holds i e in
            let B = get_or (blends P) i none in
            let m = entry (blends P) i none lt in
            let a = anchor_shown P at.holds B m in
            let d = anchor_in P at.holds B m in
            let u = B.across.m - 1 in
            let v = B.up.m - 1 in
            rw (place_listed P at.holds i lt) (
              u,
              v,
              a.0,
              a.1,
              point_answers P at.holds u v d.0 d.1 ∙
                  ap (λ (n : ℕ). record { number = 0; litres = n }) (reading_value P at.valued i lt),
            );
        in_table = readings_within _
            (subst (λ (vs : List ℕ). (x : ℕ) → Memᴰ x P.values → x ≤ greatest vs)
            (sym (table_values_lem P at.holds))
            (at_most_greatest P.values));
        at_most = point_within 65535 (reading_most P at.valued);
      }

  takes_within : (k : ℕ) → Within k P → {lines : List Split} {Q : Plain} → Takes P lines Q → Within k Q
  takes_within k old no_line = old
  takes_within k old (one_line c e) = drawn_within P at.valued c (exact_says P.lines c e).1 k old

  -- Values after a call are at most k, where those before it are and the value that it sets, if it
  -- is accepted.
  step_within : (k : ℕ) → Within k P → (c : Call) →
      ((x : ℕ) → Memᴰ x (cond (eqb (number_of (by_machine P c).answer) 0) (value_set c) []) → x ≤ k) →
      Within k (by_machine P c).next
  unfolding set_plain
  step_within k old (set i j v) new =
      ⊎_elim
      (λ (t : ltb (place_of (blends P) (i + 1) (j + 1)) (length (blends P)) ≡ true).
      rw t (λ x m. ⊎_elim (λ q. (rw t at new) x (Memᴰ.head q)) (old x) (set_mem P.values _ (v % 65536) x m)))
      (λ (f : ltb (place_of (blends P) (i + 1) (j + 1)) (length (blends P)) ≡ false). rw f old)
      (either (ltb (place_of (blends P) (i + 1) (j + 1)) (length (blends P))))
  step_within k old (split s a) new = takes_within k old (split_takes P at s a)
  step_within k old (place i) new = old
  step_within k old (reads u v) new = old
  step_within k old (weighs u v) new = old
  step_within k old (along_row v wanted) new = old
  step_within k old (along_column u wanted) new = old
  step_within k old (same_as m) new =
      ⊎_elim (λ (t : good m ≡ true). rw t old) (λ (f : good m ≡ false). rw f old) (either (good m))

  -- After a value is set, the reading at its anchor is that value.
  pub set_then_reads : (i j v : ℕ) → (by_library (record_of P) (set i j v)).answer ≡ number 0 →
      reading (by_library (record_of P) (set i j v)).next i j ≡ record { number = 0; litres = v % 65536 }
  set_then_reads i j v =
      subst (λ (o : Outcome Map). o.answer ≡ number 0 →
      reading o.next i j ≡ record { number = 0; litres = v % 65536 })
      (sym (step_follows P at (set i j v)))
      (⊎_elim
      (λ (t : ltb (place_of (blends P) (i + 1) (j + 1)) (length (blends P)) ≡ true).
      let there = ltb-true _ _ t in
      let k = place_of (blends P) (i + 1) (j + 1) in
      let f = place_found (blends P) (i + 1) (j + 1) there in
      let d = anchor_in P at.holds (get_or (blends P) k none) (entry (blends P) k none there) in
      let l : Leads P [] (set_plain P i j (v % 65536)) = rw t at (step_leads P at (set i j v)) in
      rw t (λ e.
      point_answers (set_plain P i j (v % 65536)) l.reached.holds i j (rw l.wide (omega (arith, d.0, f.0)))
      (rw l.tall (omega (arith, d.1, f.1))) ∙
      ap (λ (n : ℕ). record { number = 0; litres = n })
      (set_reading P at.valued i j (v % 65536) there (mod-lt v (omega arith)))))
      (λ (f : ltb (place_of (blends P) (i + 1) (j + 1)) (length (blends P)) ≡ false).
      rw f (λ e. let z : ◌≡◌ {A = ℕ} 9 0 = ap number_of e in absurd (omega (arith, z))))
      (either (ltb (place_of (blends P) (i + 1) (j + 1)) (length (blends P)))))

-- So it is after a list.
pub list_within : (cs : List Call) (k : ℕ) (P : Plain) → Reached P → Within k P →
    ((x : ℕ) → Memᴰ x (values_set (record_of P) cs) → x ≤ k) →
    Within k (ending by_machine P cs)
list_within [] k P at old new = old
list_within (c ∷ cs) k P at old new =
    let Q = (by_machine P c).next in
    let here = cond (eqb (number_of (by_machine P c).answer) 0) (value_set c) [] in
    let all : (x : ℕ) → Memᴰ x (here ++ values_set (record_of Q) cs) → x ≤ k = rw (step_follows P at c) at new in
    list_within cs k Q (step_leads P at c).reached (step_within P at k old c (λ x m. all x (Memᴰ.append_left _ m)))
    (λ x m. all x (Memᴰ.append_right here m))
