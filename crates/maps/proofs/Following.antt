-- The library follows the plain machine: on the record of what it holds each call answers as the machine does, and hands back or leaves the
-- record of what the machine then holds.
use Prim.Native.Nat.{◌+◌}
use mathlib.Core.Path.{◌≡◌, refl, ap}
use mathlib.Core.Logic.{⊎_elim}
use mathlib.Core.Bool.{Bool, true, false, cond}
use mathlib.Core.List.{List, [], ◌∷◌, map}
use lib.Dec.{ltb, eqb}
use lib.ListN.{length}
use Rattle.mesh.specs.declared.Split.{Split}
use Rattle.maps.specs.declared.Map.{Map}
use Rattle.maps.specs.Outcomes.{Changed}
use Rattle.maps.specs.Plain.{Plain, blends}
use Rattle.maps.specs.Values.{place_of}
use Rattle.mesh.specs.Splits.{asked}
use Rattle.mesh.specs.Lengthening.{chosen}
use Rattle.maps.specs.Record.{record_of, plain, good}
use Rattle.maps.specs.Calls.{set_value, table_place, reading, weights, drawn_first, split_within}
use Rattle.maps.specs.Pairs.{row_pairs, column_pairs}
use Rattle.maps.specs.Sameness.{sameness}
use Rattle.maps.specs.Histories.{Call, set, split, place, reads, weighs, along_row, along_column, same_as, number, Outcome, outcome, by_library, first_drawn, by_machine, outcomes, ending}
use Rattle.maps.specs.Demand.{left_by, recorded}
use Rattle.axis.proofs.Tests.{either}
use Rattle.maps.proofs.GoodRecords.{record_good}
use Rattle.maps.proofs.Reached.{Reached, step_leads}

-- an outcome made of a call's number and map, of one of two by a test
changed_by_lem : (b : Bool) (x y : Changed) (p q : Outcome Plain) →
    outcome (number x.number) x.map ≡ recorded p → outcome (number y.number) y.map ≡ recorded q →
    let r = cond b x y in outcome (number r.number) r.map ≡ recorded (cond b p q)
changed_by_lem true x y p q e f = e
changed_by_lem false x y p q e f = f

module _ (P : Plain) (at : Reached P) where
  is_good : good (record_of P) ≡ true
  is_good = (record_good at.holds).0

  is_held : plain (record_of P) ≡ P
  is_held = (record_good at.holds).1

  first_follows : (cs : List Split) → let r = drawn_first (record_of P) P cs in outcome (number r.number) r.map ≡ recorded (first_drawn P cs)
  first_follows [] = refl
  first_follows (c ∷ cs) = refl

  pub step_follows : (c : Call) → by_library (record_of P) c ≡ recorded (by_machine P c)
  unfolding set_value split_within table_place reading weights row_pairs column_pairs sameness
  step_follows (set i j v) = rw (is_good, is_held) (changed_by_lem (ltb (place_of (blends P) (i + 1) (j + 1)) (length (blends P))) _ _ _ _ refl refl)
  step_follows (split s a) = rw (is_good, is_held) (changed_by_lem (eqb (asked P.lines s a) 0) _ _ _ _ (first_follows (chosen P.lines s a)) refl)
  step_follows (place i) = rw (is_good, is_held)
  step_follows (reads u v) = rw (is_good, is_held)
  step_follows (weighs u v) = rw (is_good, is_held)
  step_follows (along_row v wanted) = rw (is_good, is_held)
  step_follows (along_column u wanted) = rw (is_good, is_held)
  step_follows (same_as m) = rw (is_good, is_held) (⊎_elim (λ e. rw e) (λ e. rw e) (either (good m)))

-- So do lists of calls.
pub outcomes_follow : (cs : List Call) (P : Plain) → Reached P → outcomes by_library (record_of P) cs ≡ map recorded (outcomes by_machine P cs)
outcomes_follow [] P at = refl
outcomes_follow (c ∷ cs) P at =
    rw (step_follows P at c) (ap (λ (l : List (Outcome Map)). recorded (by_machine P c) ∷ l) (outcomes_follow cs (by_machine P c).next (step_leads P at c).reached))

pub ending_follows : (cs : List Call) (P : Plain) → Reached P → left_by P cs ≡ record_of (ending by_machine P cs)
ending_follows [] P at = refl
ending_follows (c ∷ cs) P at = rw (step_follows P at c) (ending_follows cs (by_machine P c).next (step_leads P at c).reached)
