-- Marks decide nothing but themselves: two good records that differ only in marks get the same answers, and leave such records.
use Prim.Native.Nat.{ℕ, ◌+◌}
use mathlib.Core.Path.{◌≡◌, refl, sym, ap, ap₂, subst, ◌∙◌}
use mathlib.Core.Logic.{⊎_elim}
use mathlib.Core.Bool.{Bool, true, false, cond, ◌&&◌}
use mathlib.Core.List.{List, [], ◌∷◌, map}
use lib.Dec.{ltb, eqb}
use lib.ListN.{length, take}
use Rattle.axis.proofs.Tests.{either}
use Rattle.mesh.specs.declared.Split.{Split}
use Rattle.mesh.specs.Lines.{layout_of}
use Rattle.mesh.specs.Splits.{live_of, asked}
use Rattle.mesh.specs.Lengthening.{chosen}
use Rattle.maps.specs.declared.Map.{Map}
use Rattle.maps.specs.Plain.{Plain, blends}
use Rattle.maps.specs.Values.{place_of, drawn}
use Rattle.maps.specs.Record.{record_of, Held, plain, good}
use Rattle.maps.specs.Calls.{set_plain, place_on}
use Rattle.maps.specs.Sameness.{same_plain, sameness}
use Rattle.maps.specs.Histories.{Call, set, split, place, reads, weighs, along_row, along_column, same_as, placed, Outcome, outcome, first_drawn, by_machine, outcomes, ending}
use Rattle.maps.specs.Demand.{recorded}
use Rattle.maps.specs.ByMarks.{without_marks, unmarked, but_marks, SameLists, ByMarks}
use Rattle.maps.proofs.GoodRecords.{good_facts}
use Rattle.maps.proofs.Reached.{Reached, good_reached}
use Rattle.maps.proofs.Following.{outcomes_follow, ending_follows}

-- what a map holds, with other marks
abbrev pub marking : Plain → List ℕ → Plain
marking P marks = record { lines = P.lines; values = P.values; marks = marks }

-- One call on the machine, and on one with other marks: the same answer but for the mark, and the same next but for marks.
record Alike (one other : Outcome Plain) : Type 0 where
  answers : unmarked one.answer ≡ unmarked other.answer
  next : one.next ≡ marking other.next one.next.marks

by_test : (b : Bool) {x y p q : Outcome Plain} → Alike x p → Alike y q → Alike (cond b x y) (cond b p q)
by_test true e f = e
by_test false e f = f

module _ (P : Plain) (marks : List ℕ) where
  first_alike : (cs : List Split) → Alike (first_drawn (marking P marks) cs) (first_drawn P cs)
  unfolding drawn
  first_alike [] = record { answers = refl; next = refl }
  first_alike (c ∷ cs) = record { answers = refl; next = refl }

  place_alike : (i : ℕ) → unmarked (placed (place_on (marking P marks) i)) ≡ unmarked (placed (place_on P i))
  place_alike i = ⊎_elim (λ t. rw t) (λ f. rw f) (either (ltb i (length (blends P))))

  step_alike : (c : Call) → Alike (by_machine (marking P marks) c) (by_machine P c)
  unfolding set_plain drawn same_plain
  step_alike (set i j v) =
      by_test (ltb (place_of (blends P) (i + 1) (j + 1)) (length (blends P))) (record { answers = refl; next = refl }) (record { answers = refl; next = refl })
  step_alike (split s a) = by_test (eqb (asked P.lines s a) 0) (first_alike (chosen P.lines s a)) (record { answers = refl; next = refl })
  step_alike (place i) = record { answers = place_alike i; next = refl }
  step_alike (reads u v) = record { answers = refl; next = refl }
  step_alike (weighs u v) = record { answers = refl; next = refl }
  step_alike (along_row v wanted) = record { answers = refl; next = refl }
  step_alike (along_column u wanted) = record { answers = refl; next = refl }
  step_alike (same_as m) = by_test (good m) (record { answers = refl; next = refl }) (record { answers = refl; next = refl })

-- Lists of calls:
machine_outcomes : (cs : List Call) (P : Plain) (marks : List ℕ) →
    map but_marks (map recorded (outcomes by_machine (marking P marks) cs)) ≡ map but_marks (map recorded (outcomes by_machine P cs))
unfolding record_of
machine_outcomes [] P marks = refl
machine_outcomes (c ∷ cs) P marks =
    let s = step_alike P marks c in
    let next = (by_machine P c).next in
    let other = (by_machine (marking P marks) c).next in
    ap₂ ◌∷◌ (ap₂ outcome s.answers (ap (λ (Q : Plain). without_marks (record_of Q)) s.next))
    (ap (λ (Q : Plain). map but_marks (map recorded (outcomes by_machine Q cs))) s.next ∙ machine_outcomes cs next other.marks)

machine_ending : (cs : List Call) (P : Plain) (marks : List ℕ) →
    without_marks (record_of (ending by_machine (marking P marks) cs)) ≡ without_marks (record_of (ending by_machine P cs))
unfolding record_of
machine_ending [] P marks = refl
machine_ending (c ∷ cs) P marks =
    let s = step_alike P marks c in
    ap (λ (Q : Plain). without_marks (record_of (ending by_machine Q cs))) s.next ∙
    machine_ending cs (by_machine P c).next (by_machine (marking P marks) c).next.marks

-- and so of the library, on what calls may have reached
pub same_lists : (P : Plain) (marks : List ℕ) → Reached P → Reached (marking P marks) → SameLists (record_of (marking P marks)) (record_of P)
same_lists P marks at other =
    record {
      same_outcomes = λ cs.
          ap (map but_marks) (outcomes_follow cs (marking P marks) other) ∙ machine_outcomes cs P marks ∙ sym (ap (map but_marks) (outcomes_follow cs P at));
      same_left = λ cs.
          ap without_marks (ending_follows cs (marking P marks) other) ∙ machine_ending cs P marks ∙ sym (ap without_marks (ending_follows cs P at));
    }

-- Records that differ only in marks hold maps that do;
pub remarked : (m n : Map) → without_marks m ≡ without_marks n → plain m ≡ marking (plain n) (plain m).marks
unfolding plain
remarked m n same =
    let lines = ap (λ (x : Map). x.lines) same in
    let values = ap (λ (x : Map). x.values) same in
    λ i. let L = layout_of (lines i) in
    record { lines = L; values = take (length (live_of L)) (values i); marks = (plain m).marks }

-- so two good ones get the same answers.
module _ (m n : Map) (hm : Held m) (hn : Held n) (gm : good m ≡ true) (gn : good n ≡ true) (same : without_marks m ≡ without_marks n) where
  is_marked : plain m ≡ marking (plain n) (plain m).marks
  is_marked = remarked m n same

  pub by_marks : ByMarks m n
  unfolding sameness same_plain
  by_marks =
      let fm = good_facts m hm.full gm in
      let fn = good_facts n hn.full gn in
      let lists = same_lists (plain n) (plain m).marks (good_reached n hn gn)
      (subst Reached is_marked (good_reached m hm gm)) in
      let is_m : record_of (marking (plain n) (plain m).marks) ≡ m = ap record_of (sym is_marked) ∙ fm.is_record in
      record {
        lists = subst (λ (x : Map). SameLists x n) is_m (subst (SameLists (record_of (marking (plain n) (plain m).marks))) fn.is_record lists);
        same_told = λ x. (
          rw (gm, gn) (ap (λ (P : Plain). cond (good x) (record { number = 0; yes = same_plain P (plain x) })
              (record { number = 2; yes = false })) is_marked),
          rw (gm, gn)
              (ap (λ (P : Plain). cond (good x && true) (record { number = 0; yes = same_plain (plain x) P })
              (record { number = 2; yes = false })) is_marked),
        );
      }
