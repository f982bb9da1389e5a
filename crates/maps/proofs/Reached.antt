-- What holds of a map wherever a history is: it stays so through every call.
use Prim.Native.Nat.{ℕ, ◌+◌, ◌<◌, ◌%◌}
use native.Mathlib.Omega.{arith}
use native.Mathlib.Nat.{mod-lt}
use mathlib.Core.Path.{◌≡◌, refl, sym, ap, ◌∙◌}
use mathlib.Core.Logic.{⊎_elim}
use mathlib.Core.Bool.{Bool, true, false, cond}
use mathlib.Core.List.{List, [], ◌∷◌, ◌++◌, append_assoc, append-nil, Memᴰ}
use borrow.Author.Tests.{eqb-true}
use lib.Dec.{ltb, eqb}
use lib.ListN.{length}
use Rattle.mesh.specs.declared.Split.{Split}
use Rattle.mesh.specs.Lines.{allowed_side, layout_of}
use Rattle.maps.specs.declared.Map.{Map}
use Rattle.maps.specs.Plain.{Plain, fresh_plain, blends}
use Rattle.maps.specs.Values.{place_of, drawn}
use Rattle.mesh.specs.Splits.{asked, live_of, exact_number}
use Rattle.mesh.specs.Lengthening.{within}
use Rattle.mesh.specs.Ends.{nearest_good}
use Rattle.maps.specs.Record.{Held, plain, good}
use Rattle.maps.specs.Calls.{set_plain}
use Rattle.maps.specs.Histories.{Call, set, split, place, reads, weighs, along_row, along_column, same_as, Outcome, first_drawn, by_machine, ending}
use Rattle.maps.specs.Demand.{Start, fresh, given_record, line_by, lines_by}
use Rattle.axis.proofs.Tests.{either}
use Rattle.axis.proofs.Entries.{taken_mem}
use Rattle.axis.proofs.Members.{placed}
use Rattle.axis.proofs.Padding.{copies}
use Rattle.mesh.proofs.Passing.{asked_says, exact_says}
use Rattle.maps.specs.Holds.{Holds, Valued}
use Rattle.maps.proofs.GoodRecords.{good_facts, fresh_holds, set_holds, drawn_holds}
use Rattle.mesh.proofs.Accepted.{replays_sides, replays_sound}
use Rattle.maps.proofs.Readings.{set_valued, drawn_valued}
use Rattle.mesh.proofs.Allowance.{least, nearest_accepted}

-- The splits are accepted in order from the fresh map, the map is sound, and each live blend has a 16-bit value.
pub record Reached (P : Plain) : Type 0 where
  pub holds : Holds P
  pub valued : Valued P

-- Of a map that a good record may hold, only that the values are small is left to show;
pub holds_reached : (P : Plain) → Holds P → ((v : ℕ) → Memᴰ v P.values → v < 65536) → Reached P
holds_reached P holds small =
    let sides = replays_sides holds.taken in
    record {
      holds = holds;
      valued =
          record {
            wide = (sides.0, sides.1);
            tall = (sides.2, sides.3);
            is_sound = replays_sound holds.taken;
            counted = holds.counted;
            small = small;
          };
    }

-- as in what a good record holds;
pub good_reached : (m : Map) → Held m → good m ≡ true → Reached (plain m)
unfolding plain
good_reached m held g =
    let k = length (live_of (layout_of m.lines)) in
    holds_reached (plain m) (good_facts m held.full g).holds
    (λ v i.
    let p = placed m.values v 0 (taken_mem k m.values v i) in
    rw (← p.2) (held.small p.0))

-- in a fresh map they are 0.
pub fresh_reached : (w h : ℕ) → allowed_side w ≡ true → allowed_side h ≡ true → Reached (fresh_plain w h)
unfolding fresh_plain
fresh_reached w h a b = holds_reached (fresh_plain w h) (fresh_holds w h a b) (λ v m. omega (arith, copies 0 4 v m))

pub start_reached : (P : Plain) → Start P → Reached P
start_reached P (fresh w h a b) = fresh_reached w h a b
start_reached P (given_record m held g) = good_reached m held g

-- Calls lead from P to Q and draw some lines: sides stay, the lines come after the splits that were there, and Q is such a map again.
pub record Leads (P : Plain) (lines : List Split) (Q : Plain) : Type 0 where
  pub reached : Reached Q
  pub wide : Q.lines.w ≡ P.lines.w
  pub tall : Q.lines.h ≡ P.lines.h
  pub more : Q.lines.splits ≡ P.lines.splits ++ lines

-- What a split may do to a map: it stays, or a line is drawn that is accepted as an exact split.
pub data Takes (P : Plain) : List Split → Plain → Type 0 where
  no_line : Takes P [] P
  one_line : (c : Split) → exact_number P.lines c ≡ 0 → Takes P (c ∷ []) (drawn P c)

-- One call:
module _ (P : Plain) (at : Reached P) where
  leads_nowhere : Leads P [] P
  leads_nowhere = record { reached = at; wide = refl; tall = refl; more = sym (append-nil P.lines.splits) }

  set_leads : (i j v : ℕ) → v < 65536 → Leads P [] (set_plain P i j v)
  unfolding set_plain
  set_leads i j v lt =
      record {
        reached = record { holds = set_holds at.holds i j v; valued = set_valued P at.valued i j v lt };
        wide = refl;
        tall = refl;
        more = sym (append-nil P.lines.splits);
      }

  pub drawn_leads : (s : Split) → exact_number P.lines s ≡ 0 → Leads P (s ∷ []) (drawn P s)
  unfolding drawn
  drawn_leads s e =
      record {
        reached = record { holds = drawn_holds at.holds s e; valued = drawn_valued P at.valued s (exact_says P.lines s e).1 };
        wide = refl;
        tall = refl;
        more = refl;
      }

  -- a split takes one line, if any, and draws it
  pub split_takes : (s : Split) (a : ℕ) → Takes P (line_by P (split s a)) (by_machine P (split s a)).next
  split_takes s a =
      ⊎_elim
      (λ (t : eqb (asked P.lines s a) 0 ≡ true).
      let e = (asked_says P.lines s a (eqb-true _ _ t)).1 in
      rw (t, (least P.lines at.holds.taken s e).taken a)
      (by (nearest_accepted P.lines at.holds.taken s e) (within s a (nearest_good P.lines s))))
      (λ (f : eqb (asked P.lines s a) 0 ≡ false). rw f no_line) (either (eqb (asked P.lines s a) 0))
    where
      n : List Split
      n = nearest_good P.lines s ∷ []

      by : exact_number P.lines (nearest_good P.lines s) ≡ 0 → (b : Bool) →
          Takes P (cond b n []) (first_drawn P (cond b n [])).next
      by e true = one_line _ e
      by e false = no_line

  takes_leads : {lines : List Split} {Q : Plain} → Takes P lines Q → Leads P lines Q
  takes_leads no_line = leads_nowhere
  takes_leads (one_line c e) = drawn_leads c e

  by_test : (lines : List Split) (b : Bool) (x y : Outcome Plain) → (b ≡ true → Leads P lines x.next) → (b ≡ false → Leads P lines y.next) →
      Leads P lines (cond b x y).next
  by_test lines true x y f g = f refl
  by_test lines false x y f g = g refl

  pub step_leads : (c : Call) → Leads P (line_by P c) (by_machine P c).next
  step_leads (set i j v) =
      by_test [] (ltb (place_of (blends P) (i + 1) (j + 1)) (length (blends P))) _ _ (λ e. set_leads i j (v % 65536) (mod-lt v (omega arith)))
      (λ e. leads_nowhere)
  step_leads (split s a) = takes_leads (split_takes s a)
  step_leads (place i) = leads_nowhere
  step_leads (reads u v) = leads_nowhere
  step_leads (weighs u v) = leads_nowhere
  step_leads (along_row v wanted) = leads_nowhere
  step_leads (along_column u wanted) = leads_nowhere
  step_leads (same_as m) = by_test [] (good m) _ _ (λ e. leads_nowhere) (λ e. leads_nowhere)

-- A list of calls:
pub ending_leads : (cs : List Call) (P : Plain) → Reached P → Leads P (lines_by P cs) (ending by_machine P cs)
ending_leads [] P at = leads_nowhere P at
ending_leads (c ∷ cs) P at =
    let first = step_leads P at c in
    let rest = ending_leads cs (by_machine P c).next first.reached in
    record {
      reached = rest.reached;
      wide = rest.wide ∙ first.wide;
      tall = rest.tall ∙ first.tall;
      more = rest.more ∙ ap (λ (l : List Split). l ++ lines_by (by_machine P c).next cs) first.more ∙ append_assoc P.lines.splits _ _;
    }
