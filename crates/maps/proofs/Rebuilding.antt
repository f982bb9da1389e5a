-- Lists of calls that are all accepted, one after another, and the splits and values of a map replayed as calls.
use Prim.Native.Nat.{ℕ, ◌+◌, ◌-◌, ◌<◌, ◌%◌}
use native.Mathlib.Omega.{arith}
use native.Mathlib.Numerals.{add-one}
use native.Mathlib.Nat.{mod-eq_of_lt}
use mathlib.Core.Path.{◌≡◌, refl, ap, ◌∙◌}
use mathlib.Core.Logic.{⊎_elim}
use mathlib.Core.Bool.{true}
use mathlib.Core.List.{List, [], ◌∷◌, ◌++◌, map, Memᴰ}
use borrow.Author.Tests.{eqb-true, eq-eqb, lt-ltb}
use lib.Dec.{eqb}
use lib.ListN.{length, length-append}
use lib.Seq.{set_at}
use Rattle.mesh.specs.declared.Split.{Split}
use Rattle.mesh.specs.declared.Blend.{Blend}
use Rattle.mesh.specs.Blends.{anchored}
use Rattle.axis.proofs.Tests.{either, and_both, and_of, cond_true, cond_false}
use Rattle.axis.specs.Range.{Distinct}
use Rattle.mesh.specs.Blends.{OwnAnchors}
use Rattle.mesh.proofs.Cuts.{proper_facts}
use Rattle.mesh.proofs.SoundMaps.{live_distinct, own_anchors}
use Rattle.axis.proofs.Members.{map_mem}
use Rattle.maps.specs.declared.Map.{Map}
use Rattle.maps.specs.Plain.{Plain, blends}
use Rattle.mesh.specs.Lines.{mesh_of}
use Rattle.maps.specs.Values.{place_of, drawn}
use Rattle.maps.specs.Calls.{set_plain}
use Rattle.mesh.specs.Splits.{exact_number, with_line, accepted}
use Rattle.mesh.specs.Replay.{Replays}
use Rattle.mesh.proofs.Accepted.{replays_more}
use Rattle.mesh.proofs.Allowance.{exact_taken}
use Rattle.maps.specs.Record.{record_of}
use Rattle.maps.specs.Histories.{Call, set, exactly, number, Outcome, outcome, by_library, by_machine, outcomes, ending}
use Rattle.maps.specs.Demand.{recorded, lines_by}
use Rattle.maps.specs.Holds.{Valued}
use Rattle.maps.proofs.Readings.{blends_proper}
use Rattle.maps.proofs.Reached.{Reached}
use Rattle.maps.proofs.Following.{outcomes_follow}

-- A list after another goes on with what that one leaves.
module _ {State : Type 0} (step : State → Call → Outcome State) where
  pub ending_join : (s : State) (cs ds : List Call) → ending step s (cs ++ ds) ≡ ending step (ending step s cs) ds
  ending_join s [] ds = refl
  ending_join s (c ∷ cs) ds = ending_join (step s c).next cs ds

  pub outcomes_join : (s : State) (cs ds : List Call) → outcomes step s (cs ++ ds) ≡ outcomes step s cs ++ outcomes step (ending step s cs) ds
  outcomes_join s [] ds = refl
  outcomes_join s (c ∷ cs) ds = ap (λ (l : List (Outcome State)). step s c ∷ l) (outcomes_join (step s c).next cs ds)

-- The calls are accepted, each in its turn, and lead the machine from P to Q.
abbrev pub AcceptedTo : Plain → List Call → Plain → Type 0
AcceptedTo P [] Q = P ≡ Q
AcceptedTo P (c ∷ cs) Q = ((by_machine P c).answer ≡ number 0) × AcceptedTo (by_machine P c).next cs Q

pub accepted_join : (cs ds : List Call) (P Q R : Plain) → AcceptedTo P cs Q → AcceptedTo Q ds R → AcceptedTo P (cs ++ ds) R
accepted_join [] ds P Q R e a = rw e a
accepted_join (c ∷ cs) ds P Q R e a = (e.0, accepted_join cs ds (by_machine P c).next Q R e.1 a)

pub accepted_ends : (cs : List Call) (P Q : Plain) → AcceptedTo P cs Q → ending by_machine P cs ≡ Q
accepted_ends [] P Q e = e
accepted_ends (c ∷ cs) P Q e = accepted_ends cs (by_machine P c).next Q e.1

machine_accepts : (cs : List Call) (P Q : Plain) → AcceptedTo P cs Q → (o : Outcome Plain) → Memᴰ o (outcomes by_machine P cs) →
    o.answer ≡ number 0
machine_accepts [] P Q e o m = absurd (mathlib.Core.List.Memᴰ.not-nil m)
machine_accepts (c ∷ cs) P Q e o m =
    ⊎_elim (λ q. ap (λ (x : Outcome Plain). x.answer) q ∙ e.0) (machine_accepts cs (by_machine P c).next Q e.1 o) (mathlib.Core.List.Memᴰ.cases_cons m)

-- The library accepts them too.
pub library_accepts : (cs : List Call) (P Q : Plain) → Reached P → AcceptedTo P cs Q → (o : Outcome Map) →
    Memᴰ o (outcomes by_library (record_of P) cs) → o.answer ≡ number 0
library_accepts cs P Q at e o m =
    let r = map_mem recorded (outcomes by_machine P cs) o (rw (outcomes_follow cs P at) at m) in
    ap (λ (x : Outcome Map). x.answer) r.2 ∙ machine_accepts cs P Q e r.0 r.1

-- One call that answers 0 before such a list:
pub accepted_more : (c : Call) (cs : List Call) (P Q R : Plain) → by_machine P c ≡ outcome (number 0) Q → AcceptedTo Q cs R →
    AcceptedTo P (c ∷ cs) R
accepted_more c cs P Q R e a = rw e (refl, a)

-- Splits that a record may have are accepted as calls, and are the lines of those calls.
pub splits_drawn : (ss : List Split) (P : Plain) → Replays P.lines → accepted P.lines ss ≡ true →
    (Q : Plain) × AcceptedTo P (map exactly ss) Q × (lines_by P (map exactly ss) ≡ ss)
unfolding accepted drawn
splits_drawn [] P taken e = (P, refl, refl)
splits_drawn (s ∷ ss) P taken e =
    let a = and_both (eqb (exact_number P.lines s) 0) (accepted (with_line P.lines s) ss) e in
    let z = eqb-true _ _ a.0 in
    let one = exact_taken P.lines taken s z in
    let step : by_machine P (exactly s) ≡ outcome (number 0) (drawn P s) = rw (one.0, one.1) in
    let rest = splits_drawn ss (drawn P s) (replays_more taken s z) a.1 in (
      rest.0,
      accepted_more (exactly s) (map exactly ss) P (drawn P s) rest.0 step rest.1,
      rw (one.0, one.1) (ap (λ (l : List Split). s ∷ l) rest.2),
    )

-- The place of a blend's own anchor is where the blend stands in the table,
own_place : (done : List Blend) (B : Blend) (bs : List Blend) → Distinct (done ++ B ∷ bs) → OwnAnchors (done ++ B ∷ bs) →
    place_of (done ++ B ∷ bs) B.across.m B.up.m ≡ length done
own_place [] B bs d own = cond_true _ _ _ (and_of _ _ (eq-eqb B.across.m _ refl) (eq-eqb B.up.m _ refl))
own_place (C ∷ done) B bs d own =
    let here : Memᴰ B (done ++ B ∷ bs) = mathlib.Core.List.Memᴰ.append_right done (mathlib.Core.List.Memᴰ.head refl) in
    ⊎_elim
    (λ t.
    let a = and_both (eqb C.across.m B.across.m) (eqb C.up.m B.up.m) t in
    let same = own C B (mathlib.Core.List.Memᴰ.head refl) (mathlib.Core.List.Memᴰ.tail here) (eqb-true _ _ a.0) (eqb-true _ _ a.1) in
    absurd (d.0 (rw same here)))
    (λ f.
    cond_false _ _ _ f ∙ ap (λ (n : ℕ). n + 1) (own_place done B bs d.1 (λ X Y mx my. own X Y (mathlib.Core.List.Memᴰ.tail mx) (mathlib.Core.List.Memᴰ.tail my))) ∙
    add-one (length done))
    (either (anchored B.across.m B.up.m C))

-- the same lines with other values and marks
abbrev pub with_values : Plain → List ℕ → List ℕ → Plain
with_values P vs ms = record { lines = P.lines; values = vs; marks = ms }

-- so setting its value puts it there, and marks it.
module _ (P : Plain) (valued : Valued P) (done : List Blend) (B : Blend) (bs : List Blend) (is : blends P ≡ done ++ B ∷ bs)
    (us : List ℕ) (w : ℕ) (ws : List ℕ) (full : length us ≡ length done) (v : ℕ) (lt : v < 65536)
    (ks : List ℕ) (m : ℕ) (ms : List ℕ) (full_marks : length ks ≡ length done) where
  there : place_of (blends P) (B.across.m - 1 + 1) (B.up.m - 1 + 1) ≡ length done
  there =
      let m : Memᴰ B (blends P) = rw is (mathlib.Core.List.Memᴰ.append_right done (mathlib.Core.List.Memᴰ.head refl)) in
      let p = proper_facts P.lines.w P.lines.h B (blends_proper P valued B m) in
      let a = p.across in
      let b = p.up in
      let x : B.across.m - 1 + 1 ≡ B.across.m = omega arith in
      let y : B.up.m - 1 + 1 ≡ B.up.m = omega arith in
      let d : Distinct (done ++ B ∷ bs) = rw is at (live_distinct P.lines.w P.lines.h valued.wide.0 valued.tall.0 (mesh_of P.lines)) in
      let own : OwnAnchors (done ++ B ∷ bs) =
      rw is at (own_anchors P.lines.w P.lines.h valued.wide.0 valued.tall.0 (mesh_of P.lines) valued.is_sound) in
      rw (x, y, is) (own_place done B bs d own)

  within : length done < length (blends P)
  within = rw (is, length-append) (omega arith)

  pub value_set : by_machine (with_values P (us ++ w ∷ ws) (ks ++ m ∷ ms)) (set (B.across.m - 1) (B.up.m - 1) v) ≡
      outcome (number 0) (with_values P (us ++ v ∷ ws) (ks ++ 1 ∷ ms))
  unfolding set_plain
  value_set =
      let small : v % 65536 ≡ v = mod-eq_of_lt lt in
      let values = set_at us w ws v (length done) full in
      let marks = set_at ks m ms 1 (length done) full_marks in
      rw (there, lt-ltb _ _ within, small, values, marks)
