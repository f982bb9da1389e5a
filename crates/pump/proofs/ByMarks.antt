-- Marks decide nothing but themselves over two buffers.
use Prim.Native.Nat.{ℕ}
use native.Mathlib.Omega.{arith}
use mathlib.Core.Path.{◌≡◌, refl, sym, ap, ap₂, subst, ◌∙◌}
use mathlib.Core.Logic.{⊎_elim}
use mathlib.Core.Bool.{true, false, ◌&&◌}
use mathlib.Core.List.{List, [], ◌∷◌, ◌++◌}
use lib.Dec.{leb, ltb}
use lib.ListN.{length, drop, length-append, length-drop}
use lib.Seq.{take-append_seam, drop-append_seam}
use Rattle.axis.proofs.Tests.{either, and_both}
use Rattle.mesh.specs.Lines.{allowed_side}
use Rattle.maps.specs.declared.Map.{Map}
use Rattle.maps.specs.Outcomes.{Changed}
use Rattle.maps.specs.Plain.{Plain, fresh_plain, blends}
use Rattle.maps.specs.Record.{record_of}
use Rattle.maps.specs.Histories as Maps
use Rattle.maps.specs.Histories.{Call, Answer, number, placed, read, weighed, walked, told, Outcome, number_of, by_library, by_machine}
use Rattle.maps.specs.Demand.{recorded}
use Rattle.maps.specs.ByMarks.{without_marks, unmarked, but_marks}
use Rattle.maps.specs.Sameness.{same_plain}
use Rattle.maps.specs.Holds.{Holds}
use Rattle.maps.proofs.GoodRecords.{record_good}
use Rattle.maps.proofs.Reached.{Reached, fresh_reached, step_leads}
use Rattle.maps.proofs.Following.{step_follows}
use Rattle.maps.proofs.ByMarks.{marking, same_lists, remarked}
use Rattle.files.specs.File.{file_of}
use Rattle.files.specs.Calls.{if_refused, short_of, answered}
use Rattle.files.specs.Listing.{table_text, marks_blanked}
use Rattle.files.proofs.MarksInText.{blanked_length, text_by_marks}
use Rattle.pump.specs.Histories.{PumpCall, fresh, set, split, place, reads, weighs, along_row, along_column, same_as, same_to, checks, payloads, lists, PumpAnswer, PumpOutcome, says, Buffer, Desk, desk, puts, changes, by_rules, lent_by}
use Rattle.pump.specs.ByMarks.{AlikeButMarks, but_mark, ByMarks}
use Rattle.pump.proofs.Histories.{At, put_at, is_read, step_shown}
use Rattle.pump.proofs.Demand3.{file_desk, file_lent, file_at}
use Rattle.pump.proofs.ByLines.{files_alike}

-- what two records hold that differ only in marks
held_remarked : {P Q : Plain} → Holds P → Holds Q → without_marks (record_of P) ≡ without_marks (record_of Q) →
    P ≡ marking Q P.marks
held_remarked {P} {Q} p q same =
    rw ((record_good p).1, (record_good q).1) at (remarked (record_of P) (record_of Q) same)

-- an answer of the machine has the same number without its mark
same_number : (a : Answer) → number_of (unmarked a) ≡ number_of a
same_number (placed p) = refl
same_number (number n) = refl
same_number (read r) = refl
same_number (weighed w) = refl
same_number (walked p) = refl
same_number (told s) = refl

-- what an answer with a text shows, by the text's length and its bytes without marks
abbrev shows : List ℕ → ℕ → List ℕ → PumpAnswer
shows out long bytes =
    let n = short_of long out in
    let count = if_refused n 0 long in says n (count ∷ []) (if_refused n [] bytes ++ drop count out)

text_answer : (out text : List ℕ) →
    let n = short_of (length text) out in
    but_mark (lists out) (says n (if_refused n 0 (length text) ∷ []) (answered n text out)) ≡
    shows out (length text) (marks_blanked 10 text)
text_answer out text =
    ⊎_elim (λ (t : ltb (length out) (length text) ≡ true). rw t)
    (λ (f : ltb (length out) (length text) ≡ false). rw (f, take-append_seam, drop-append_seam))
    (either (ltb (length out) (length text)))

-- Two desks with maps that differ only in marks, files of one length and buffers of one length.
record Pair (d e : Desk) : Type 0 where
  at : At d
  too : At e
  same : d.holds ≡ marking e.holds d.holds.marks
  used : length d.file ≡ length e.file
  room : length d.bytes ≡ length e.bytes

-- One call on both: the same answer but for marks, and two such desks again.
abbrev Both : PumpCall → PumpOutcome Desk → PumpOutcome Desk → Type 0
Both c x y = (but_mark c x.answer ≡ but_mark c y.answer) × Pair x.next y.next

module _ {d e : Desk} (both : Pair d e) where
  -- a new map of each, or a refusal;
  puts_both : (P Q : Plain) → Reached P → Reached Q → P ≡ marking Q P.marks →
      ((puts d P).answer ≡ (puts e Q).answer) × Pair (puts d P).next (puts e Q).next
  puts_both P Q p q same =
      let long = files_alike p.holds q.holds (ap (λ (R : Plain). R.lines) same) in
      let short = ltb (length e.bytes) (length (file_of Q)) in
      let alike : ltb (length d.bytes) (length (file_of P)) ≡ short = rw (both.room, long) in
      ⊎_elim (λ (t : short ≡ true). rw (alike ∙ t, t) (refl, both))
      (λ (f : short ≡ false).
      rw (alike ∙ f, f) (
        refl,
        record {
          at = put_at P p d.bytes;
          too = put_at Q q e.bytes;
          same = same;
          used = long;
          room = simp (length-append, length-drop) (omega (arith, long, both.room));
        },
      ))
      (either short)

  -- a change of each, by what one call on the machine gives two maps that differ only in marks;
  changes_both : (c : Call) →
      ((changes d c).answer ≡ (changes e c).answer) × Pair (changes d c).next (changes e c).next
  changes_both c =
      let P = e.holds in
      let R = marking P d.holds.marks in
      let there = both.too.reached in
      let here : Reached R = subst Reached both.same both.at.reached in
      let all = (same_lists P d.holds.marks there here).same_outcomes (c ∷ []) in
      let one : but_marks (by_library (record_of R) c) ≡ but_marks (by_library (record_of P) c) = cc in
      let told : but_marks (recorded (by_machine R c)) ≡ but_marks (recorded (by_machine P c)) =
      ap but_marks (sym (step_follows R here c)) ∙ one ∙ ap but_marks (step_follows P there c) in
      let n = number_of (by_machine P c).answer in
      let number : number_of (by_machine d.holds c).answer ≡ n =
      ap (λ (Q : Plain). number_of (by_machine Q c).answer) both.same ∙ sym (same_number (by_machine R c).answer) ∙
      ap (λ (o : Outcome Map). number_of o.answer) told ∙ same_number (by_machine P c).answer in
      let left : Plain → Map = λ Q. without_marks (record_of (by_machine Q c).next) in
      let next : left d.holds ≡ left P = ap left both.same ∙ ap (λ (o : Outcome Map). o.next) told in
      let p = (step_leads d.holds both.at.reached c).reached in
      let q = (step_leads P there c).reached in
      ⊎_elim (λ (t : leb 1 n ≡ true). rw (number, t) (refl, both))
      (λ (f : leb 1 n ≡ false).
      rw (number, f)
      (puts_both (by_machine d.holds c).next (by_machine P c).next p q (held_remarked p.holds q.holds next)))
      (either (leb 1 n))

  -- a question to each
  asks_both : (answer : Plain → PumpAnswer) → answer (marking e.holds d.holds.marks) ≡ answer e.holds →
      answer d.holds ≡ answer e.holds
  asks_both answer f = ap answer both.same ∙ f

  place_both : (i : ℕ) (out : List ℕ) →
      but_mark (place i out) (by_rules d (place i out)).answer ≡ but_mark (place i out) (by_rules e (place i out)).answer
  place_both i out =
      asks_both (λ P. but_mark (place i out) (by_rules (desk P d.file d.bytes) (place i out)).answer)
      (⊎_elim
      (λ (t : ltb i (length (blends e.holds)) ≡ true).
      rw t
      (⊎_elim (λ (u : ltb (length out) 16 ≡ true). rw u) (λ (u : ltb (length out) 16 ≡ false). rw u)
      (either (ltb (length out) 16))))
      (λ (f : ltb i (length (blends e.holds)) ≡ false). rw f) (either (ltb i (length (blends e.holds)))))

  text_both : marks_blanked 10 (table_text d.holds) ≡ marks_blanked 10 (table_text e.holds)
  text_both =
      let p = both.at.reached.holds in
      let q = both.too.reached.holds in
      let as_many : length d.holds.marks ≡ length e.holds.marks =
      p.counted_marks ∙ ap (λ (P : Plain). length (blends P)) both.same ∙ sym q.counted_marks in
      ap (λ (P : Plain). marks_blanked 10 (table_text P)) both.same ∙
      text_by_marks e.holds d.holds.marks as_many p.are_marks q.are_marks

  step_both : (c : PumpCall) → Both c (by_rules d c) (by_rules e c)
  unfolding same_plain
  step_both (fresh w h) =
      ⊎_elim
      (λ (t : allowed_side w && allowed_side h ≡ true).
      let b = and_both (allowed_side w) (allowed_side h) t in
      let reached = fresh_reached w h b.0 b.1 in
      rw t (puts_both (fresh_plain w h) (fresh_plain w h) reached reached refl))
      (λ (f : allowed_side w && allowed_side h ≡ false). rw f (refl, both)) (either (allowed_side w && allowed_side h))
  step_both (set m n v) =
      ⊎_elim (λ (t : leb v 65535 ≡ true). rw t (changes_both (Maps.set m n v)))
      (λ (f : leb v 65535 ≡ false). rw f (refl, both)) (either (leb v 65535))
  step_both (split s a) = changes_both (Maps.split s a)
  step_both (place i out) = (place_both i out, both)
  step_both (reads u v) = (asks_both (λ P. (by_rules (desk P [] []) (reads u v)).answer) refl, both)
  step_both (weighs u v out) = (asks_both (λ P. (by_rules (desk P [] []) (weighs u v out)).answer) refl, both)
  step_both (along_row v wanted) = (asks_both (λ P. (by_rules (desk P [] []) (along_row v wanted)).answer) refl, both)
  step_both (along_column u wanted) = (asks_both (λ P. (by_rules (desk P [] []) (along_column u wanted)).answer) refl, both)
  step_both (same_as other) = (asks_both (λ P. (by_rules (desk P [] []) (same_as other)).answer) refl, both)
  step_both (same_to other) = (asks_both (λ P. (by_rules (desk P [] []) (same_to other)).answer) refl, both)
  step_both checks = (refl, both)
  step_both (payloads i) = (refl, both)
  step_both (lists out) =
      let one = table_text d.holds in
      let other = table_text e.holds in
      let long : length one ≡ length other =
      sym (blanked_length 10 one) ∙ ap length text_both ∙ blanked_length 10 other in
      (text_answer out one ∙ ap₂ (shows out) long text_both ∙ sym (text_answer out other), both)

  -- the buffers of the two
  lent_both : AlikeButMarks (lent_by d) (lent_by e)
  unfolding record_of
  lent_both =
      let here = is_read both.at in
      let there = is_read both.too in
      record {
        is_file = ap (λ (r : Changed). r.number) here;
        other_is_file = ap (λ (r : Changed). r.number) there;
        same_length = both.room;
        same_used = both.used;
        same_map =
            ap (λ (r : Changed). without_marks r.map) here ∙
            ap (λ (P : Plain). without_marks (record_of P)) both.same ∙
            sym (ap (λ (r : Changed). without_marks r.map) there);
      }

-- and lists of calls on them
lists_both : (cs : List PumpCall) {d e : Desk} → Pair d e → ByMarks (lent_by d) (lent_by e) cs
lists_both [] both = record { same_answers = refl; left_alike = lent_both both }
lists_both (c ∷ cs) both =
    let s = step_both both c in
    let rest = lists_both cs s.1 in
    record {
      same_answers = rw (step_shown both.at c, step_shown both.too c) (ap₂ ◌∷◌ s.0 rest.same_answers);
      left_alike = rw (step_shown both.at c, step_shown both.too c) rest.left_alike;
    }

pub border_by_marks : (one other : Buffer) → AlikeButMarks one other → (cs : List PumpCall) → ByMarks one other cs
border_by_marks one other a cs =
    let e = a.is_file in
    let f = a.other_is_file in
    let here = file_at one e in
    let there = file_at other f in
    let both : Pair (file_desk one e) (file_desk other f) =
    record {
      at = here;
      too = there;
      same =
          held_remarked here.reached.holds there.reached.holds
          (sym (ap (λ (r : Changed). without_marks r.map) here.is_file) ∙ a.same_map ∙
          ap (λ (r : Changed). without_marks r.map) there.is_file);
      used =
          ap (λ (b : Buffer). b.used) (file_lent one e) ∙ a.same_used ∙
          sym (ap (λ (b : Buffer). b.used) (file_lent other f));
      room = a.same_length;
    } in
    subst (λ (b : Buffer). ByMarks b other cs) (file_lent one e)
    (subst (λ (b : Buffer). ByMarks (lent_by (file_desk one e)) b cs) (file_lent other f) (lists_both cs both))
