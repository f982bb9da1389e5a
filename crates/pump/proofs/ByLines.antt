-- At the border only lines decide a split: two buffers of one length, with as many bytes in use, whose maps have the same lines, give the same answer and
-- are left with the same lines.
use Prim.Native.Nat.{ℕ}
use mathlib.Core.Path.{◌≡◌, refl, sym, ap, subst, ◌∙◌}
use mathlib.Core.Logic.{⊎_elim}
use mathlib.Core.Bool.{true, false}
use mathlib.Core.List.{List, []}
use lib.Dec.{leb, ltb}
use lib.ListN.{length}
use Rattle.axis.proofs.Tests.{either}
use Rattle.mesh.specs.declared.Split.{Split}
use Rattle.mesh.specs.declared.Lines.{Lines}
use Rattle.mesh.specs.Lines.{layout_of}
use Rattle.maps.specs.declared.Map.{Map}
use Rattle.maps.specs.Outcomes.{Changed}
use Rattle.maps.specs.Plain.{Plain}
use Rattle.maps.specs.Record.{lines_of, record_of, plain}
use Rattle.maps.specs.Histories as Maps
use Rattle.maps.specs.Histories.{Call, Outcome, number_of, by_machine}
use Rattle.maps.specs.Demand.{recorded}
use Rattle.maps.specs.ByLines.{SameButValues}
use Rattle.maps.specs.Holds.{Holds}
use Rattle.maps.proofs.GoodRecords.{record_good}
use Rattle.maps.proofs.Reached.{step_leads}
use Rattle.maps.proofs.Following.{step_follows}
use Rattle.maps.proofs.ByLines.{by_lines}
use Rattle.files.specs.File.{file_of}
use Rattle.files.specs.Calls.{read_file}
use Rattle.files.proofs.RoundTrip.{file_length}
use Rattle.pump.specs.Border.{lent}
use Rattle.pump.specs.Histories.{PumpAnswer, PumpOutcome, Buffer, split, outcome, says, by_border, Desk, changes, lent_by, shown}
use Rattle.pump.specs.ByLines.{in_buffer, SameInBuffer}
use Rattle.pump.proofs.Histories.{At, put_at, is_read, step_shown}
use Rattle.pump.proofs.Demand3.{file_desk, file_lent, file_at}

-- the lines of a record and of what it holds tell each other, and how long the file is
records_alike : (P Q : Plain) → P.lines ≡ Q.lines → (record_of P).lines ≡ (record_of Q).lines
unfolding record_of
records_alike P Q e = ap lines_of e

held_lines : {P : Plain} → Holds P → P.lines ≡ layout_of (record_of P).lines
unfolding plain
held_lines h = sym (ap (λ (P : Plain). P.lines) (record_good h).1)

pub files_alike : {P Q : Plain} → Holds P → Holds Q → P.lines ≡ Q.lines → length (file_of P) ≡ length (file_of Q)
files_alike {P} {Q} p q e = file_length P p.counted p.counted_marks false ∙ rw e (sym (file_length Q q.counted q.counted_marks false))

-- the map in the buffer of a desk is the record of what the desk holds
in_buffer_lem : {d : Desk} → At d → in_buffer (lent_by d) ≡ record_of d.holds
in_buffer_lem at = ap (λ (r : Changed). r.map) (is_read at)

module _ {d e : Desk} (at : At d) (too : At e) (same : d.holds.lines ≡ e.holds.lines) (used : length d.file ≡ length e.file)
    (room : length d.bytes ≡ length e.bytes) where
  abbrev Alike : PumpOutcome Buffer → PumpOutcome Buffer → Type 0
  Alike one other = SameInBuffer (lent_by d) (lent_by e) one other

  abbrev SameMarks : Plain → Plain → Type 0
  SameMarks P Q = (record_of d.holds).marks ≡ (record_of e.holds).marks → (record_of P).marks ≡ (record_of Q).marks

  -- two buffers that are left with the files of maps with the same lines
  left_alike : {f g : Desk} → At f → At g → f.holds.lines ≡ g.holds.lines → SameMarks f.holds g.holds →
      length f.file ≡ length g.file →
      (a : PumpAnswer) → Alike (outcome a (lent_by f)) (outcome a (lent_by g))
  left_alike {f} {g} here there lines marks long a =
      record {
        same_answer = refl;
        same_used = long;
        same_lines =
            ap (λ (m : Map). m.lines) (in_buffer_lem here) ∙ records_alike f.holds g.holds lines ∙
            sym (ap (λ (m : Map). m.lines) (in_buffer_lem there));
        same_marks = λ k.
            let marks_of : Map → List ℕ = λ m. m.marks in
            ap marks_of (in_buffer_lem here) ∙ marks (sym (ap marks_of (in_buffer_lem at)) ∙ k ∙ ap marks_of (in_buffer_lem too)) ∙
            sym (ap marks_of (in_buffer_lem there));
      }

  -- what stays as it was
  stays_alike : (a : PumpAnswer) → Alike (outcome a (lent_by d)) (outcome a (lent_by e))
  stays_alike = left_alike at too same (λ k. k) used

  -- a change that the machine answers alike, and that leaves the same lines,
  changes_alike : (c : Call) → number_of (by_machine d.holds c).answer ≡ number_of (by_machine e.holds c).answer →
      (by_machine d.holds c).next.lines ≡ (by_machine e.holds c).next.lines →
      SameMarks (by_machine d.holds c).next (by_machine e.holds c).next →
      Alike (shown (changes d c)) (shown (changes e c))
  changes_alike c number lines marks =
      let n = number_of (by_machine e.holds c).answer in
      let P = (by_machine d.holds c).next in
      let Q = (by_machine e.holds c).next in
      let p = (step_leads d.holds at.reached c).reached in
      let q = (step_leads e.holds too.reached c).reached in
      let long = files_alike p.holds q.holds lines in
      let short = ltb (length e.bytes) (length (file_of Q)) in
      let both : ltb (length d.bytes) (length (file_of P)) ≡ short = rw (room, long) in
      ⊎_elim (λ (t : leb 1 n ≡ true). rw (number, t) (stays_alike (says n [] [])))
      (λ (f : leb 1 n ≡ false).
      rw (number, f)
      (⊎_elim (λ (t : short ≡ true). rw (both ∙ t, t) (stays_alike (says 12 [] [])))
      (λ (u : short ≡ false).
      rw (both ∙ u, u)
      (left_alike (put_at P p d.bytes) (put_at Q q e.bytes) lines marks long (says 0 [] []))) (either short)))
      (either (leb 1 n))

  -- and so a split,
  split_alike : (c : Call) (r q : Changed) → Maps.outcome (Maps.number r.number) r.map ≡ recorded (by_machine d.holds c) →
      Maps.outcome (Maps.number q.number) q.map ≡ recorded (by_machine e.holds c) →
      SameButValues (record_of d.holds) (record_of e.holds) r q → Alike (shown (changes d c)) (shown (changes e c))
  split_alike c r q f g alike =
      let number : Outcome Map → ℕ = λ o. number_of o.answer in
      let lines : Outcome Map → Lines = λ o. o.next.lines in
      let marks : Outcome Map → List ℕ = λ o. o.next.marks in
      changes_alike c (sym (ap number f) ∙ alike.same_number ∙ ap number g)
      (held_lines (step_leads d.holds at.reached c).reached.holds ∙ ap layout_of (sym (ap lines f) ∙ alike.same_lines ∙ ap lines g) ∙
      sym (held_lines (step_leads e.holds too.reached c).reached.holds))
      (λ k. sym (ap marks f) ∙ alike.same_marks k ∙ ap marks g)

  -- on the buffers of both desks.
  border_alike : (s : Split) (a : ℕ) → Alike (by_border (lent_by d) (split s a)) (by_border (lent_by e) (split s a))
  border_alike s a =
      let P = d.holds in
      let Q = e.holds in
      let call = Maps.split s a in
      let alike =
      by_lines (record_of P) (record_of Q) (record_good at.reached.holds).0 (record_good too.reached.holds).0 (records_alike P Q same) s a in
      rw (step_shown at (split s a), step_shown too (split s a))
      (split_alike call _ _ (step_follows P at.reached call) (step_follows Q too.reached call) alike)

pub border_by_lines : (one other : Buffer) → (read_file (lent one.bytes one.used)).number ≡ 0 → (read_file (lent other.bytes other.used)).number ≡ 0 →
    (in_buffer one).lines ≡ (in_buffer other).lines → one.used ≡ other.used → length one.bytes ≡ length other.bytes → (s : Split) (a : ℕ) →
    SameInBuffer one other (by_border one (split s a)) (by_border other (split s a))
unfolding plain
border_by_lines one other e f same used room s a =
    subst (λ (b : Buffer). SameInBuffer b other (by_border b (split s a)) (by_border other (split s a))) (file_lent one e)
    (subst (λ (b : Buffer). SameInBuffer (lent_by (file_desk one e)) b (by_border (lent_by (file_desk one e)) (split s a))
    (by_border b (split s a)))
    (file_lent other f)
    (border_alike (file_at one e) (file_at other f) (ap layout_of same)
    (ap (λ (b : Buffer). b.used) (file_lent one e) ∙ used ∙ sym (ap (λ (b : Buffer). b.used) (file_lent other f))) room s a))
