-- Demand 3 of lists of `pump_` calls on one buffer.
use Prim.Native.Nat.{ℕ, ◌≤◌}
use native.Mathlib.Omega.{arith}
use mathlib.Core.Path.{◌≡◌, refl, sym, ap, ◌∙◌}
use mathlib.Core.Logic.{⊎_elim}
use mathlib.Core.Bool.{true, false, ◌&&◌}
use mathlib.Core.List.{List, [], ◌∷◌, ◌++◌}
use mathlib.Core.List.Memᴰ
use borrow.Author.Tests.{leb-true}
use lib.Dec.{leb, ltb}
use lib.ListN.{length, take, drop, take-append-drop}
use lib.Seq.{take-append_seam, length-take-le}
use Rattle.axis.proofs.Tests.{either, and_both, cond_true, cond_false}
use Rattle.mesh.specs.Lines.{allowed_side}
use Rattle.maps.specs.Plain.{Plain, fresh_plain}
use Rattle.maps.specs.Outcomes.{Changed}
use Rattle.maps.specs.Calls.{changed, fresh_map}
use Rattle.maps.specs.Histories as Maps
use Rattle.maps.specs.Histories.{Call, number_of, by_machine, ending}
use Rattle.maps.proofs.GoodRecords.{record_good}
use Rattle.maps.proofs.Reached.{Reached, fresh_reached, step_leads}
use Rattle.maps.proofs.Rebuilding.{ending_join}
use Rattle.maps.proofs.Demand3.{reached_demand}
use Rattle.files.specs.File.{file_of}
use Rattle.files.specs.Calls.{if_refused, write_number, read_file}
use Rattle.files.specs.FromFile.{read_plain}
use Rattle.files.proofs.RoundTrip.{is_refused}
use Rattle.files.proofs.Reading.{file_lengths}
use Rattle.files.proofs.FromFile.{read_reached, from_file}
use Rattle.pump.specs.Border.{new_number, new_bytes, new_used, fresh_number, lent}
use Rattle.pump.specs.Histories.{PumpCall, fresh, set, split, place, reads, weighs, along_row, along_column, same_as, same_to, checks, payloads, lists, PumpOutcome, Buffer, buffer, Desk, desk, puts, changes, by_rules, lent_by, shown}
use Rattle.pump.specs.Demand.{Past, past, Begins, with_fresh, with_file, with_change, past_after, BorderFrom, begun, BorderDemand, BorderFile}
use Rattle.pump.proofs.Histories.{At, put_at, puts_untouched, changes_untouched, step_shown}

-- The desk holds what the history of its map leaves.
pub record Lead (t : Past) (d : Desk) : Type 0 where
  pub at : At d
  pub start : Begins t.first
  pub first_reached : Reached t.first
  pub is : d.holds ≡ ending by_machine t.first t.calls

module _ {t : Past} {d : Desk} (l : Lead t d) where
  puts_lead : (Q : Plain) → Reached Q → (new : Past) → Begins new.first → Reached new.first → Q ≡ ending by_machine new.first new.calls →
      let o = puts d Q in Lead (if_refused o.answer.number t new) o.next
  puts_lead Q reached new a b is =
      ⊎_elim (λ (u : ltb (length d.bytes) (length (file_of Q)) ≡ true). rw u l)
      (λ (u : ltb (length d.bytes) (length (file_of Q)) ≡ false).
      rw u
      (record {
        at = put_at Q reached d.bytes;
        start = a;
        first_reached = b;
        is = is;
      }))
      (either (ltb (length d.bytes) (length (file_of Q))))

  changes_lead : (c : Call) →
      let o = changes d c in Lead (if_refused o.answer.number t (with_change t c)) o.next
  changes_lead c =
      let n = number_of (by_machine d.holds c).answer in
      ⊎_elim (λ (y : leb 1 n ≡ true). rw (y, y) l)
      (λ (f : leb 1 n ≡ false).
      rw f
      (puts_lead (by_machine d.holds c).next (step_leads d.holds l.at.reached c).reached (with_change t c) l.start l.first_reached
      (ap (λ (P : Plain). (by_machine P c).next) l.is ∙ sym (ending_join by_machine t.first t.calls (c ∷ [])))))
      (either (leb 1 n))

  asks_lead : (n : ℕ) → Lead (if_refused n t t) d
  asks_lead n = ⊎_elim (λ (y : leb 1 n ≡ true). rw y l) (λ (f : leb 1 n ≡ false). rw f l) (either (leb 1 n))

  step_lead : (c : PumpCall) → let o = by_rules d c in Lead (if_refused o.answer.number t (past_after t c)) o.next
  unfolding fresh_map
  step_lead (fresh w h) =
      ⊎_elim
      (λ (y : allowed_side w && allowed_side h ≡ true).
      let b = and_both (allowed_side w) (allowed_side h) y in
      let reached = fresh_reached w h b.0 b.1 in
      rw y (puts_lead (fresh_plain w h) reached (past (fresh_plain w h) []) (with_fresh w h (cond_true _ _ _ y)) reached refl))
      (λ (f : allowed_side w && allowed_side h ≡ false). rw f l)
      (either (allowed_side w && allowed_side h))
  step_lead (set m n v) =
      ⊎_elim (λ (y : leb v 65535 ≡ true). rw y (changes_lead (Maps.set m n v)))
      (λ (f : leb v 65535 ≡ false). rw f l) (either (leb v 65535))
  step_lead (split s a) = changes_lead (Maps.split s a)
  step_lead (place i out) = asks_lead (by_rules d (place i out)).answer.number
  step_lead (reads u v) = asks_lead (by_rules d (reads u v)).answer.number
  step_lead (weighs u v out) = asks_lead (by_rules d (weighs u v out)).answer.number
  step_lead (along_row v wanted) = asks_lead (by_rules d (along_row v wanted)).answer.number
  step_lead (along_column u wanted) = asks_lead (by_rules d (along_column u wanted)).answer.number
  step_lead (same_as other) = asks_lead (by_rules d (same_as other)).answer.number
  step_lead (same_to other) = asks_lead (by_rules d (same_to other)).answer.number
  step_lead checks = l
  step_lead (payloads i) = asks_lead (by_rules d (payloads i)).answer.number
  step_lead (lists out) = asks_lead (by_rules d (lists out)).answer.number

  step_untouched : (k : ℕ) (c : PumpCall) → length (by_rules d c).next.file ≤ k → drop k (by_rules d c).next.bytes ≡ drop k d.bytes
  step_untouched k (fresh w h) le =
      ⊎_elim (λ (y : allowed_side w && allowed_side h ≡ true). rw y (puts_untouched d k (fresh_plain w h) (rw y at le)))
      (λ (f : allowed_side w && allowed_side h ≡ false). rw f) (either (allowed_side w && allowed_side h))
  step_untouched k (set m n v) le =
      ⊎_elim (λ (y : leb v 65535 ≡ true). rw y (changes_untouched l.at k (Maps.set m n v) (rw y at le)))
      (λ (f : leb v 65535 ≡ false). rw f) (either (leb v 65535))
  step_untouched k (split s a) le = changes_untouched l.at k (Maps.split s a) le
  step_untouched k (place i out) le = refl
  step_untouched k (reads u v) le = refl
  step_untouched k (weighs u v out) le = refl
  step_untouched k (along_row v wanted) le = refl
  step_untouched k (along_column u wanted) le = refl
  step_untouched k (same_as other) le = refl
  step_untouched k (same_to other) le = refl
  step_untouched k checks le = refl
  step_untouched k (payloads i) le = refl
  step_untouched k (lists out) le = refl

-- So do whole lists.
pub border_from : (cs : List PumpCall) (t : Past) (d : Desk) → Lead t d → BorderFrom t d cs
border_from [] t d l =
    record {
      same_outcomes = refl;
      same_left = refl;
      begins = rw (l.at.begins, take-append_seam);
      is_file = l.at.is_file;
      untouched = λ k all. refl;
      start = l.start;
      history = l.is;
      demand = reached_demand t.first l.first_reached t.calls;
    }
border_from (c ∷ cs) t d l =
    let o = by_rules d c in
    let rest = border_from cs (if_refused o.answer.number t (past_after t c)) o.next (step_lead l c) in
    record {
      same_outcomes = rw (step_shown l.at c) (ap (λ (os : List (PumpOutcome Buffer)). shown o ∷ os) rest.same_outcomes);
      same_left = rw (step_shown l.at c) rest.same_left;
      begins = rest.begins;
      is_file = rest.is_file;
      untouched = λ k all. rest.untouched k (λ p m. all p (Memᴰ.tail m)) ∙ step_untouched l k c (all o (Memᴰ.head refl));
      start = rest.start;
      history = rest.history;
      demand = rest.demand;
    }

-- Demand 3 at the border: from an accepted `pump_fresh`.
pub border_demand : (w h : ℕ) (start : Buffer) → fresh_number w h start.bytes ≡ 0 → (cs : List PumpCall) → BorderDemand w h start cs
unfolding fresh_map new_number new_bytes new_used write_number
border_demand w h start e cs =
    ⊎_elim (λ (y : allowed_side w && allowed_side h ≡ true). accepted y) (λ (f : allowed_side w && allowed_side h ≡ false). absurd (omega (arith, rw f at e)))
    (either (allowed_side w && allowed_side h))
  where
    accepted : allowed_side w && allowed_side h ≡ true → BorderDemand w h start cs
    accepted y =
        let b = and_both (allowed_side w) (allowed_side h) y in
        let reached = fresh_reached w h b.0 b.1 in
        let g = record_good reached.holds in
        let file = file_of (fresh_plain w h) in
        let room : ltb (length start.bytes) (length file) ≡ false =
        ⊎_elim (λ (u : ltb (length start.bytes) (length file) ≡ true). absurd (omega (arith, rw (y, g.0, g.1, u) at e))) (λ u. u)
        (either (ltb (length start.bytes) (length file))) in
        record {
          made = rw (y, g.0, g.1, room);
          holds =
              border_from cs (past (fresh_plain w h) []) (begun w h start)
              (record {
                at = put_at (fresh_plain w h) reached start.bytes;
                start = with_fresh w h (cond_true _ _ _ y);
                first_reached = reached;
                is = refl;
              });
        }

-- and from a buffer that holds a map's file: what the machine then holds.
module _ (start : Buffer) (e : (read_file (lent start.bytes start.used)).number ≡ 0) where
  abbrev file : List ℕ
  file = lent start.bytes start.used

  abbrev pub file_desk : Desk
  file_desk = desk (read_plain file) file start.bytes

  read_at : Reached (read_plain file)
  read_at = read_reached file e

  -- no file is empty, so the bytes in use lie in the buffer
  in_buffer_lem : leb start.used (length start.bytes) ≡ true
  in_buffer_lem =
      ⊎_elim (λ t. t)
      (λ f. let z : ◌≡◌ {A = ℕ} 11 0 = sym (ap (λ (l : List ℕ). (read_file l).number) (cond_false _ _ _ f) ∙ no_bytes) ∙ e in absurd (omega arith))
      (either (leb start.used (length start.bytes)))
    where
      no_bytes : (read_file []).number ≡ 11
      no_bytes = ap (λ (c : Changed). c.number) (is_refused [] (λ g p. let l = file_lengths [] g p in let least = l.least in omega arith))

  front : take start.used start.bytes ≡ file
  front = sym (cond_true _ _ _ in_buffer_lem)

  pub file_lent : lent_by file_desk ≡ start
  file_lent =
      let used = ap length (sym front) ∙ length-take-le start.used start.bytes (leb-true _ _ in_buffer_lem) in λ i. buffer start.bytes (used i)

  pub file_at : At file_desk
  file_at =
      record {
        reached = read_at;
        rest = drop start.used start.bytes;
        begins = sym (take-append-drop start.used start.bytes) ∙ ap (λ (l : List ℕ). l ++ drop start.used start.bytes) front;
        is_file = λ i. changed (e i) ((from_file file e).is_record i);
      }

  pub border_file : (cs : List PumpCall) → BorderFile start cs
  border_file cs =
      let told = from_file file e in
      record {
        from_file = told;
        is_lent = file_lent;
        holds =
            border_from cs (past (read_plain file) []) file_desk
            (record { at = file_at; start = with_file file told; first_reached = read_at; is = refl });
      }
