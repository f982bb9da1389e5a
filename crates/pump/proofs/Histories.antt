-- A call on a buffer that begins with the file of what the plain machine holds reads that map, answers as the machine does, and leaves such a buffer.
use Prim.Native.Nat.{ℕ, ◌+◌, ◌-◌, ◌≤◌, ◌<◌}
use native.Mathlib.Omega.{arith}
use native.Mathlib.Nat.{mod-eq_of_lt}
use mathlib.Core.Path.{◌≡◌, refl, sym, ap, subst, ◌∙◌}
use mathlib.Core.Logic.{⊎_elim}
use mathlib.Core.Bool.{true, false, ◌&&◌}
use mathlib.Core.List.{List, [], ◌∷◌, ◌++◌}
use borrow.Author.Tests.{le-leb, leb-true, leb-false}
use lib.Dec.{leb, ltb}
use lib.ListN.{length, drop, length-append}
use lib.Seq.{take-append_seam, drop-append-add, drop-drop}
use Rattle.axis.proofs.Tests.{either, and_both, cond_true, cond_false}
use Rattle.mesh.specs.Lines.{allowed_side}
use Rattle.maps.specs.declared.Map.{Map}
use Rattle.maps.specs.Outcomes.{Changed}
use Rattle.maps.specs.Outcomes.{Pairs}
use Rattle.maps.specs.Plain.{Plain, fresh_plain}
use Rattle.maps.specs.Values.{in_domain}
use Rattle.maps.specs.Record.{record_of}
use Rattle.maps.specs.Calls.{changed, fresh_map, table_place, reading, weights, set_value, split_within}
use Rattle.maps.specs.Pairs.{row_on, row_pairs, column_on, column_pairs}
use Rattle.maps.specs.Sameness.{sameness}
use Rattle.maps.specs.Histories as Maps
use Rattle.maps.specs.Histories.{Call, Outcome, number_of, by_machine}
use Rattle.maps.specs.Demand.{recorded}
use Rattle.maps.proofs.GoodRecords.{record_good}
use Rattle.maps.proofs.Reached.{Reached, fresh_reached, step_leads}
use Rattle.maps.proofs.Following.{step_follows}
use Rattle.maps.proofs.PairsTold.{Nothing, row_nothing, column_nothing}
use Rattle.files.specs.File.{file_of}
use Rattle.files.specs.Calls.{if_refused, write_number, read_file}
use Rattle.files.specs.Listing.{text_number}
use Rattle.files.proofs.GoodFiles.{plain_reads_back}
use Rattle.files.proofs.ReadMaps.{read_good}
use Rattle.pump.specs.Border.{new_number, new_bytes, new_used, lent, place_number, place_after, weights_number, weights_after, reading_number, reading_litres, same_number, same_yes}
use Rattle.pump.specs.Histories.{PumpCall, fresh, set, split, place, reads, weighs, along_row, along_column, same_as, same_to, checks, payloads, lists, says, outcome, buffer, changing, by_border, Desk, desk, refuses, puts, changes, tells_pairs, by_rules, lent_by, shown}

-- What holds of the desk throughout: its map was reached, and the buffer begins with that map's file.
pub record At (d : Desk) : Type 0 where
  pub reached : Reached d.holds
  pub rest : List ℕ
  pub begins : d.bytes ≡ d.file ++ rest
  pub is_file : read_file d.file ≡ changed 0 (record_of d.holds)

-- so it is where a file was put in front
pub put_at : (Q : Plain) → Reached Q → (bytes : List ℕ) → At (desk Q (file_of Q) (file_of Q ++ drop (length (file_of Q)) bytes))
put_at Q reached bytes =
    record {
      reached = reached;
      rest = drop (length (file_of Q)) bytes;
      begins = refl;
      is_file = plain_reads_back Q reached.holds reached.valued.small;
    }

-- bytes behind other bytes in front of them
past_front : (front bytes : List ℕ) (k : ℕ) → length front ≤ k → drop k (front ++ drop (length front) bytes) ≡ drop k bytes
past_front front bytes k le =
    let more = k - length front in
    let e : length front + more ≡ k = omega arith in
    subst (λ (j : ℕ). drop j (front ++ drop (length front) bytes) ≡ drop j bytes) e
    (drop-append-add front (drop (length front) bytes) more ∙ drop-drop more (length front) bytes)

-- a new map on the desk, or its refusal, is what writing it into the buffer gives
module _ (d : Desk) where
  new_shown : (n : ℕ) (Q : Plain) → Reached Q → (r : Changed) → r ≡ changed n (record_of Q) →
      outcome (says (new_number 0 r d.bytes) [] []) (buffer (new_bytes 0 r d.bytes) (new_used 0 r d.bytes (length d.file))) ≡
      shown (if_refused n (refuses d n) (puts d Q))
  unfolding new_number new_bytes new_used write_number
  new_shown n Q at r is =
      let g = record_good at.holds in
      ⊎_elim (λ (t : leb 1 n ≡ true). rw (is, t, t))
      (λ (f : leb 1 n ≡ false).
      rw (is, g.0, g.1, f)
      (⊎_elim (λ (t : ltb (length d.bytes) (length (file_of Q)) ≡ true). rw t) (λ (u : ltb (length d.bytes) (length (file_of Q)) ≡ false). rw u)
      (either (ltb (length d.bytes) (length (file_of Q))))))
      (either (leb 1 n))

  -- bytes past a file that is put in front are as they were
  pub puts_untouched : (k : ℕ) (Q : Plain) → length (puts d Q).next.file ≤ k → drop k (puts d Q).next.bytes ≡ drop k d.bytes
  puts_untouched k Q le =
      ⊎_elim (λ (t : ltb (length d.bytes) (length (file_of Q)) ≡ true). rw t)
      (λ (u : ltb (length d.bytes) (length (file_of Q)) ≡ false). rw u (past_front (file_of Q) d.bytes k (rw u at le)))
      (either (ltb (length d.bytes) (length (file_of Q))))

-- a value that is a 16-bit number is the one that is set
pub set_follows : (P : Plain) → Reached P → (m n v : ℕ) → leb v 65535 ≡ true → let r = set_value (record_of P) m n v in
    Maps.outcome (Maps.number r.number) r.map ≡ recorded (by_machine P (Maps.set m n v))
set_follows P at m n v t =
    let narrow : v < 65536 = (let le = leb-true v 65535 t in omega arith) in
    subst (λ (w : ℕ). let r = set_value (record_of P) m n w in
    Maps.outcome (Maps.number r.number) r.map ≡ recorded (by_machine P (Maps.set m n v))) (mod-eq_of_lt narrow)
    (step_follows P at (Maps.set m n v))

module _ {d : Desk} (at : At d) where
  is_lent : lent d.bytes (length d.file) ≡ d.file
  is_lent =
      let short : length d.file ≤ length (d.file ++ at.rest) = simp length-append (omega arith) in
      rw (at.begins, le-leb _ _ short, take-append_seam)

  pub is_read : read_file (lent d.bytes (length d.file)) ≡ changed 0 (record_of d.holds)
  is_read = ap read_file is_lent ∙ at.is_file

  -- a change of the map,
  change_shown : (c : Call) (call : Map → Changed) →
      (let r = call (record_of d.holds) in Maps.outcome (Maps.number r.number) r.map ≡ recorded (by_machine d.holds c)) →
      changing call (lent_by d) ≡ shown (changes d c)
  change_shown c call e =
      let o = by_machine d.holds c in
      let n = ap (λ (x : Outcome Map). number_of x.answer) e in
      let m = ap (λ (x : Outcome Map). x.next) e in
      rw is_read
      (new_shown d (number_of o.answer) o.next (step_leads d.holds at.reached c).reached (call (record_of d.holds))
      (λ i. changed (n i) (m i)))

  -- a question to it,
  itself : (n : ℕ) → if_refused n n 0 ≡ n
  itself n =
      ⊎_elim (λ (t : leb 1 n ≡ true). rw t) (λ (f : leb 1 n ≡ false). let z : n ≡ 0 = (let le = leb-false 1 n f in omega arith) in rw z) (either (leb 1 n))

  pairs_shown : (p : Pairs) → Nothing p → let n = if_refused p.number p.number 0 in
      outcome (says n (if_refused n 0 p.count ∷ if_refused n 0 p.first ∷ []) []) (lent_by d) ≡ shown (tells_pairs d p)
  pairs_shown p none =
      rw (itself p.number)
      (⊎_elim (λ (t : leb 1 p.number ≡ true). rw (t, (none t).0, (none t).1)) (λ (f : leb 1 p.number ≡ false). rw f) (either (leb 1 p.number)))

  pub step_shown : (c : PumpCall) → by_border (lent_by d) c ≡ shown (by_rules d c)
  unfolding fresh_map place_number place_after table_place weights_number weights_after weights reading_number reading_litres reading row_pairs column_pairs same_number same_yes sameness text_number
  step_shown (fresh w h) =
      ⊎_elim
      (λ (t : allowed_side w && allowed_side h ≡ true).
      let b = and_both (allowed_side w) (allowed_side h) t in
      new_shown d 0 (fresh_plain w h) (fresh_reached w h b.0 b.1) (fresh_map w h) (cond_true _ _ _ t) ∙ ap shown (sym (cond_true _ _ _ t)))
      (λ (f : allowed_side w && allowed_side h ≡ false).
      new_shown d 1 (fresh_plain 1 1) (fresh_reached 1 1 refl refl) (fresh_map w h) (cond_false _ _ _ f) ∙ ap shown (sym (cond_false _ _ _ f)))
      (either (allowed_side w && allowed_side h))
  step_shown (set m n v) =
      ⊎_elim
      (λ (t : leb v 65535 ≡ true).
      rw t (change_shown (Maps.set m n v) (λ old. set_value old m n v) (set_follows d.holds at.reached m n v t)))
      (λ (f : leb v 65535 ≡ false).
      rw (f, is_read) (new_shown d 3 d.holds at.reached (changed 3 (record_of d.holds)) refl))
      (either (leb v 65535))
  step_shown (split s a) = change_shown (Maps.split s a) (λ old. split_within old s a) (step_follows d.holds at.reached (Maps.split s a))
  step_shown (place i out) = let g = record_good at.reached.holds in rw (is_read, g.0, g.1)
  step_shown (reads u v) =
      let g = record_good at.reached.holds in
      rw (is_read, g.0, g.1)
      (⊎_elim (λ (t : in_domain d.holds u v ≡ true). rw t) (λ (f : in_domain d.holds u v ≡ false). rw f) (either (in_domain d.holds u v)))
  step_shown (weighs u v out) = let g = record_good at.reached.holds in rw (is_read, g.0, g.1)
  step_shown (along_row v wanted) =
      let g = record_good at.reached.holds in rw (is_read, g.0, g.1) (pairs_shown (row_on d.holds v wanted) (row_nothing d.holds v wanted))
  step_shown (along_column u wanted) =
      let g = record_good at.reached.holds in
      rw (is_read, g.0, g.1) (pairs_shown (column_on d.holds u wanted) (column_nothing d.holds u wanted))
  step_shown (same_as other) = let g = record_good at.reached.holds in rw (is_read, g.0, g.1, read_good other, itself)
  step_shown (same_to other) = let g = record_good at.reached.holds in rw (is_read, g.0, g.1, read_good other, itself)
  step_shown checks = ap (λ (c : Changed). outcome (says c.number [] []) (lent_by d)) is_read
  step_shown (payloads i) = rw is_lent
  step_shown (lists out) = let g = record_good at.reached.holds in rw (is_read, g.1)

  -- and bytes past the file that it leaves are as they were.
  pub changes_untouched : (k : ℕ) (c : Call) → length (changes d c).next.file ≤ k → drop k (changes d c).next.bytes ≡ drop k d.bytes
  changes_untouched k c le =
      let n = number_of (by_machine d.holds c).answer in
      ⊎_elim (λ (t : leb 1 n ≡ true). rw t) (λ (f : leb 1 n ≡ false). rw f (puts_untouched d k (by_machine d.holds c).next (rw f at le)))
      (either (leb 1 n))
