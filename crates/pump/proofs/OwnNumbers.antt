-- Which numbers a call at the border gives, on any buffer, and that none is 12 where there is room.
use Prim.Native.Nat.{ℕ, ◌≤◌}
use native.Mathlib.Omega.{arith}
use mathlib.Core.Path.{◌≡◌, refl, sym, ap, subst}
use mathlib.Core.Logic.{⊎_elim}
use mathlib.Core.Bool.{Bool, true, false, ◌&&◌, not}
use mathlib.Core.List.{List, ◌∷◌}
use borrow.Author.Tests.{ltb-true, eqb-true}
use lib.Dec.{leb, ltb, eqb}
use lib.ListN.{length}
use Rattle.axis.specs.Range.{all, any, OneOf}
use Rattle.axis.proofs.Tests.{either, by_test, true_not_false, and_both, all_at, any_at}
use Rattle.mesh.specs.Lines.{allowed_side}
use Rattle.maps.specs.declared.Map.{Map}
use Rattle.maps.specs.Outcomes.{Changed}
use Rattle.maps.specs.Plain.{Plain, fresh_plain}
use Rattle.maps.specs.Record.{record_of}
use Rattle.maps.specs.Calls.{changed, fresh_map, set_value, split_within, table_place, reading, weights}
use Rattle.maps.specs.Pairs.{row_pairs, column_pairs}
use Rattle.maps.specs.Sameness.{sameness}
use Rattle.maps.specs.Histories as Maps
use Rattle.maps.specs.Histories.{Call, Outcome, number_of, by_library, by_machine}
use Rattle.maps.specs.Demand.{recorded}
use Rattle.maps.specs.Holds.{Holds}
use Rattle.maps.specs.Numbers.{refusals_of}
use Rattle.maps.proofs.GoodRecords.{record_good, fresh_holds}
use Rattle.maps.proofs.Numbers as Own
use Rattle.maps.proofs.Reached.{Reached, holds_reached, step_leads}
use Rattle.maps.proofs.Following.{step_follows}
use Rattle.files.specs.File.{largest_file, file_of}
use Rattle.files.specs.Calls.{short_of, write_number, read_file, whole}
use Rattle.files.specs.Listing.{text_of, text_number}
use Rattle.files.proofs.GoodFiles.{file_most}
use Rattle.files.proofs.ReadMaps.{read_holds, read_good}
use Rattle.files.proofs.TableText.{text_most}
use Rattle.files.proofs.Numbers.{first_refusal, reading_gives}
use Rattle.pump.specs.Border.{first_of, new_number, lent, change_number, place_number, weights_number, reading_number, same_number}
use Rattle.pump.specs.Histories.{PumpCall, fresh, set, split, place, reads, weighs, along_row, along_column, same_as, same_to, checks, payloads, lists, Buffer, by_border}
use Rattle.pump.specs.OwnNumbers.{numbers_at, HasRoom}
use Rattle.pump.proofs.Histories.{set_follows}

-- A number that a call may give: one of its own, and 12 only where it lacks room.
module _ (own : List ℕ) (Room : Type 0) where
  abbrev Fair : ℕ → Type 0
  Fair n = OneOf own n × (Room → n ≡ 12 → ⊥)

  abbrev is_fair : ℕ → Bool
  is_fair n = any (eqb n) own && not (eqb n 12)

  fair : (n : ℕ) → is_fair n ≡ true → Fair n
  fair n is =
      let b = and_both (any (eqb n) own) (not (eqb n 12)) is in
      (b.0, λ room e. true_not_false (not (eqb n 12)) b.1 (ap (λ (k : ℕ). not (eqb k 12)) e))

  fair_among : (ns : List ℕ) → all is_fair ns ≡ true → (n : ℕ) → OneOf ns n → Fair n
  fair_among ns are n is =
      let k = any_at (eqb n) ns is in
      subst Fair (sym (eqb-true n k.0 k.2)) (fair k.0 (all_at is_fair ns are k.0 k.1))

  first_fair : (a b c : ℕ) → Fair a → Fair b → Fair c → Fair (first_of a b c)
  first_fair a b c p q r = first_refusal Fair a _ p (first_refusal Fair b c q r)

  short_fair : (size : ℕ) (out : List ℕ) → Fair 0 → OneOf own 12 → (Room → size ≤ length out) → Fair (short_of size out)
  short_fair size out zero short enough =
      ⊎_elim
      (λ (t : ltb (length out) size ≡ true).
      rw t (short, λ room e. omega (arith, ltb-true (length out) size t, enough room)))
      (λ (f : ltb (length out) size ≡ false). rw f zero) (either (ltb (length out) size))

  -- a new map, good and no longer in its file than the largest
  new_fair : (refused : ℕ) (next : Changed) (Q : Plain) → Holds Q → next.map ≡ record_of Q → (buffer : List ℕ) →
      Fair 0 → OneOf own 12 → (Room → largest_file ≤ length buffer) → Fair refused → Fair next.number →
      Fair (new_number refused next buffer)
  unfolding new_number write_number
  new_fair refused next Q holds is buffer zero short enough p q =
      let g = record_good holds in
      first_fair refused next.number _ p q
      (rw (is, g.0, g.1)
      (short_fair (length (file_of Q)) buffer zero short (λ room. omega (arith, file_most Q holds, enough room))))

-- the map that is read from any bytes is one that calls may have reached
read_reached : (bytes : List ℕ) → Reached (read_holds bytes).of
read_reached bytes = let h = read_holds bytes in holds_reached h.of h.holds h.small

-- Each call on a buffer:
module _ (b : Buffer) (c : PumpCall) where
  abbrev Ok : ℕ → Type 0
  Ok = Fair (numbers_at c) (HasRoom b c)

  ok : (n : ℕ) → any (eqb n) (numbers_at c) && not (eqb n 12) ≡ true → Ok n
  ok = fair (numbers_at c) (HasRoom b c)

  abbrev file : List ℕ
  file = lent b.bytes b.used

  abbrev was : Plain
  was = (read_holds file).of

  -- a call on the map that is read, which is good: it gives one of its own numbers, and so does the
  -- plain machine
  own : (k : Call) → all (is_fair (numbers_at c) (HasRoom b c)) (0 ∷ refusals_of k) ≡ true →
      Ok (number_of (by_library (read_file file).map k).answer)
  own k are =
      fair_among (numbers_at c) (HasRoom b c) (0 ∷ refusals_of k) are
      (number_of (by_library (read_file file).map k).answer)
      ((Own.own_numbers).on_good (read_file file).map k (read_good file))

  own_machine : (k : Call) → all (is_fair (numbers_at c) (HasRoom b c)) (0 ∷ refusals_of k) ≡ true →
      Ok (number_of (by_machine was k).answer)
  own_machine k are =
      subst Ok (ap (λ (o : Outcome Map). number_of o.answer) (step_follows was (read_reached file) k))
      (subst (λ (m : Map). Ok (number_of (by_library m k).answer)) (read_holds file).is (own k are))

  -- a change of the map in it, or of the 1 by 1 map where there is none,
  module _ (zero : Ok 0) (none : Ok 11) (short : OneOf (numbers_at c) 12)
      (enough : HasRoom b c → largest_file ≤ length b.bytes) where
    read_fair : (call : Map → Changed) (Q : Plain) → Holds Q → (call (record_of was)).map ≡ record_of Q →
        Ok (call (record_of was)).number → Ok (change_number call b.bytes b.used)
    read_fair call Q holds is number =
        rw (read_holds file).is
        (new_fair (numbers_at c) (HasRoom b c) (read_file file).number (call (record_of was)) Q holds is b.bytes zero
        short enough (reading_gives Ok file zero none) number)

    change_fair : (k : Call) (call : Map → Changed) →
        all (is_fair (numbers_at c) (HasRoom b c)) (0 ∷ refusals_of k) ≡ true →
        (let r = call (record_of was) in Maps.outcome (Maps.number r.number) r.map ≡ recorded (by_machine was k)) →
        Ok (change_number call b.bytes b.used)
    change_fair k call are e =
        read_fair call (by_machine was k).next (step_leads was (read_reached file) k).reached.holds
        (ap (λ (o : Outcome Map). o.next) e)
        (subst Ok (sym (ap (λ (o : Outcome Map). number_of o.answer) e)) (own_machine k are))

  -- and a question to it: by the bytes, by the map, and by the bytes lent for the answer
  asks_fair : Ok 0 → Ok 11 → (number last : ℕ) → Ok number → Ok last → Ok (first_of (read_file file).number number last)
  asks_fair zero none number last =
      first_fair (numbers_at c) (HasRoom b c) (read_file file).number number last (reading_gives Ok file zero none)

call_fair : (b : Buffer) (c : PumpCall) → Ok b c (by_border b c).answer.number
unfolding fresh_map place_number table_place weights_number weights reading_number reading row_pairs column_pairs same_number sameness text_number
call_fair b (fresh w h) =
    let c = fresh w h in
    let new : (n : ℕ) → Ok b c n → (i j : ℕ) → allowed_side i ≡ true → allowed_side j ≡ true →
    Ok b c (new_number 0 (changed n (record_of (fresh_plain i j))) b.bytes) =
    λ n own i j p q. new_fair (numbers_at c) (HasRoom b c) 0 (changed n (record_of (fresh_plain i j))) (fresh_plain i j)
    (fresh_holds i j p q) refl b.bytes (ok b c 0 refl) refl (λ room. room) (ok b c 0 refl) own in
    ⊎_elim
    (λ (t : allowed_side w && allowed_side h ≡ true).
    let s = and_both (allowed_side w) (allowed_side h) t in rw t (new 0 (ok b c 0 refl) w h s.0 s.1))
    (λ (f : allowed_side w && allowed_side h ≡ false). rw f (new 1 (ok b c 1 refl) 1 1 refl refl))
    (either (allowed_side w && allowed_side h))
call_fair b (set m n v) =
    let c = set m n v in
    let ok = ok b c in
    ⊎_elim
    (λ (t : leb v 65535 ≡ true).
    rw t
    (change_fair b c (ok 0 refl) (ok 11 refl) refl (λ room. room) (Maps.set m n v) (λ old. set_value old m n v) refl
    (set_follows (was b c) (read_reached (file b c)) m n v t)))
    (λ (f : leb v 65535 ≡ false).
    rw f
    (read_fair b c (ok 0 refl) (ok 11 refl) refl (λ room. room) (λ old. changed 3 old) (was b c)
    (read_holds (file b c)).holds refl
    (ok 3 refl)))
    (either (leb v 65535))
call_fair b (split s a) =
    let c = split s a in
    let ok = ok b c in
    change_fair b c (ok 0 refl) (ok 11 refl) refl (λ room. room) (Maps.split s a) (λ old. split_within old s a) refl
    (step_follows (was b c) (read_reached (file b c)) (Maps.split s a))
call_fair b (place i out) =
    let c = place i out in
    let ok = ok b c in
    asks_fair b c (ok 0 refl) (ok 11 refl) _ _ (own b c (Maps.place i) refl)
    (short_fair (numbers_at c) (HasRoom b c) 16 out (ok 0 refl) refl (λ room. room))
call_fair b (reads u v) =
    let c = reads u v in
    let ok = ok b c in asks_fair b c (ok 0 refl) (ok 11 refl) _ _ (own b c (Maps.reads u v) refl) (ok 0 refl)
call_fair b (weighs u v out) =
    let c = weighs u v out in
    let ok = ok b c in
    asks_fair b c (ok 0 refl) (ok 11 refl) _ _ (own b c (Maps.weighs u v) refl)
    (short_fair (numbers_at c) (HasRoom b c) 64 out (ok 0 refl) refl (λ room. room))
call_fair b (along_row v wanted) =
    let c = along_row v wanted in
    let ok = ok b c in asks_fair b c (ok 0 refl) (ok 11 refl) _ _ (own b c (Maps.along_row v wanted) refl) (ok 0 refl)
call_fair b (along_column u wanted) =
    let c = along_column u wanted in
    let ok = ok b c in asks_fair b c (ok 0 refl) (ok 11 refl) _ _ (own b c (Maps.along_column u wanted) refl) (ok 0 refl)
call_fair b (same_as other) =
    let c = same_as other in
    let ok = ok b c in
    rw (read_good (file b c), read_good other)
    (asks_fair b c (ok 0 refl) (ok 11 refl) _ _ (reading_gives (Ok b c) other (ok 0 refl) (ok 11 refl)) (ok 0 refl))
call_fair b (same_to other) =
    let c = same_to other in
    let ok = ok b c in
    let reads : (bytes : List ℕ) → Ok b c (read_file bytes).number = λ bytes. reading_gives (Ok b c) bytes (ok 0 refl)
    (ok 11 refl) in
    rw (read_good (file b c), read_good other)
    (first_fair (numbers_at c) (HasRoom b c) (read_file other).number _ _ (reads other) (reads (file b c)) (ok 0 refl))
call_fair b checks = let ok = ok b checks in reading_gives (Ok b checks) (file b checks) (ok 0 refl) (ok 11 refl)
call_fair b (payloads at) =
    let c = payloads at in by_test (Ok b c) (λ n. n) (whole (file b c) at) (ok b c 0 refl) (ok b c 11 refl)
call_fair b (lists out) =
    let c = lists out in
    let ok = ok b c in
    first_refusal (Ok b c) (read_file (file b c)).number _ (reading_gives (Ok b c) (file b c) (ok 0 refl) (ok 11 refl))
    (short_fair (numbers_at c) (HasRoom b c) (length (text_of (file b c))) out (ok 0 refl) refl
    (λ room. omega (arith, text_most (file b c), room)))

-- "A call gives only the numbers whose matter it has", on any buffer, also one that holds no file.
pub own_numbers : (b : Buffer) (c : PumpCall) → OneOf (numbers_at c) (by_border b c).answer.number
own_numbers b c = (call_fair b c).0

-- With the bytes that are always enough, no call is refused with 12.
pub enough_room : (b : Buffer) (c : PumpCall) → HasRoom b c → (by_border b c).answer.number ≡ 12 → ⊥
enough_room b c = (call_fair b c).1
