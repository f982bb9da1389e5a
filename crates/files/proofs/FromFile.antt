-- Demand 3 of lists of calls on a map that was read from a file.
use Prim.Native.Nat.{ℕ, ◌<◌}
use native.Mathlib.Omega.{arith}
use mathlib.Core.Path.{◌≡◌, refl, sym, ap, subst, ◌∙◌}
use mathlib.Core.List.{List, [], ◌∷◌, ◌++◌, map, map-append, append_assoc, Memᴰ}
use lib.ListN.{length, replicate, length-append, length-replicate}
use Rattle.mesh.specs.declared.Blend.{Blend}
use Rattle.maps.specs.declared.Map.{Map}
use Rattle.maps.specs.Plain.{Plain, fresh_plain, blends}
use Rattle.maps.specs.Values.{term, paired}
use Rattle.maps.specs.Record.{record_of, plain}
use Rattle.maps.specs.Histories.{Call, exactly, Outcome, by_library, outcomes, ending}
use Rattle.maps.specs.Demand.{given_record, left_by, DemandFrom}
use Rattle.maps.specs.ByMarks.{without_marks, but_marks, SameLists}
use Rattle.axis.proofs.Padding.{copies}
use Rattle.maps.specs.Holds.{Valued}
use Rattle.maps.proofs.Reached.{Reached, holds_reached, fresh_reached, Leads, ending_leads}
use Rattle.maps.proofs.Rebuilding.{AcceptedTo, accepted_join, accepted_ends, accepted_more, library_accepts, ending_join, outcomes_join, with_values, splits_drawn, value_set}
use Rattle.maps.proofs.Demand3.{reached_demand, demand_three}
use Rattle.maps.proofs.Following.{ending_follows}
use Rattle.maps.proofs.ByMarks.{same_lists}
use Rattle.files.specs.File.{guessed}
use Rattle.files.specs.Calls.{read_file}
use Rattle.files.specs.FromFile.{read_plain, setting, file_calls, measured, AllAccepted, FromFile, AnyCall, on_map, writes, payloads, AmongFiles}
use Rattle.files.proofs.RoundTrip.{accepted_file}
use Rattle.files.proofs.ReadMaps.{read_good, map_held, told_held, guessed_holds, guessed_small}
use Rattle.mesh.specs.Lines.{layout}

-- What an accepted file tells is what the map that is read holds, and a map that calls may have reached.
module _ (bytes : List ℕ) (e : (read_file bytes).number ≡ 0) where
  read_held : read_plain bytes ≡ guessed bytes
  read_held = ap plain (accepted_file bytes e).2 ∙ told_held bytes e

  pub read_reached : Reached (read_plain bytes)
  read_reached = rw read_held (holds_reached (guessed bytes) (guessed_holds bytes e) (guessed_small bytes e))

  read_record : record_of (read_plain bytes) ≡ (read_file bytes).map
  read_record = ap record_of read_held ∙ sym (accepted_file bytes e).2

-- Demand 3 holds of every list on a map that was read.
pub read_demand : (bytes : List ℕ) → (read_file bytes).number ≡ 0 → (cs : List Call) → DemandFrom (read_plain bytes) cs
read_demand bytes e = reached_demand (read_plain bytes) (read_reached bytes e)

-- Setting the values of a table in order leaves those values, whatever stood there.
module _ (P : Plain) (valued : Valued P) where
  values_set_lem : (bs done : List Blend) (us ws vs ks ms : List ℕ) → blends P ≡ done ++ bs → length us ≡ length done → length ks ≡ length done →
      length ws ≡ length bs → length vs ≡ length bs → length ms ≡ length bs → ((v : ℕ) → Memᴰ v vs → v < 65536) →
      AcceptedTo (with_values P (us ++ ws) (ks ++ ms)) (map setting (paired bs vs)) (with_values P (us ++ vs) (ks ++ replicate (length bs) 1))
  values_set_lem [] done us [] [] ks [] is full f a b c small = refl
  values_set_lem [] done us [] [] ks (m ∷ ms) is full f a b c small = absurd (omega arith)
  values_set_lem [] done us [] (v ∷ vs) ks ms is full f a b c small = absurd (omega arith)
  values_set_lem [] done us (w ∷ ws) vs ks ms is full f a b c small = absurd (omega arith)
  values_set_lem (B ∷ bs) done us [] vs ks ms is full f a b c small = absurd (omega arith)
  values_set_lem (B ∷ bs) done us (w ∷ ws) [] ks ms is full f a b c small = absurd (omega arith)
  values_set_lem (B ∷ bs) done us (w ∷ ws) (v ∷ vs) ks [] is full f a b c small = absurd (omega arith)
  values_set_lem (B ∷ bs) done us (w ∷ ws) (v ∷ vs) ks (m ∷ ms) is full f a b c small =
      let rest =
      values_set_lem bs (done ++ B ∷ []) (us ++ v ∷ []) ws vs (ks ++ 1 ∷ []) ms (is ∙ sym (append_assoc done (B ∷ []) bs)) (simp length-append (omega arith))
      (simp length-append (omega arith)) (omega arith) (omega arith) (omega arith) (λ x m. small x (Memᴰ.tail m)) in
      accepted_more (setting (term B v)) (map setting (paired bs vs)) (with_values P (us ++ w ∷ ws) (ks ++ m ∷ ms))
      (with_values P (us ++ v ∷ ws) (ks ++ 1 ∷ ms)) _
      (value_set P valued done B bs is us w ws full v (small v (Memᴰ.head refl)) ks m ms f)
      (rw (append_assoc us (v ∷ []) ws, append_assoc us (v ∷ []) vs, append_assoc ks (1 ∷ []) ms, append_assoc ks (1 ∷ []) (replicate (length bs) 1)) at rest)

-- So a map's own calls, its splits and then its values, lead from the fresh map to it, with every value measured.
module _ (P : Plain) (at : Reached P) where
  abbrev fresh : Plain
  fresh = fresh_plain P.lines.w P.lines.h

  from_fresh : Reached fresh
  from_fresh = fresh_reached P.lines.w P.lines.h at.holds.taken.across at.holds.taken.up

  measured_reached : Reached (measured P)
  measured_reached =
      let v = at.valued in
      record {
        holds =
            record {
              taken = at.holds.taken;
              counted = at.holds.counted;
              counted_marks = length-replicate (length (blends P)) 1;
              are_marks = λ k m. omega (arith, copies 1 (length (blends P)) k m);
            };
        valued = record { wide = v.wide; tall = v.tall; is_sound = v.is_sound; counted = v.counted; small = v.small };
      }

  pub calls_lead : AcceptedTo fresh (file_calls P) (measured P)
  unfolding fresh_plain
  calls_lead =
      let drawn = splits_drawn P.lines.splits fresh from_fresh.holds.taken at.holds.taken.all_taken in
      let Q = drawn.0 in
      let ends = accepted_ends (map exactly P.lines.splits) fresh Q drawn.1 in
      let leads : Leads fresh P.lines.splits Q = rw (ends, drawn.2) at (ending_leads (map exactly P.lines.splits) fresh from_fresh) in
      let same : with_values P Q.values Q.marks ≡ Q =
      λ i. record { lines = layout (sym leads.wide i) (sym leads.tall i) (sym leads.more i); values = Q.values; marks = Q.marks } in
      let as_many : length (blends Q) ≡ length (blends P) = ap (λ (R : Plain). length (blends R)) (sym same) in
      let h = leads.reached.holds in
      let set =
      values_set_lem P at.valued (blends P) [] [] Q.values P.values [] Q.marks refl refl refl (h.counted ∙ as_many) at.valued.counted
      (h.counted_marks ∙ as_many) at.valued.small in
      accepted_join (map exactly P.lines.splits) (map setting (paired (blends P) P.values)) fresh Q (measured P) drawn.1
      (subst (λ (R : Plain). AcceptedTo R (map setting (paired (blends P) P.values)) (measured P)) same set)

  pub calls_left : left_by fresh (file_calls P) ≡ record_of (measured P)
  calls_left = ending_follows (file_calls P) fresh from_fresh ∙ ap record_of (accepted_ends (file_calls P) fresh (measured P) calls_lead)

  pub calls_accepted : AllAccepted (record_of fresh) (file_calls P)
  calls_accepted = library_accepts (file_calls P) fresh (measured P) from_fresh calls_lead

  -- which lists of calls do not tell from it, but for marks
  pub but_marks_lem : SameLists (record_of (measured P)) (record_of P)
  but_marks_lem = same_lists P (replicate (length (blends P)) 1) at measured_reached

-- "Reading a file makes a map of its own: demand 3 holds of lists that start from it too."
pub from_file : (bytes : List ℕ) → (read_file bytes).number ≡ 0 → FromFile bytes
from_file bytes e =
    let P = read_plain bytes in
    let at = read_reached bytes e in
    let start = record_of (fresh_plain P.lines.w P.lines.h) in
    let left = calls_left P at in
    let alike : SameLists (record_of (measured P)) (read_file bytes).map = rw (read_record bytes e) at (but_marks_lem P at) in
    record {
      is_record = sym (read_record bytes e);
      is_told = read_held bytes e;
      all_accepted = calls_accepted P at;
      left = left;
      outcomes_after = λ cs.
          ap (map but_marks) (outcomes_join by_library start (file_calls P) cs) ∙ map-append but_marks (outcomes by_library start (file_calls P)) _ ∙
          ap (λ (os : List (Outcome Map)). map but_marks (outcomes by_library start (file_calls P)) ++ os)
          (ap (λ (m : Map). map but_marks (outcomes by_library m cs)) left ∙ alike.same_outcomes cs);
      left_after = λ cs.
          ap without_marks (ending_join by_library start (file_calls P) cs ∙ ap (λ (m : Map). ending by_library m cs) left) ∙ alike.same_left cs;
      whole = λ cs. demand_three P.lines.w P.lines.h at.holds.taken.across at.holds.taken.up (file_calls P ++ cs);
      own = read_demand bytes e;
      is_start = given_record (read_file bytes).map (map_held bytes) (read_good bytes);
    }

-- Writes and payloads leave the map that they got, so they are left out of a list and it answers and ends as before.
pub among_files : (cs : List AnyCall) (m : Map) → AmongFiles m cs
among_files [] m = record { same_outcomes = refl; same_left = refl }
among_files (on_map c ∷ cs) m =
    let rest = among_files cs (by_library m c).next in
    record {
      same_outcomes = ap (λ (l : List (Outcome Map)). by_library m c ∷ l) rest.same_outcomes;
      same_left = rest.same_left;
    }
among_files (writes buffer ∷ cs) m =
    let rest = among_files cs m in record { same_outcomes = rest.same_outcomes; same_left = rest.same_left }
among_files (payloads bytes at ∷ cs) m =
    let rest = among_files cs m in record { same_outcomes = rest.same_outcomes; same_left = rest.same_left }
