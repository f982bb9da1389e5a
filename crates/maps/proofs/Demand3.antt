-- Demand 3 of the product holds of every list of calls.
use Prim.Native.Nat.{ℕ}
use native.Mathlib.Omega.{arith}
use mathlib.Core.Path.{◌≡◌, sym, ap, ap₂, subst, ◌∙◌}
use mathlib.Core.Bool.{true}
use mathlib.Core.List.Memᴰ
use mathlib.Core.List.{List, ◌++◌}
use lib.IntN.{ℤ}
use lib.ListN.{length}
use Rattle.axis.specs.Range.{greatest}
use Rattle.axis.proofs.Extremes.{at_most_greatest}
use Rattle.mesh.specs.declared.Split.{Split}
use Rattle.mesh.specs.Lines.{allowed_side, Layout, layout, mesh_of}
use Rattle.mesh.specs.Blends.{live}
use Rattle.mesh.specs.declared.Blend.{Blend}
use Rattle.mesh.specs.Sound.{sound}
use Rattle.mesh.specs.Order.{SameMembers, Coarser}
use Rattle.mesh.proofs.SoundMaps.{any_order_live, cutting_ends_live}
use Rattle.mesh.specs.Crossings.{anchors, crossings, Tight, Built}
use Rattle.axis.proofs.Tests.{and_of, same_test, cond_true}
use Rattle.mesh.proofs.Order.{same_steps}
use Rattle.mesh.proofs.CrossingList.{anchors_are_crossings, lines_are_grids, blends_tell_lines}
use Rattle.maps.specs.declared.Map.{Map}
use Rattle.maps.specs.Plain.{Plain, fresh_plain, blends}
use Rattle.mesh.specs.Splits.{exact_number}
use Rattle.mesh.specs.Ends.{nearest_good}
use Rattle.maps.specs.Values.{drawn}
use Rattle.maps.specs.Record.{record_of, Held, plain, good}
use Rattle.maps.specs.Calls.{fresh_map}
use Rattle.maps.specs.Histories.{Call, number, Outcome, by_library, by_machine, ending}
use Rattle.maps.specs.Straight.{ValuesStraight}
use Rattle.maps.specs.Demand.{left_by, Tabled, Gentle, IsSplit, is_split, lines_by, mesh_by, DemandFrom, Demand3, DemandOf}
use Rattle.maps.specs.Reads.{Reads, values_set}
use Rattle.maps.proofs.GoodRecords.{record_good, good_facts}
use Rattle.mesh.proofs.Accepted.{replays_stands}
use Rattle.mesh.proofs.Allowance.{nearest_accepted}
use Rattle.maps.proofs.Reached.{Reached, good_reached, fresh_reached, start_reached, ending_leads}
use Rattle.maps.proofs.Following.{step_follows, outcomes_follow, ending_follows}
use Rattle.maps.proofs.Tabled.{tabled_once, holds_tabled}
use Rattle.maps.proofs.Squares.{valued_four, valued_sum}
use Rattle.maps.proofs.Gentle.{split_gentle}
use Rattle.maps.proofs.ByEnds.{built, accepted_given, split_draws, ends_tell}
use Rattle.maps.proofs.Allowance.{reached_allowance}
use Rattle.maps.proofs.ReadsTold.{Within, readings_within, reached_reads, set_then_reads, list_within}
use Rattle.maps.proofs.Straight.{reads_straight, carried_straight}

-- The blends after a list of calls are those of its lines.
ending_blends : (cs : List Call) (P : Plain) → Reached P → blends (ending by_machine P cs) ≡ live P.lines.w P.lines.h (mesh_by P cs)
ending_blends cs P at = let l = ending_leads cs P at in rw (l.wide, l.tall, l.more)

-- An accepted split draws a line that is accepted as an exact split,
module _ (P : Plain) (at : Reached P) where
  abbrev Accepts : Outcome Plain → Type 0
  Accepts o = (s : Split) × (exact_number P.lines s ≡ 0) × (o.next ≡ drawn P s)

  split_accepts : (c : Call) → IsSplit c → (by_machine P c).answer ≡ number 0 → Accepts (by_machine P c)
  split_accepts c (is_split s a) e =
      let passes = accepted_given P at s a e in
      (nearest_good P.lines s, nearest_accepted P.lines at.holds.taken s passes, ap (λ (o : Outcome Plain). o.next) (split_draws P at s passes a e))

  -- and so does to the map what such a split does.
  accepted_does : (Does : Map → Map → Type 0) → ((s : Split) → exact_number P.lines s ≡ 0 → Does (record_of P) (record_of (drawn P s))) →
      (c : Call) → IsSplit c → (by_machine P c).answer ≡ number 0 → Does (record_of P) (record_of (by_machine P c).next)
  accepted_does Does drawing c i e =
      let r = split_accepts c i e in
      subst (λ (N : Plain). Does (record_of P) (record_of N)) (sym r.2) (drawing r.0 r.1)

-- A list of calls, from a map that was reached:
module _ (P : Plain) (at : Reached P) (cs : List Call) where
  end : Reached (ending by_machine P cs)
  end = (ending_leads cs P at).reached

  end_tabled : Tabled (left_by P cs) (blends (ending by_machine P cs))
  end_tabled = rw (ending_follows cs P at) (holds_tabled (ending by_machine P cs) end.holds)

  end_lines : (plain (left_by P cs)).lines.splits ≡ P.lines.splits ++ lines_by P cs
  end_lines = rw (ending_follows cs P at, (record_good end.holds).1) (ending_leads cs P at).more

  any_split : (Does : Map → Map → Type 0) →
      ((Q : Plain) → Reached Q → (s : Split) → exact_number Q.lines s ≡ 0 → Does (record_of Q) (record_of (drawn Q s))) →
      (c : Call) → IsSplit c → let m = left_by P cs in (by_library m c).answer ≡ number 0 → Does m (by_library m c).next
  any_split Does drawing c i =
      rw (ending_follows cs P at, step_follows (ending by_machine P cs) end c)
      (accepted_does (ending by_machine P cs) end Does (drawing (ending by_machine P cs) end) c i)

-- lists whose lines cover the same points end with the same blends
same_lines : (P Q : Plain) → Reached P → Reached Q → (cs ds : List Call) → Q.lines.w ≡ P.lines.w → Q.lines.h ≡ P.lines.h →
    Coarser (mesh_by P cs) (mesh_by Q ds) → Coarser (mesh_by Q ds) (mesh_by P cs) →
    blends (ending by_machine Q ds) ≡ blends (ending by_machine P cs)
same_lines P Q at from cs ds wide tall f g =
    ending_blends ds Q from ∙ ap₂ (λ (w h : ℕ). live w h (mesh_by Q ds)) wide tall ∙
    same_steps P.lines.w P.lines.h (mesh_by Q ds) (mesh_by P cs) (λ d z k. same_test _ _ (g d z k) (f d z k)) ∙ sym (ending_blends cs P at)

both_tabled : (P Q : Plain) → Reached P → Reached Q → Q.lines.w ≡ P.lines.w → Q.lines.h ≡ P.lines.h →
    (cs ds : List Call) →
    Coarser (mesh_by P cs) (mesh_by Q ds) → Coarser (mesh_by Q ds) (mesh_by P cs) → (bs : List Blend) → Tabled (left_by Q ds) bs → Tabled (left_by P cs) bs
both_tabled P Q at from wide tall cs ds f g bs tabled =
    rw (tabled_once tabled (end_tabled Q from ds) ∙ same_lines P Q at from cs ds wide tall f g) (end_tabled P at cs)

-- The lines after a list of calls, and what its blends tell of them:
module _ (P : Plain) (at : Reached P) (cs : List Call) where
  lines_after : (ending by_machine P cs).lines ≡ layout P.lines.w P.lines.h (P.lines.splits ++ lines_by P cs)
  lines_after = let l = ending_leads cs P at in λ i. layout (l.wide i) (l.tall i) (l.more i)

  built_after : Built (ending by_machine P cs).lines
  built_after = built (ending by_machine P cs) (ending_leads cs P at).reached

  crossings_after : anchors (blends (ending by_machine P cs)) ≡ crossings P.lines.w P.lines.h (mesh_by P cs)
  crossings_after =
      anchors_are_crossings (ending by_machine P cs).lines built_after ∙ ap (λ (L : Layout). crossings L.w L.h (mesh_of L)) lines_after

  grids_after : Tight P.lines.w P.lines.h (mesh_by P cs) (blends (ending by_machine P cs))
  grids_after =
      subst (λ (L : Layout). Tight L.w L.h (mesh_of L) (blends (ending by_machine P cs))) lines_after
      (lines_are_grids (ending by_machine P cs).lines built_after)

-- lists that end with the same blends have lines that cover the same points
told_lines : (P Q : Plain) → Reached P → Reached Q → (cs ds : List Call) → Q.lines.w ≡ P.lines.w → Q.lines.h ≡ P.lines.h →
    blends (ending by_machine Q ds) ≡ blends (ending by_machine P cs) → Coarser (mesh_by P cs) (mesh_by Q ds)
told_lines P Q at from cs ds wide tall same =
    let l = ending_leads cs P at in
    let k = ending_leads ds Q from in
    let A = ending by_machine P cs in
    let B = ending by_machine Q ds in
    subst (λ (L : Layout). Coarser (mesh_of L) (mesh_by Q ds)) (lines_after P at cs)
    (subst (λ (L : Layout). Coarser (mesh_of A.lines) (mesh_of L)) (lines_after Q from ds)
    (blends_tell_lines A.lines B.lines (built_after P at cs) (built_after Q from ds) (replays_stands l.reached.holds.taken).ranges
    (replays_stands k.reached.holds.taken).ranges (k.wide ∙ wide ∙ sym l.wide) (k.tall ∙ tall ∙ sym l.tall) same))

both_lined : (P Q : Plain) → Reached P → Reached Q → Q.lines.w ≡ P.lines.w → Q.lines.h ≡ P.lines.h →
    (cs ds : List Call) →
    (bs : List Blend) → Tabled (left_by P cs) bs → Tabled (left_by Q ds) bs → Coarser (mesh_by P cs) (mesh_by Q ds) × Coarser (mesh_by Q ds) (mesh_by P cs)
both_lined P Q at from wide tall cs ds bs here there =
    let same = sym (tabled_once there (end_tabled Q from ds)) ∙ tabled_once here (end_tabled P at cs) in
    (told_lines P Q at from cs ds wide tall same, told_lines Q P from at ds cs (sym wide) (sym tall) (sym same))

-- no value after a list is above the greatest of those before it and of those that it set
end_within : (P : Plain) → Reached P → (cs : List Call) →
    Within (greatest (P.values ++ values_set (record_of P) cs)) (ending by_machine P cs)
end_within P at cs =
    let all = P.values ++ values_set (record_of P) cs in
    list_within cs (greatest all) P at (λ x m. at_most_greatest all x (Memᴰ.append_left _ m))
    (λ x m. at_most_greatest all x (Memᴰ.append_right P.values m))

-- The demand holds of it,
pub reached_demand : (P : Plain) → Reached P → (cs : List Call) → DemandFrom P cs
reached_demand P at cs =
    let Q = ending by_machine P cs in
    let w = P.lines.w in
    let h = P.lines.h in
    let leads = ending_leads cs P at in
    record {
      same_outcomes = outcomes_follow cs P at;
      same_left = ending_follows cs P at;
      blends = blends Q;
      are_tabled = end_tabled P at cs;
      cutting_ends = cutting_ends_live w h at.valued.wide.0 at.valued.tall.0 (mesh_by P cs);
      any_order = λ ds way.
          subst (SameMembers ds) (sym (ending_blends cs P at))
          (any_order_live w h at.valued.wide.0 at.valued.tall.0 (mesh_by P cs) ds way);
      is_sound = subst (λ (L : Layout). sound L.w L.h (blends Q) ≡ true) (lines_after P at cs)
          leads.reached.valued.is_sound;
      four_in = λ x y hx hy. valued_four Q leads.reached.valued x y (rw leads.wide hx) (rw leads.tall hy);
      add_up = λ p q d pos hp hq. valued_sum Q leads.reached.valued p q d pos (rw leads.wide hp) (rw leads.tall hq);
      gentle = λ earlier c later e. any_split P at earlier Gentle split_gentle c;
      are_lines = end_lines P at cs;
      same_blends = λ R start wide tall ds f g bs tabled.
          tabled_once (both_tabled P R at (start_reached R start) wide tall cs ds f g bs tabled) (end_tabled P at cs);
      are_crossings = crossings_after P at cs;
      are_grids = grids_after P at cs;
      same_lines = λ R start wide tall ds tabled. both_lined P R at (start_reached R start) wide tall cs ds (blends Q) (end_tabled P at cs) tabled;
      by_ends = rw (ending_follows cs P at) (ends_tell Q leads.reached);
      by_allowance = rw (ending_follows cs P at) (reached_allowance Q leads.reached);
      reads_told =
          rw (ending_follows cs P at)
          (subst (λ (L : Layout). Reads (record_of Q) L.w L.h (length (blends Q))) (lines_after P at cs)
          (reached_reads Q leads.reached));
      set_reads = rw (ending_follows cs P at) (set_then_reads Q leads.reached);
      none_above = rw (ending_follows cs P at) (readings_within Q leads.reached _ (end_within P at cs));
      straight = reads_straight Q leads.reached (left_by P cs) P.lines.w P.lines.h (ending_follows cs P at) leads.wide leads.tall;
      stays_straight = λ earlier c later e.
          any_split P at earlier (λ m n. (A B C D : ℤ) → ValuesStraight m A B C D → ValuesStraight n A B C D) carried_straight c;
    }

-- and so of every list on a fresh map, whose values are 0,
pub demand_three : (w h : ℕ) → allowed_side w ≡ true → allowed_side h ≡ true → (cs : List Call) → Demand3 w h cs
unfolding fresh_map fresh_plain
demand_three w h a b cs =
    let demand = reached_demand (fresh_plain w h) (fresh_reached w h a b) cs in
    record {
      made = cond_true _ _ _ (and_of _ _ a b);
      holds = demand;
      none_above =
          λ u v. omega (arith, demand.none_above u v);
    }

-- and on every good record.
pub demand_of : (m : Map) → Held m → good m ≡ true → (cs : List Call) → DemandOf m cs
demand_of m held g cs =
    record {
      is_record = (good_facts m held.full g).is_record;
      holds =
          reached_demand (plain m) (good_reached m held g) cs;
    }
