-- A good record, opened: what it holds, and what the rest of a call leaves.
use Prim.Native.Nat.{ℕ, suc, ◌+◌, ◌-◌, ◌≤◌, ◌<◌}
use native.Mathlib.Omega.{arith}
use mathlib.Core.Path.{◌≡◌, refl, sym, ap, ◌∙◌}
use mathlib.Core.Logic.{⊎_elim}
use mathlib.Core.Bool.{Bool, true, false, cond, not}
use mathlib.Core.List.{List, [], ◌∷◌, ◌++◌, append_assoc}
use borrow.Author.Tests.{eqb-true, eqb-false, ltb-true, ltb-false, le-ltb, lt-ltb}
use lib.Dec.{ltb, eqb}
use lib.ListN.{length, get_or, set, take, replicate, length-append, length-map, length-set, length-take}
use lib.Seq.{get_or-take, get_or-set_same, get_or-set_other, set-append_seam, set-append_left}
use mir.Val.{Val}
use denote.Shadow.{shadow}
use denote.Struct.Declared.{row}
use Rattle.mesh.proofs.BlendTables.{lines_full, table_count, table_blends}
use Rattle.axis.specs.Range.{all}
use Rattle.axis.proofs.Members.{entry}
use Rattle.axis.proofs.Tests.{all_of, either, cond_true, cond_false}
use Rattle.std.specs.Prelude.{Ok, Err, Result, ⊤}
use Rattle.std.specs.Result.{IsErrAnd}
use Rattle.std.proofs.lemmas.Result.{err_from_is_err_and}
use Rattle.mesh.specs.declared.Split.{Split}
use Rattle.mesh.specs.declared.refusal.Refusal.{Refusal}
use Rattle.mesh.specs.Refusals.{number_of}
use Rattle.mesh.proofs.Refused.{refuses}
use Rattle.mesh.specs.declared.Table.{Table}
use Rattle.mesh.specs.Lines.{mesh_of}
use Rattle.mesh.specs.Sound.{none, proper, table, blends_of}
use Rattle.mesh.specs.Splits.{live_of, with_line, given, asked, exact_number}
use Rattle.mesh.specs.Lengthening.{chosen}
use Rattle.mesh.proofs.SoundMaps.{live_proper}
use Rattle.mesh.proofs.Cuts.{proper_facts}
use Rattle.mesh.proofs.AtMost.{at_most}
use Rattle.maps.specs.declared.Map.{Map}
use Rattle.maps.specs.Outcomes.{Changed}
use Rattle.maps.specs.declared.carry.Carried.{Carried}
use Rattle.mesh.specs.Replay.{HasTable, Outcome, refused_step, first_step, split_step}
use Rattle.maps.specs.declared.opened.Opened.{Opened}
use Rattle.maps.specs.Plain.{Plain, blends}
use Rattle.maps.specs.Values.{place_of, carried, kept_mark, drawn}
use Rattle.maps.specs.Record.{no_split, lines_of, record_of, Full, Held, plain, good}
use Rattle.maps.specs.Calls.{changed, drawn_first, set_plain, set_value, split_within}
use Rattle.maps.specs.Opened.{opened, IsTable}
use Rattle.maps.specs.Told.{changed_to, opened_from}
use Rattle.maps.specs.Inner.{with_split, in_array, InTable, Grown, carried_arrays}
use Rattle.maps.specs.Holds.{Holds}
use Rattle.maps.specs.contracts.Map.{the_type}
use Rattle.maps.proofs.Readings.{place_found}
use Rattle.maps.proofs.Opening.{good_table}
use Rattle.maps.proofs.GoodRecords.{record_good, GoodFacts, good_facts, set_holds, drawn_holds}
use Rattle.mesh.proofs.Passing.{asked_says, exact_says}
use Rattle.mesh.proofs.OneLineMore.{more_finer}
use Rattle.maps.proofs.SideBySide.{live_grown}
use Rattle.mesh.proofs.ChosenLine.{chosen_exact}

-- a list padded to a length: with one entry more, and with one of its entries set
module _ {A : Type 0} (xs : List A) (n : ℕ) (d x : A) where
  padded_more : length xs < n → set (xs ++ replicate (n - length xs) d) (length xs) x ≡ (xs ++ x ∷ []) ++ replicate (n - length (xs ++ x ∷ [])) d
  padded_more room =
      let more = length-append xs (x ∷ []) in
      let next : n - length xs ≡ suc (n - length (xs ++ x ∷ [])) = omega arith in
      rw (next, append_assoc) (set-append_seam xs d (replicate (n - length (xs ++ x ∷ [])) d) x)

  padded_set : (k : ℕ) → k < length xs → set (xs ++ replicate (n - length xs) d) k x ≡ set xs k x ++ replicate (n - length (set xs k x)) d
  padded_set k lt = rw length-set (set-append_left xs (replicate (n - length xs) d) k x lt)

-- the record after a line is drawn, and after a value is set
module _ (P : Plain) where
  record_drawn : (s : Split) → length P.lines.splits < 60 →
      let bs = blends (drawn P s) in
      record_of (drawn P s) ≡
      record {
        lines = with_split (record_of P).lines s;
        values = in_array (carried (blends P) P.values) bs;
        marks = in_array (kept_mark (blends P) P.marks) bs;
      }
  unfolding record_of lines_of drawn
  record_drawn s room =
      rw (
        padded_more P.lines.splits 60 no_split s room,
        length-append P.lines.splits (s ∷ []),
        length-map (live_of (with_line P.lines s)) (carried (blends P) P.values),
        length-map (live_of (with_line P.lines s)) (kept_mark (blends P) P.marks),
      )

  record_set : (i j v : ℕ) → let k = place_of (blends P) (i + 1) (j + 1) in k < length P.values → k < length P.marks →
      record_of (set_plain P i j v) ≡ record { lines = (record_of P).lines; values = set (record_of P).values k v; marks = set (record_of P).marks k 1 }
  unfolding record_of set_plain
  record_set i j v lt lt_marks = rw (padded_set P.values 1024 0 v _ lt, padded_set P.marks 1024 0 1 _ lt_marks)

-- a map that is passed by value has all the places of its arrays
pub full : (m : Map) (vs : List Val) → shadow ((row the_type).own_val m vs) → Full m
full m vs p =
    record {
      splits = lines_full m.lines p.1.1.0;
      values = p.1.1.1.0.1.0.1;
      marks = p.1.1.1.1.0.1.0.1;
    }

-- a good record, and the table of its live blends
pub record GoodMap (m : Map) (t : Table) : Type 0 where
  pub is_good : good m ≡ true
  pub facts : GoodFacts m
  pub has_table : HasTable m.lines t

pub opened_map : {m : Map} {t : Table} → IsTable m t → Full m → GoodMap m t
opened_map {m} {t} o whole =
    let f = good_facts m whole o.is_good in
    record { is_good = o.is_good; facts = f; has_table = rw (o.is_table ∙ good_table m o.is_good) f.has_table }

pub good_map : {m : Map} {t : Table} → IsTable m t → (vs : List Val) → shadow ((row the_type).own_val m vs) → GoodMap m t
good_map {m} o vs p = opened_map o (full m vs p)

-- so each opened one is
pub open_map : (o : Opened) → GoodMap o.map o.table
open_map o = opened_map o.opens o.held.full

-- A record that keeps to its arrays: the blank one, one with a value set, and one with other arrays.
set_small : (xs : List ℕ) (k v : ℕ) → k < length xs → v < 65536 → ((i : ℕ) → get_or xs i 0 < 65536) → (i : ℕ) → get_or (set xs k v) i 0 < 65536
set_small xs k v inside small all i =
    ⊎_elim (λ e. rw (eqb-true i k e, get_or-set_same xs k v 0 inside) small) (λ n. rw (get_or-set_other xs k i v 0 (eqb-false i k n)) (all i)) (either (eqb i k))

pub held_set : {m : Map} → Held m → (k v : ℕ) → k < 1024 → v < 65536 → Held (record { lines = m.lines; values = set m.values k v; marks = set m.marks k 1 })
held_set {m} h k v inside small =
    record {
      full = record { splits = h.full.splits; values = rw length-set h.full.values; marks = rw length-set h.full.marks };
      small = set_small m.values k v (rw h.full.values inside) small h.small;
    }

-- What opening a record says of it: it is good, and comes as it is; or it is not good, and is refused with 2.
module _ (m : Map) where
  pub opened_ok : (o : Opened) → opened_from m (Ok o) ≡ opened m → (good m ≡ true) × (o.map ≡ m)
  unfolding opened
  opened_ok o e =
      let n : 0 ≡ cond (good m) 0 2 = ap (λ (c : Changed). c.number) e in
      (⊎_elim (λ y. y) (λ f. absurd (omega (arith, rw f at n))) (either (good m)), ap (λ (c : Changed). c.map) e)

  pub opened_err : (r : Refusal) → opened_from m (Err r) ≡ opened m → (good m ≡ false) × (number_of r ≡ 2)
  unfolding opened
  opened_err r e =
      let n : number_of r ≡ cond (good m) 0 2 = ap (λ (c : Changed). c.number) e in
      ⊎_elim (λ y. absurd (refuses r (n ∙ rw y))) (λ f. (f, n ∙ rw f)) (either (good m))

  -- a question to one that is not good is refused with what the call gives for it
  pub refused_with : {A : Type 0} (x y : A) → good m ≡ false → x ≡ cond (not (good m)) x y
  refused_with x y f = sym (cond_true _ _ _ (ap not f))

module _ {m : Map} {t : Table} (g : GoodMap m t) where
  -- its table and values are those of what it holds
  pub live_table : t ≡ table (blends (plain m))
  unfolding plain
  live_table = g.has_table.is_table

  pub in_table : InTable m.lines.w m.lines.h t m.values
  unfolding plain
  in_table =
      let f = g.facts in
      record {
        of = plain m;
        across = refl;
        up = refl;
        sides = (f.across.0, f.across.1, f.up.0, f.up.1);
        is_sound = f.is_sound;
        is_table = live_table;
        is_short = f.is_short;
        are_values = refl;
      }

  pub live_blends : blends_of t ≡ blends (plain m)
  live_blends = rw live_table (table_blends (blends (plain m)))

  pub live_count : t.count ≡ length (blends (plain m))
  live_count = rw live_table (table_count (blends (plain m)))

  pub live_values : take t.count m.values ≡ (plain m).values
  unfolding plain
  live_values = ap (λ (n : ℕ). take n m.values) live_count

  pub live_marks : take t.count m.marks ≡ (plain m).marks
  unfolding plain
  live_marks = ap (λ (n : ℕ). take n m.marks) live_count

  -- a call may go on with the test that it passed
  pub passed : not (good m) ≡ false
  passed = ap not g.is_good

  pub few : t.count ≤ 1024
  few = rw live_count g.facts.is_short

  -- the blend, the value and the mark at a table place
  module _ (i : ℕ) (lt : i < t.count) where
    pub live_blend : get_or t.blends i none ≡ get_or (blends (plain m)) i none
    live_blend = rw (← live_blends) (sym (get_or-take t.count t.blends i none lt))

    pub live_value : get_or m.values i 0 ≡ get_or (plain m).values i 0
    live_value = rw (← live_values) (sym (get_or-take t.count m.values i 0 lt))

    pub live_mark : get_or m.marks i 0 ≡ get_or (plain m).marks i 0
    live_mark = rw (← live_marks) (sym (get_or-take t.count m.marks i 0 lt))

-- A new map that a good record may hold has its table.
new_opens : (Q : Plain) → Holds Q → (t : Table) → t ≡ table (blends Q) → {m : Map} → record_of Q ≡ m → IsTable m t
new_opens Q p t e is =
    let held = good_table (record_of Q) (record_good p).0 ∙ ap (λ (P : Plain). table (blends P)) (record_good p).1 in
    rw (← is) (record { is_good = (record_good p).0; is_table = e ∙ sym held })

-- Setting a value:
module _ {m : Map} {t : Table} (g : GoodMap m t) (i j v : ℕ) where
  abbrev at : ℕ
  at = place_of (blends (plain m)) (i + 1) (j + 1)

  -- an anchor that no blend has is refused, so one beyond the largest side;
  pub set_none : length (blends (plain m)) ≤ at → changed 9 m ≡ set_value m i j v
  unfolding set_value
  set_none le = sym (cond_false _ _ _ (passed g) ∙ cond_false _ _ _ (le-ltb _ _ le))

  pub set_beyond : (i ≤ 128 → j ≤ 128 → ⊥) → changed 9 m ≡ set_value m i j v
  unfolding plain
  set_beyond off =
      set_none (⊎_elim (λ lt. absurd (inside (ltb-true _ _ lt))) (λ ge. ltb-false _ _ ge) (either (ltb at (length (blends (plain m))))))
    where
      inside : at < length (blends (plain m)) → ⊥
      inside lt =
          let f = g.facts in
          let B = get_or (blends (plain m)) at none in
          let here = place_found (blends (plain m)) (i + 1) (j + 1) lt in
          let p = proper_facts m.lines.w m.lines.h B (live_proper m.lines.w m.lines.h f.across.0 f.up.0 (mesh_of (plain m).lines) B (entry (blends (plain m)) _ none lt)) in
          let across = p.across in
          let up = p.up in
          off (omega (arith, here.0, f.across)) (omega (arith, here.1, f.up))

  -- any other has its value set and marked.
  abbrev pub set_map : Map
  set_map = record { lines = m.lines; values = set m.values at v; marks = set m.marks at 1 }

  pub set_some : at < length (blends (plain m)) → (changed 0 set_map ≡ set_value m i j v) × IsTable set_map t
  unfolding set_plain set_value
  set_some lt =
      let Q = set_plain (plain m) i j v in
      let h = g.facts.holds in
      let is : record_of Q ≡ record { lines = m.lines; values = set m.values at v; marks = set m.marks at 1 } =
      rw g.facts.is_record at (record_set (plain m) i j v (rw h.counted lt) (rw h.counted_marks lt)) in (
        ap (changed 0) (sym is) ∙ sym (cond_false _ _ _ (passed g) ∙ cond_true _ _ _ (lt-ltb _ _ lt)),
        new_opens Q (set_holds g.facts.holds i j v) t (live_table g) is,
      )

-- A step for a call: a line that it draws is one that an exact split may draw, its table is that of the map with the line, and this map is the call's; its
-- refusal is the call's.
pub record Draws (m : Map) (r : Outcome) (c : Changed) : Type 0 where
  pub accepted : exact_number (plain m).lines r.split ≡ 0
  pub is_new : r.table ≡ table (blends (drawn (plain m) r.split))
  pub is_drawn : changed 0 (record_of (drawn (plain m) r.split)) ≡ c

abbrev pub StepOf : Map → Outcome → Changed → Type 0
StepOf m r c = (r.number ≡ 0 → Draws m r c) × ((r.number ≡ 0 → ⊥) → changed r.number m ≡ c)

-- What it leaves of a good record:
module _ {m : Map} {t : Table} (g : GoodMap m t) {r : Outcome} {c : Changed} where
  module _ (d : Draws m r c) where
    pub step_room : m.lines.count < 60
    unfolding plain
    step_room = rw (← g.facts.counted_splits) (exact_says (plain m).lines r.split d.accepted).0.room

    pub new_few : r.table.count ≤ 1024
    unfolding drawn plain
    new_few =
        let f = g.facts in
        rw (d.is_new, table_count)
        (at_most m.lines.w m.lines.h f.across.0 f.up.0 f.up.1 ((plain m).lines.splits ++ r.split ∷ [])
        (omega (arith, length-append (plain m).lines.splits (r.split ∷ []), f.counted_splits, step_room))
        (exact_says (plain m).lines r.split d.accepted).1)

    pub new_short : length (blends_of r.table) ≤ 1024
    new_short = omega (arith, new_few, length-take r.table.count r.table.blends)

    pub new_proper : all (proper m.lines.w m.lines.h) (blends_of r.table) ≡ true
    unfolding drawn plain
    new_proper =
        let f = g.facts in
        rw (d.is_new, table_blends)
        (all_of _ _ (live_proper m.lines.w m.lines.h f.across.0 f.up.0 (mesh_of (with_line (plain m).lines r.split))))

    pub step_grown : Grown (blends_of t) (blends_of r.table)
    unfolding drawn plain
    step_grown =
        let f = g.facts in
        rw (live_blends g, d.is_new, table_blends)
        (live_grown m.lines.w m.lines.h f.across.0 f.up.0 f.up.1 (mesh_of (plain m).lines) (mesh_of (with_line (plain m).lines r.split))
        (more_finer (plain m).lines r.split) f.is_sound (exact_says (plain m).lines r.split d.accepted).1)

    drawn_stays : Holds (drawn (plain m) r.split)
    drawn_stays = drawn_holds g.facts.holds r.split d.accepted

    pub step_drawn : (arrays : Carried) → arrays ≡ carried_arrays (blends_of t) (take t.count m.values) (take t.count m.marks) (blends_of r.table) →
        let new : Map = record { lines = with_split m.lines r.split; values = arrays.values; marks = arrays.marks } in
        (changed 0 new ≡ c) × IsTable new r.table
    unfolding carried_arrays
    step_drawn arrays v =
        let Q = drawn (plain m) r.split in
        let new_blends : blends_of r.table ≡ blends Q = rw d.is_new (table_blends (blends Q)) in
        let is : record_of Q ≡ record { lines = with_split m.lines r.split; values = arrays.values; marks = arrays.marks } =
        rw (v, live_blends g, live_values g, live_marks g, new_blends)
        (rw g.facts.is_record at (record_drawn (plain m) r.split (exact_says (plain m).lines r.split d.accepted).0.room)) in
        (ap (changed 0) (sym is) ∙ d.is_drawn, new_opens Q drawn_stays r.table d.is_new is)

  -- and that it leaves a good one
  step_good : StepOf m r c → good c.map ≡ true
  step_good of =
      ⊎_elim (λ y. let d = of.0 (eqb-true _ _ y) in rw (← d.is_drawn) (record_good (drawn_stays d)).0)
      (λ n. rw (← of.1 (eqb-false _ _ n)) g.is_good) (either (eqb r.number 0))

-- The step of a split is that of the call:
module _ {m : Map} {t : Table} (g : GoodMap m t) (s : Split) (a : ℕ) where
  refused_step_lem : (n : ℕ) → (n ≡ 0 → ⊥) → StepOf m (refused_step t n s) (changed n m)
  refused_step_lem n ne = (λ z. absurd (ne z), λ q. refl)

  -- by the line that it takes,
  first_step_lem : given (plain m).lines s ≡ 0 → (cs : List Split) → chosen (plain m).lines s a ≡ cs →
      StepOf m (first_step m.lines t s cs) (drawn_first m (plain m) cs)
  unfolding plain drawn
  first_step_lem z [] e = refused_step_lem 8 (λ q. omega arith)
  first_step_lem z (c ∷ cs) e =
      let accepts = chosen_exact (plain m).lines g.facts.across.0 g.facts.up.0 s c a cs z e in
      (λ q. record { accepted = accepts; is_new = refl; is_drawn = refl }, λ ne. absurd (ne refl))

  -- after the numbers that refuse it.
  pub split_step_lem : StepOf m (split_step m.lines t s a) (split_within m s a)
  unfolding split_step split_within plain
  split_step_lem =
      let n = asked (plain m).lines s a in
      rw g.is_good
      (⊎_elim (λ (e : eqb n 0 ≡ true). rw e (first_step_lem (asked_says (plain m).lines s a (eqb-true n 0 e)).1 (chosen (plain m).lines s a) refl))
      (λ (e : eqb n 0 ≡ false). rw e (refused_step_lem n (eqb-false n 0 e))) (either (eqb n 0)))

-- A changing call on a good record leaves a good one.
module _ {m : Map} {t : Table} (g : GoodMap m t) where
  pub set_good : (i j v : ℕ) → good (set_value m i j v).map ≡ true
  unfolding set_value
  set_good i j v =
      rw g.is_good
      (⊎_elim (λ y. rw y (record_good (set_holds g.facts.holds i j v)).0) (λ n. rw n g.is_good)
      (either (ltb (place_of (blends (plain m)) (i + 1) (j + 1)) (length (blends (plain m))))))

  pub split_good : (s : Split) (a : ℕ) → good (split_within m s a).map ≡ true
  split_good s a = step_good g (split_step_lem g s a)

-- what `?` hands on where a record is not good
pub handed_on : (m : Map) {T : Type 0} (r : Result T Refusal) (e : Refusal) → IsErrAnd r (λ y. y ≡ e) → opened_from m (Err e) ≡ opened m →
    (good m ≡ false) × ((y : Refusal) × (r ≡ Err y) × (number_of y ≡ 2))
handed_on m r e is refused =
    let f = opened_err m e refused in
    let y = err_from_is_err_and r is in
    (f.0, (y.0, y.1, ap number_of y.2 ∙ f.1))

-- A call that is refused leaves the map as it came.
abbrev Kept : Map → Changed → Type 0
Kept m c = (c.number ≡ 0 → ⊥) → c.map ≡ m

kept_either : (m : Map) (b : Bool) (c d : Changed) → Kept m c → Kept m d → Kept m (cond b c d)
kept_either m true c d p q = p
kept_either m false c d p q = q

pub set_kept : (m : Map) (i j v : ℕ) → Kept m (set_value m i j v)
unfolding set_value
set_kept m i j v =
    let P = plain m in
    let k = place_of (blends P) (i + 1) (j + 1) in
    let some = changed 0 (record_of (set_plain P i j v)) in
    kept_either m (not (good m)) (changed 2 m) (cond (ltb k (length (blends P))) some (changed 9 m)) (λ ne. refl)
    (kept_either m (ltb k (length (blends P))) some (changed 9 m) (λ ne. absurd (ne refl)) (λ ne. refl))

first_kept : (m : Map) (P : Plain) (cs : List Split) → Kept m (drawn_first m P cs)
first_kept m P [] ne = refl
first_kept m P (c ∷ cs) ne = absurd (ne refl)

pub split_kept : (m : Map) (s : Split) (a : ℕ) → Kept m (split_within m s a)
unfolding split_within
split_kept m s a =
    let P = plain m in
    let n = asked P.lines s a in
    let first = drawn_first m P (chosen P.lines s a) in
    kept_either m (not (good m)) (changed 2 m) (cond (eqb n 0) first (changed n m)) (λ ne. refl)
    (kept_either m (eqb n 0) first (changed n m) (first_kept m P (chosen P.lines s a)) (λ ne. refl))

pub call_refused : {m : Map} {c : Changed} → Kept m c → (r : Result ⊤ Refusal) (e : Refusal) → IsErrAnd r (λ y. y ≡ e) → (x : Map) →
    changed (number_of e) x ≡ c → changed_to m r ≡ c
call_refused {m} {c} kept r e is x ends =
    let y = err_from_is_err_and r is in
    let same : x ≡ m = ap (λ (c : Changed). c.map) ends ∙ kept (λ z. refuses e (ap (λ (c : Changed). c.number) ends ∙ z)) in
    rw (y.1, y.2) (rw same at ends)
