-- Opening a record: the tests of a good one, one by one, and what is then in hand.
use Prim.Native.Nat.{ℕ, ◌-◌, ◌≤◌}
use native.Mathlib.Omega.{arith}
use mathlib.Core.Path.{◌≡◌, refl, sym, ap, ap₂, ◌∙◌}
use mathlib.Core.Logic.{⊎_elim}
use mathlib.Core.Bool.{Bool, true, false, ◌&&◌}
use mathlib.Core.List.{List, [], ◌∷◌}
use borrow.Author.Tests.{leb-true, le-leb, eqb-true, eq-eqb}
use lib.Dec.{leb, eqb}
use lib.ListN.{length, take, drop, length-take}
use Rattle.std.specs.Prelude.{Option, Some, None}
use Rattle.std.specs.List.{list_all}
use Rattle.std.proofs.lemmas.List.{take_rest}
use Rattle.std.proofs.lemmas.Option.{none-some, cond_some}
use Rattle.axis.specs.Range.{all}
use Rattle.mesh.specs.declared.Lines.{Lines}
use Rattle.mesh.specs.declared.Table.{Table}
use Rattle.mesh.specs.Lines.{layout_of}
use Rattle.mesh.specs.Sound.{table}
use Rattle.mesh.specs.Splits.{live_of}
use Rattle.mesh.specs.Replay.{replays, replayed}
use Rattle.mesh.proofs.BlendTables.{table_count}
use Rattle.mesh.proofs.Accepted.{replays_says, replays_short}
use Rattle.axis.proofs.Tests.{either, same_test, false_of, and_both, cond_true}
use Rattle.maps.specs.declared.Map.{Map}
use Rattle.maps.specs.Plain.{blends}
use Rattle.maps.specs.Record.{is_no_split, is_zero, is_mark, plain, good}
use Rattle.maps.specs.Calls.{changed}
use Rattle.maps.specs.Opened.{table_of, opened}

pub record Passes (m : Map) : Type 0 where
  pub accepted? : replays m.lines ≡ true
  pub no_splits : all is_no_split (drop m.lines.count m.lines.splits) ≡ true
  pub no_values : all is_zero (drop (length (live_of (layout_of m.lines))) m.values) ≡ true
  pub are_marks : all is_mark m.marks ≡ true
  pub no_marks : all is_zero (drop (length (live_of (layout_of m.lines))) m.marks) ≡ true

module _ (m : Map) where
  pub good_passes : good m ≡ true → Passes m
  unfolding good
  good_passes e =
      let k = length (live_of (layout_of m.lines)) in
      let d = and_both _ (all is_zero (drop k m.marks)) e in
      let c = and_both _ (all is_mark m.marks) d.0 in
      let a = and_both _ (all is_zero (drop k m.values)) c.0 in
      let b = and_both (replays m.lines) (all is_no_split (drop m.lines.count m.lines.splits)) a.0 in
      record { accepted? = b.0; no_splits = b.1; no_values = a.1; are_marks = c.1; no_marks = d.1 }

  pub passes_good : Passes m → good m ≡ true
  unfolding good
  passes_good p = rw (p.accepted?, p.no_splits, p.no_values, p.are_marks, p.no_marks)

  -- a record that fails a test is not good
  pub fails_good : (Passes m → ⊥) → good m ≡ false
  fails_good f = false_of (good m) (λ e. f (good_passes e))

  -- so it is refused, and one that passes them all is opened with the table of its live blends
  pub not_opened : (Passes m → ⊥) → (opened m ≡ changed 2 m) × (table_of m ≡ table [])
  unfolding opened table_of
  not_opened f = rw (fails_good f) (refl, refl)

  pub is_opened : Passes m → (opened m ≡ changed 0 m) × (table_of m ≡ table (live_of (layout_of m.lines)))
  unfolding opened table_of plain
  is_opened p = rw (passes_good p) (refl, refl)

  pub good_table : good m ≡ true → table_of m ≡ table (blends (plain m))
  unfolding table_of
  good_table e = cond_true _ _ _ e

-- none above 0
pub none_above : (xs : List ℕ) → all (λ k. leb k 0) xs ≡ all is_zero xs
none_above [] = refl
none_above (k ∷ xs) =
    let low = same_test (leb k 0) (eqb k 0) (λ t. eq-eqb k 0 (omega (arith, leb-true k 0 t))) (λ t. le-leb k 0 (omega (arith, eqb-true k 0 t))) in
    ap₂ ◌&&◌ low (none_above xs)

-- what it says that lines were replayed, or not
module _ (L : Lines) where
  pub replay_some : {t : Table} → Some t ≡ replayed L → (replays L ≡ true) × (t ≡ table (live_of (layout_of L)))
  unfolding replayed
  replay_some e = let f = cond_some _ _ _ (sym e) in (f.0, sym f.1)

  pub replay_none : None ≡ replayed L → replays L ≡ false
  unfolding replayed
  replay_none e = ⊎_elim (λ y. absurd (none-some _ (e ∙ cond_true _ _ _ y))) (λ n. n) (either (replays L))

-- a test of all of a list, as an iterator has it
pub all_list : {A : Type 0} (test : A → Bool) (xs : List A) → list_all test xs ≡ all test xs
all_list test [] = refl
all_list test (x ∷ xs) = ap (λ (b : Bool). test x && b) (all_list test xs)

-- and of the rest of an array
pub rest_all : {A : Type 0} (test : A → Bool) (xs : List A) (n i : ℕ) → length xs ≡ n → list_all test (take (n - i) (drop i xs)) ≡ all test (drop i xs)
rest_all test xs n i e = rw (← e) (ap (list_all test) (take_rest xs i) ∙ all_list test (drop i xs))

-- lines that were replayed make a table with room
pub lines_short : (L : Lines) → replays L ≡ true → length (live_of (layout_of L)) ≤ 1024
lines_short L e =
    let r = replays_says L e in
    let few : length (layout_of L).splits ≤ 60 = omega (arith, r.2, length-take L.count L.splits) in
    replays_short (record { across = r.0; up = r.1; few = few; all_taken = r.3 })

-- what it leaves, where they were all accepted
pub record Replayed (L : Lines) (t : Table) : Type 0 where
  pub accepted? : replays L ≡ true
  pub few_splits : L.count ≤ 60
  pub is_table : t ≡ table (live_of (layout_of L))
  pub counted : t.count ≡ length (live_of (layout_of L))
  pub few : t.count ≤ 1024

pub replay_gives : (L : Lines) {t : Table} {r : Option Table} → r ≡ Some t → r ≡ replayed L → Replayed L t
replay_gives L is e =
    let s = replay_some L (sym is ∙ e) in
    let n = ap (λ (t : Table). t.count) s.1 ∙ table_count (live_of (layout_of L)) in
    record { accepted? = s.0; few_splits = (replays_says L s.0).2; is_table = s.1; counted = n; few = rw n (lines_short L s.0) }
