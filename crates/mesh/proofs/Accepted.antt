-- Splits taken in order as exact splits: the map that they leave is sound, its lines are its grids, and a table holds its blends.
use Prim.Native.Nat.{ℕ, ◌≤◌}
use native.Mathlib.Omega.{arith}
use mathlib.Core.Path.{◌≡◌, refl}
use mathlib.Core.Bool.{true, ◌&&◌}
use mathlib.Core.List.{List, [], ◌∷◌, ◌++◌, append_assoc, append-nil}
use borrow.Author.Tests.{leb-true, eqb-true, eq-eqb}
use lib.Dec.{eqb, leb}
use lib.ListN.{length, length-append}
use lib.Seq.{length-take-le}
use Rattle.axis.proofs.Tests.{and_both, and_of, all_append}
use Rattle.mesh.specs.Lines.{Layout, layout, layout_of, splits_of, allowed_side, Ranges}
use Rattle.mesh.specs.Sound.{sound}
use Rattle.mesh.specs.Splits.{live_of, with_line, exact_number, accepted}
use Rattle.mesh.specs.Replay.{replays, Replays}
use Rattle.mesh.specs.declared.Split.{Split}
use Rattle.mesh.specs.declared.Lines.{Lines}
use Rattle.mesh.specs.Crossings.{Built}
use Rattle.mesh.proofs.Ranges.{side_says}
use Rattle.mesh.proofs.AtMost.{at_most}
use Rattle.mesh.proofs.Quadrants.{four_sound}
use Rattle.mesh.proofs.TightMaps.{fresh_built}
use Rattle.mesh.proofs.Passing.{exact_says}
use Rattle.mesh.proofs.TwoLooks.{stays_built}

-- An accepted split leaves a sound map whose lines are its grids, if the map before is one.
pub accepted_built : (P : Layout) (s : Split) → Built P → exact_number P s ≡ 0 → Built (with_line P s)
accepted_built P s b e =
    let r = exact_says P s e in
    stays_built P b s r.0.fits r.0.apart r.0.ends r.0.cut r.1

-- splits after those of a layout
abbrev with_lines : Layout → List Split → Layout
with_lines P ss = layout P.w P.h (P.splits ++ ss)

-- accepted ones leave splits in range and a sound map, whose lines are its grids
pub record Standing (P : Layout) : Type 0 where
  pub ranges : Ranges P
  pub built : Built P

accepted_stands : (ss : List Split) (P : Layout) → Standing P → accepted P ss ≡ true → Standing (with_lines P ss)
unfolding accepted
accepted_stands [] P ok e = rw append-nil ok
accepted_stands (s ∷ ss) P ok e =
    let a = and_both (eqb (exact_number P s) 0) (accepted (with_line P s) ss) e in
    let r = exact_says P s (eqb-true _ _ a.0) in
    rw (← append_assoc P.splits (s ∷ []) ss)
    (accepted_stands ss (with_line P s)
    (record {
      ranges = all_append _ P.splits (s ∷ []) ok.ranges (and_of _ true r.0.fits refl);
      built = accepted_built P s ok.built (eqb-true _ _ a.0);
    })
    a.1)

accepted_more : (ss : List Split) (P : Layout) (s : Split) → accepted P ss ≡ true → exact_number (with_lines P ss) s ≡ 0 →
    accepted P (ss ++ s ∷ []) ≡ true
unfolding accepted
accepted_more [] P s e z = let y : exact_number P s ≡ 0 = rw append-nil at z in and_of _ true (eq-eqb _ _ y) refl
accepted_more (x ∷ ss) P s e z =
    let a = and_both (eqb (exact_number P x) 0) (accepted (with_line P x) ss) e in
    and_of _ _ a.0 (accepted_more ss (with_line P x) s a.1 (rw append_assoc z))

module _ {P : Layout} (r : Replays P) where
  pub replays_sides : (1 ≤ P.w) × (P.w ≤ 128) × (1 ≤ P.h) × (P.h ≤ 128)
  replays_sides = let a = side_says P.w r.across in let b = side_says P.h r.up in (a.0, a.1, b.0, b.1)

  pub replays_stands : Standing P
  replays_stands =
      let a = replays_sides in
      accepted_stands P.splits (layout P.w P.h [])
      (record { ranges = refl; built = fresh_built P.w P.h a.0 a.2 a.3 }) r.all_taken

  pub replays_sound : sound P.w P.h (live_of P) ≡ true
  replays_sound = let a = replays_sides in four_sound P.w P.h a.0 a.2 P.splits replays_stands.built.four

  pub replays_short : length (live_of P) ≤ 1024
  replays_short = let a = replays_sides in at_most P.w P.h a.0 a.2 a.3 P.splits r.few replays_sound

  pub replays_more : (s : Split) → exact_number P s ≡ 0 → Replays (with_line P s)
  replays_more s e =
      record {
        across = r.across;
        up = r.up;
        few = rw length-append (omega (arith, (exact_says P s e).0.room));
        all_taken = accepted_more P.splits (layout P.w P.h []) s r.all_taken e;
      }

pub fresh_replays : (w h : ℕ) → allowed_side w ≡ true → allowed_side h ≡ true → Replays (layout w h [])
unfolding accepted
fresh_replays w h a b = record { across = a; up = b; few = omega arith; all_taken = refl }

-- as a test of a struct of lines
pub replays_says : (L : Lines) → replays L ≡ true →
    (allowed_side L.w ≡ true) × (allowed_side L.h ≡ true) × (L.count ≤ 60) × (accepted (layout L.w L.h []) (splits_of L) ≡ true)
unfolding replays
replays_says L e =
    let a = and_both _ (accepted (layout L.w L.h []) (splits_of L)) e in
    let b = and_both (allowed_side L.w && allowed_side L.h) (leb L.count 60) a.0 in
    let c = and_both (allowed_side L.w) (allowed_side L.h) b.0 in
    (c.0, c.1, leb-true L.count 60 b.1, a.1)

module _ (L : Lines) (places : length L.splits ≡ 60) (e : replays L ≡ true) where
  pub counted_lines : length (splits_of L) ≡ L.count
  counted_lines = length-take-le L.count L.splits (omega (arith, (replays_says L e).2))

  pub lines_replay : Replays (layout_of L)
  lines_replay = let r = replays_says L e in record { across = r.0; up = r.1; few = rw counted_lines r.2; all_taken = r.3 }
