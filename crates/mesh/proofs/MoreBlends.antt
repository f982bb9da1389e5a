-- A longer line adds more live blends than one that it contains: where that one ends between two blends, the longer one makes a crossing.
use Prim.Native.Nat.{ℕ, ◌+◌, ◌-◌, ◌≤◌, ◌<◌}
use native.Mathlib.Omega.{arith}
use mathlib.Core.Path.{◌≡◌, ◌∙◌}
use mathlib.Core.Logic.{inl, ⊎_elim}
use mathlib.Core.Bool.{true, false, not}
use mathlib.Core.List.{List}
use lib.ListN.{length}
use Rattle.axis.specs.Range.{only}
use Rattle.axis.specs.declared.Side.{Side}
use Rattle.axis.specs.declared.Side.TheVariants.{Lower as lower, Upper as upper}
use Rattle.axis.proofs.Tests.{true_not_false, false_of, any_at}
use Rattle.axis.proofs.Counts.{some_pass}
use Rattle.mesh.specs.Lines.{other, side, mesh, Layout, layout, mesh_of}
use Rattle.mesh.specs.declared.Direction.{Direction}
use Rattle.mesh.specs.declared.Direction.TheVariants.{Upright as upright, Level as level}
use Rattle.mesh.specs.Blends.{crossed, along, anchored, live}
use Rattle.mesh.specs.Order.{Coarser}
use Rattle.mesh.specs.Splits.{live_of, with_line}
use Rattle.mesh.specs.Lengthening.{spanning, known}
use Rattle.mesh.specs.Ends.{good_end}
use Rattle.mesh.specs.declared.Split.{Split}
use Rattle.mesh.specs.declared.Blend.{Blend}
use Rattle.mesh.specs.Crossings.{Built}
use Rattle.mesh.proofs.TableOrder.{anchored_at}
use Rattle.mesh.proofs.Quadrants.{four_sound}
use Rattle.mesh.proofs.NewAnchors.{kept_and_new}
use Rattle.mesh.proofs.Neighbours.{outward}
use Rattle.mesh.proofs.AnchorsCross.{Crossing, Anchor, crossing_anchored, anchor_crosses}
use Rattle.mesh.proofs.Filling.{Good, edge, line, blends, edge_of}
use Rattle.mesh.proofs.OneLineMore.{Ranged, Row, end_of, more_finer, step_drawn, step_either}
use Rattle.mesh.proofs.TightMaps.{view_of, sound_of, tight_view, abreast_level}
use Rattle.mesh.proofs.GoodEnds.{good_says, end_room}

-- a line with other ends goes past one of a line's ends
abbrev pub Past : Split → ℕ → ℕ → Side → Type 0
Past s from to lower = from < s.from
Past s from to upper = s.to < to

-- More splits on one map, if both maps are sound and tight, add as many live blends as they make new anchors.
pub more_blends : (w h : ℕ) (ss ts : List Split) → Built (layout w h ss) → Built (layout w h ts) → Coarser (mesh w h ss) (mesh w h ts) →
    let old = live w h (mesh w h ss) in
    let new = live w h (mesh w h ts) in
    length new ≡ length old + length (only (λ B. not (known old B)) new)
more_blends w h ss ts b c finer =
    kept_and_new w h b.wide b.high (mesh w h ss) (mesh w h ts) finer (four_sound w h b.wide b.high ss b.four)
    (four_sound w h b.wide b.high ts c.four)

crossed_same : (d : Direction) (A B : Blend) → A.across.m ≡ B.across.m → A.up.m ≡ B.up.m →
    ((crossed d A).m ≡ (crossed d B).m) × ((along d A).m ≡ (along d B).m)
crossed_same upright A B p q = (p, q)
crossed_same level A B p q = (q, p)

-- A line past which a longer one goes at an end that is good, where nothing is drawn:
module _ (P : Layout) (b : Built P) (s : Split) (d : Direction) (from to : ℕ) (short : Ranged P.w P.h d s)
    (long : Ranged P.w P.h d (spanning s from to)) (begins : from ≤ s.from) (ends : s.to ≤ to)
    (free : (k : ℕ) → from + 1 ≤ k → k < to + 1 → mesh_of P d (s.position + 1) k ≡ false) where
  abbrev z : ℕ
  z = s.position + 1

  -- with the line, and with the longer one
  abbrev S : Layout
  S = with_line P s

  abbrev L : Layout
  L = with_line P (spanning s from to)

  -- the end lies inside the longer line, so nothing is drawn beyond it;
  inside : (e : Side) → Past s from to e → (from + 1 < end_of e s) × (end_of e s < to + 1)
  inside lower p = (omega arith, omega arith)
  inside upper p = (omega arith, omega arith)

  off_there : (e : Side) → Past s from to e → mesh_of P d z (outward e (end_of e s)) ≡ false
  off_there lower p = free _ (omega arith) (omega arith)
  off_there upper p = free _ (omega arith) (omega arith)

  -- the line itself does not pass through it,
  not_drawn : (e : Side) → Past s from to e → Row (side (other d) P.w P.h) s (outward e (end_of e s)) → ⊥
  not_drawn lower p row = ⊎_elim (λ q. omega arith) (⊎_elim (λ q. omega arith) (λ q. omega arith)) row
  not_drawn upper p row = ⊎_elim (λ q. omega arith) (⊎_elim (λ q. omega arith) (λ q. omega arith)) row

  outward_of : (e : Side) {k : ℕ} → Crossing (view_of d S) z k → mesh_of S d z (outward e k) ≡ true
  outward_of lower c = c.below
  outward_of upper c = c.above

  -- and the longer one does, where a level passes: two blends are abreast there.
  not_edge : (e : Side) → Past s from to e → end_of e s ≡ edge_of (view_of d P) e → ⊥
  not_edge lower p q = omega arith
  not_edge upper p q = omega arith

  level_there : (e : Side) → Past s from to e → Good (view_of d P) e z (end_of e s) →
      (mesh_of P (other d) (end_of e s) (z - 1) ≡ true) × (mesh_of P (other d) (end_of e s) z ≡ true)
  level_there e p (edge q) = absurd (not_edge e p q)
  level_there e p (line inner on) = absurd (true_not_false _ on (off_there e p))
  level_there e p (blends inner off a) = abreast_level P b d a

  module _ (e : Side) (past : Past s from to e) (good : good_end P d z e (end_of e s) ≡ true) (bs : Built S) (bl : Built L) where
    abbrev k : ℕ
    k = end_of e s

    crossed_there : Crossing (view_of d L) z k
    crossed_there =
        let i = inside e past in
        let l = level_there e past (good_says P d z e k (end_room P s d short e) good) in
        record {
          across = (omega arith, omega arith);
          up = (omega arith, omega arith);
          below = step_drawn P (spanning s from to) d long (k - 1) (inl (omega arith, omega arith));
          above = step_drawn P (spanning s from to) d long k (inl (omega arith, omega arith));
          left = more_finer P (spanning s from to) (other d) k (z - 1) l.0;
          right = more_finer P (spanning s from to) (other d) k z l.1;
        }

    there : Anchor (view_of d L) z k
    there = crossing_anchored (view_of d L) (tight_view L bl d) z k crossed_there

    not_crossed : Crossing (view_of d S) z k → ⊥
    not_crossed c =
        ⊎_elim (λ on. true_not_false _ on (off_there e past)) (λ q. not_drawn e past q.2) (step_either P s d short d z _ (outward_of e c))

    -- So there is one anchor more.
    is_new : known (live_of S) there.blend ≡ false
    is_new = false_of _ refute
      where
        refute : known (live_of S) there.blend ≡ true → ⊥
        refute t =
            let a = any_at (anchored there.blend.across.m there.blend.up.m) (live_of S) t in
            let at = anchored_at _ _ a.0 a.2 in
            let same = crossed_same d a.0 there.blend at.0 at.1 in
            not_crossed (rw (same.0 ∙ there.across, same.1 ∙ there.up) at
            (anchor_crosses (view_of d S) (sound_of S bs.wide bs.high bs.four d) a.0 a.1))

    pub longer_adds : Coarser (mesh_of S) (mesh_of L) → length (live_of S) < length (live_of L)
    longer_adds finer =
        let more = more_blends P.w P.h S.splits L.splits bs bl finer in
        let one = some_pass (λ B. not (known (live_of S) B)) there.blend (live_of L) there.live (rw is_new) in
        omega arith
