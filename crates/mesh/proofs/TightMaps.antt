-- Maps that accepted splits build are tight: every unit step of a line inside the domain lies on the grid of a live blend.
use Prim.Native.Nat.{ℕ, ◌+◌, ◌-◌, ◌≤◌, ◌<◌}
use native.Mathlib.Omega.{arith}
use mathlib.Core.Path.{◌≡◌, refl, sym, subst}
use mathlib.Core.Logic.{◌⊎◌, inl, inr, ⊎_elim}
use mathlib.Core.Bool.{true, false, ◌&&◌}
use mathlib.Core.List.{List, [], Memᴰ}
use lib.Dec.{ltb}
use Rattle.axis.specs.Triple.{half, KnotOf, OnSide}
use Rattle.axis.specs.declared.Side.{Side}
use Rattle.axis.specs.declared.Side.TheVariants.{Lower as lower, Upper as upper}
use Rattle.axis.specs.declared.Triple.{Triple}
use Rattle.axis.proofs.Tests.{true_not_false, false_of, and_both, or_either}
use Rattle.axis.proofs.Runs.{if_below, if_equal, throughout, until, downward, Downward}
use Rattle.axis.proofs.Triples.{rise_of}
use Rattle.axis.proofs.Sides.{step_within}
use Rattle.mesh.specs.Lines.{other, side, on_line, Layout, layout, mesh_of}
use Rattle.mesh.specs.declared.Direction.{Direction}
use Rattle.mesh.specs.declared.Direction.TheVariants.{Upright as upright, Level as level}
use Rattle.mesh.specs.Blends.{along, cuts, is_cut, halve, RiseB}
use Rattle.mesh.specs.Order.{Uncut}
use Rattle.mesh.specs.Sound.{four_everywhere, sound}
use Rattle.mesh.specs.Splits.{live_of, with_line}
use Rattle.mesh.specs.declared.Split.{Split}
use Rattle.mesh.specs.declared.Blend.{Blend}
use Rattle.mesh.specs.Crossings.{OnGrid, Gridded, Built}
use Rattle.mesh.proofs.Cuts.{Cut, cut_exactly, cut_fact, cut_test, proper_rises, halve_rises}
use Rattle.mesh.proofs.SoundMaps.{live_left, live_proper}
use Rattle.mesh.proofs.Fresh.{fresh_positions, fresh_live, fresh_sound}
use Rattle.mesh.proofs.View.{View, turn, Knot, SoundView, TightView, turn_sound, turn_tight}
use Rattle.mesh.proofs.Neighbours.{Abreast, grid_knot, level_at, inward, outward, line_ends}
use Rattle.mesh.proofs.Spreading.{Used, Rests, used_along}
use Rattle.mesh.proofs.MapView.{view, sound_view}
use Rattle.mesh.proofs.Grids.{stays_on_grid, half_on_grid}
use Rattle.mesh.proofs.OneLineMore.{Ranged, Row, end_of, more_finer, step_drawn, step_either}

abbrev pub view_of : Direction → Layout → View
view_of d P = view d P.w P.h (mesh_of P)

-- a step on a grid, in the words of a view
module _ (P : Layout) (wide : 1 ≤ P.w) (high : 1 ≤ P.h) (four : four_everywhere P.w P.h (live_of P) ≡ true) where
  pub sound_of : (d : Direction) → SoundView (view_of d P)
  sound_of d = sound_view P.w P.h wide high P.splits d four

  pub upright_used : (d : Direction) (z k : ℕ) → (1 < z) × (z ≤ side d P.w P.h) → OnSide (side (other d) P.w P.h) k → Gridded P d z k →
      Used (view_of d P) z k
  upright_used d z k hz hk g =
      grid_knot (turn (view_of d P)) (turn_sound (view_of d P) (sound_of d)) g.0 g.1 k z hk (omega arith) g.2.lo g.2.hi g.2.knot

  pub level_knot : (d : Direction) (v j : ℕ) → (1 < v) × (v ≤ side (other d) P.w P.h) → OnSide (side d P.w P.h) j → Gridded P (other d) v j →
      (x : Side) × Knot (view_of d P) x j v
  level_knot upright v j hv hj g =
      grid_knot (view_of upright P) (sound_of upright) g.0 g.1 j v hj (omega arith) g.2.lo g.2.hi g.2.knot
  level_knot level v j hv hj g =
      grid_knot (view_of level P) (sound_of level) g.0 g.1 j v hj (omega arith) g.2.lo g.2.hi g.2.knot

upright_tight : (P : Layout) (b : Built P) → TightView (view_of upright P)
upright_tight P b =
    record {
      is_sound = sound_of P b.wide b.high b.four upright;
      x = λ v j lo hi hj on. level_knot P b.wide b.high b.four upright v j (lo, omega arith) hj (b.tight level v j (lo, omega arith) hj on);
      y = λ v j lo hi hj on. level_knot P b.wide b.high b.four level v j (lo, omega arith) hj (b.tight upright v j (lo, omega arith) hj on);
    }

pub tight_view : (P : Layout) (b : Built P) (d : Direction) → TightView (view_of d P)
tight_view P b upright = upright_tight P b
tight_view P b level = turn_tight (view_of upright P) (upright_tight P b)

-- two blends abreast of an upright have a level that passes through its end
pub abreast_level : (P : Layout) (b : Built P) (d : Direction) {e : Side} {z k : ℕ} → Abreast (view_of d P) e z k →
    (mesh_of P (other d) k (z - 1) ≡ true) × (mesh_of P (other d) k z ≡ true)
abreast_level P b d {z = z} {k = k} q = (beside (z - 1) (omega arith) (omega arith), beside z (omega arith) (omega arith))
  where
    beside : (j : ℕ) → j ≤ z → z ≤ j + 1 → mesh_of P (other d) k j ≡ true
    beside j le ge =
        let known = (tight_view P b d).is_sound in
        let over = q.over upper in
        let rise = known.x.rises (q.at upper) (q.live upper) in
        level_at (view_of d P) known (q.at upper) (q.live upper) (q.anchored upper) (omega arith) (omega arith)

pub live_rises : (P : Layout) (b : Built P) (B : Blend) → Memᴰ B (live_of P) → RiseB B
live_rises P b B m = proper_rises P.w P.h B (live_proper P.w P.h b.wide b.high (mesh_of P) B m)

live_uncut : (P : Layout) (b : Built P) (B : Blend) → Memᴰ B (live_of P) → Uncut (mesh_of P) B
live_uncut P b B m = ((live_left P.w P.h b.wide b.high (mesh_of P) B).0 m).2.uncut

pub twice : (d : Direction) → other (other d) ≡ d
twice upright = refl
twice level = refl

-- With one split more, in range, a live blend that is cut is cut by its line.
pub only_there : (P : Layout) (b : Built P) (s : Split) (d : Direction) (r : Ranged P.w P.h d s) (B : Blend) → Memᴰ B (live_of P) →
    (e : Direction) (y : ℕ) → cuts (mesh_of (with_line P s)) e y B ≡ true → cuts (mesh_of (with_line P s)) d (s.position + 1) B ≡ true
only_there P b s d r B m e y c = search (downward (mesh_of P e y) (along e B).l (along e B).r)
  where
    f : Cut (mesh_of (with_line P s)) e y B
    f = cut_fact (mesh_of (with_line P s)) e y B c

    search : Downward (mesh_of P e y) (along e B).l (along e B).r → cuts (mesh_of (with_line P s)) d (s.position + 1) B ≡ true
    search (throughout g) =
        absurd (true_not_false _ (cut_test (mesh_of P) e y B (record { inside = f.inside; covered = g })) (live_uncut P b B m e y))
    search (until k lo hi off g) =
        ⊎_elim (λ on. absurd (true_not_false _ on off))
        (λ q. subst (λ (i : Direction). cuts (mesh_of (with_line P s)) i (s.position + 1) B ≡ true) q.0
        (subst (λ (n : ℕ). cuts (mesh_of (with_line P s)) e n B ≡ true) q.1 c))
        (step_either P s d r e y k (f.covered k lo hi))

-- One split more, in range, that leaves four over every square:
module _ (P : Layout) (b : Built P) (s : Split) (d : Direction) (r : Ranged P.w P.h d s)
    (four : four_everywhere P.w P.h (live_of (with_line P s)) ≡ true) where
  abbrev N : Layout
  N = with_line P s

  abbrev z : ℕ
  z = s.position + 1

  abbrev run : ℕ
  run = side (other d) P.w P.h

  old_gridded : (e : Direction) (y k : ℕ) → (1 < y) × (y ≤ side e P.w P.h) → OnSide (side (other e) P.w P.h) k → mesh_of P e y k ≡ true →
      Gridded N e y k
  old_gridded e y k hy hk on =
      let g = b.tight e y k hy hk on in
      stays_on_grid P.w P.h b.wide b.high (mesh_of P) (mesh_of N) (more_finer P s) e y k g.0 g.1 g.2

  -- a level beside the position
  rests_beside : (v j : ℕ) → (1 < v) × (v ≤ run) → (j ≡ z) ⊎ (j + 1 ≡ z) → mesh_of P (other d) v j ≡ true → Rests (view_of d N) z v
  rests_beside v j hv near on =
      let hj = column j near in
      let k = level_knot N b.wide b.high four d v j hv hj
      (old_gridded (other d) v j hv (subst (λ (e : Direction). OnSide (side e P.w P.h) j) (sym (twice d)) hj) on) in
      record { column = j; near = near; part = k.0; knot = k.1 }
    where
      column : (j : ℕ) → (j ≡ z) ⊎ (j + 1 ≡ z) → OnSide (side d P.w P.h) j
      column j (inl e) = (omega arith, omega arith)
      column j (inr e) = (omega arith, omega arith)

  rests_on : (v : ℕ) → (1 < v) × (v ≤ run) → on_line (mesh_of P) (other d) v z ≡ true → Rests (view_of d N) z v
  unfolding on_line
  rests_on v hv on =
      ⊎_elim (rests_beside v z hv (inl refl))
      (λ e. rests_beside v (z - 1) hv (inr (omega arith)) (and_both (ltb 0 z) (mesh_of P (other d) v (z - 1)) e).1)
      (or_either (mesh_of P (other d) v z) (ltb 0 z && mesh_of P (other d) v (z - 1)) on)

  -- Its ends, and those of the lines that it lengthens, rest on levels of live grids.
  module _ (on_lines : (e : Side) → on_line (mesh_of P) (other d) (end_of e s) z ≡ true) where
    rests : (e : Side) (v : ℕ) → (1 < v) × (v ≤ run) → mesh_of N d z (outward e v) ≡ false → mesh_of N d z (inward e v) ≡ true → Rests (view_of d N) z v
    rests e v hv off on =
        ⊎_elim old (λ q. subst (Rests (view_of d N) z) (sym (own_end e off q.2)) (rests_on (end_of e s) (own_in e off q.2) (on_lines e)))
        (step_either P s d r d z (inward e v) on)
      where
        old : mesh_of P d z (inward e v) ≡ true → Rests (view_of d N) z v
        old here_on =
            let off_before = false_of (mesh_of P d z (outward e v)) (λ t. true_not_false _ (more_finer P s d z (outward e v) t) off) in
            rests_beside v z hv (inl refl)
            (abreast_level P b d
            (line_ends (view_of d P) (tight_view P b d) z v (omega arith, omega arith) (omega arith, omega arith) e here_on off_before).abreast).1

        own_end : (e : Side) → mesh_of N d z (outward e v) ≡ false → Row run s (inward e v) → v ≡ end_of e s
        own_end lower off row =
            ⊎_elim
            (λ i. if_equal v (s.from + 1) (λ e. e) (λ ne. absurd (true_not_false _ (step_drawn P s d r (v - 1) (inl (omega arith, omega arith))) off)))
            (⊎_elim (λ i. absurd (omega arith)) (λ i. absurd (omega arith))) row
        own_end upper off row =
            ⊎_elim
            (λ i. if_equal v (s.to + 1) (λ e. e) (λ ne. absurd (true_not_false _ (step_drawn P s d r v (inl (omega arith, omega arith))) off)))
            (⊎_elim (λ i. absurd (omega arith)) (λ i. absurd (omega arith))) row

        own_in : (e : Side) → mesh_of N d z (outward e v) ≡ false → Row run s (inward e v) → (1 < end_of e s) × (end_of e s ≤ run)
        own_in e off row = let q = own_end e off row in (omega arith, omega arith)

    -- Its rows are used: one is, since it cuts a blend, and so they all are.
    module _ (B : Blend) (m : Memᴰ B (live_of P)) (c : is_cut (mesh_of N) B ≡ true) where
      -- the line that cuts it is the new one
      cut_there : cuts (mesh_of N) d z B ≡ true
      cut_there = let f = (cut_exactly (mesh_of N) B (live_rises P b B m)).0 c in only_there P b s d r B m f.0 f.1 f.2

      record Somewhere : Type 0 where
        row : ℕ
        along_line : (s.from + 1 ≤ row) × (row < s.to + 1)
        along_blend : ((along d B).l ≤ row) × (row < (along d B).r)

      -- one of the blend's rows is new
      somewhere : Somewhere
      somewhere =
          let f = cut_fact (mesh_of N) d z B cut_there in
          search f (downward (mesh_of P d z) (along d B).l (along d B).r)
        where
          known : SoundView (view_of d P)
          known = sound_of P b.wide b.high b.four d

          by : (k : ℕ) → (along d B).l ≤ k → k < (along d B).r → Row run s k → Somewhere
          by k lo hi (inl i) = record { row = k; along_line = i; along_blend = (lo, hi) }
          by k lo hi (inr (inl i)) =
              let rise = known.y.rises B m in
              record { row = 1; along_line = (omega arith, omega arith); along_blend = (omega arith, omega arith) }
          by k lo hi (inr (inr i)) =
              let rise = known.y.rises B m in
              record { row = run; along_line = (omega arith, omega arith); along_blend = (omega arith, omega arith) }

          search : Cut (mesh_of N) d z B → Downward (mesh_of P d z) (along d B).l (along d B).r → Somewhere
          search f (throughout g) = absurd (true_not_false _ (cut_test (mesh_of P) d z B (record { inside = f.inside; covered = g })) (live_uncut P b B m d z))
          search f (until k lo hi off g) =
              ⊎_elim (λ on. absurd (true_not_false _ on off)) (λ q. by k lo hi q.2) (step_either P s d r d z k (f.covered k lo hi))

      used_there : Used (view_of d N) z somewhere.row
      unfolding half halve
      used_there =
          let f = cut_fact (mesh_of N) d z B cut_there in
          let k = somewhere.row in
          let on_line = somewhere.along_line in
          let g = half_on_grid P.w P.h b.wide b.high (mesh_of P) (mesh_of N) (more_finer P s) d d z k z lower B m cut_there
          (halve_rises d lower z B (live_rises P b B m) f.inside) (cut_on_grid d k somewhere.along_blend) in
          upright_used N b.wide b.high four d z k (omega arith, r.inner.1) (omega arith, omega arith) g
        where
          knot : (t : Triple) → KnotOf z (half lower z t)
          knot t = if_below z t.m (λ lt. inr (inl (omega arith))) (λ le. inr (inr (omega arith)))

          cut_on_grid : (d : Direction) (k : ℕ) → ((along d B).l ≤ k) × (k < (along d B).r) → OnGrid d z k (halve d lower z B)
          cut_on_grid upright k i = record { knot = knot B.across; lo = i.0; hi = i.1 }
          cut_on_grid level k i = record { knot = knot B.up; lo = i.0; hi = i.1 }

      new_gridded : (k : ℕ) → s.from + 1 ≤ k → k < s.to + 1 → Gridded N d z k
      new_gridded k lo hi =
          let at = somewhere.along_line in
          let u = used_along (view_of d N) (sound_of N b.wide b.high four d) z (omega arith, r.inner.1)
          (λ v one last off on. rests lower v (one, omega arith) off on) (λ v one last on off. rests upper v (one, omega arith) off on)
          (s.from + 1) (s.to + 1) (omega arith) (omega arith) (λ n nlo nhi. step_drawn P s d r n (inl (nlo, nhi)))
          somewhere.row at.0 at.1 used_there k lo hi in
          by u.0 u.1
        where
          by : (y : Side) → Knot (turn (view_of d N)) y k z → Gridded N d z k
          by y n =
              let i = step_within y k (along d n.blend) (rise_of ((sound_of N b.wide b.high four d).y.rises n.blend n.live)) n.column in
              (n.blend, n.live, record { knot = inr (inl (sym n.at)); lo = i.0; hi = i.1 })

      -- So the map with the split is sound and tight again.
      pub still_built : Built N
      still_built =
          record {
            wide = b.wide;
            high = b.high;
            four = four;
            tight = λ e y k hy hk on.
                ⊎_elim (old_gridded e y k hy hk)
                (λ q. subst (λ (n : ℕ). Gridded N e n k) (sym q.1) (subst (λ (i : Direction). Gridded N i z k) (sym q.0) (within e q.0 k hk q.2)))
                (step_either P s d r e y k on);
          }
        where
          within : (e : Direction) → e ≡ d → (k : ℕ) → OnSide (side (other e) P.w P.h) k → Row run s k → Gridded N d z k
          within e same k hk row =
              let hk : OnSide run k = subst (λ (i : Direction). OnSide (side (other i) P.w P.h) k) same hk in
              ⊎_elim (λ i. new_gridded k i.0 i.1) (⊎_elim (λ i. absurd (omega arith)) (λ i. absurd (omega arith))) row

-- A fresh map has no line inside the domain.
pub fresh_built : (w h : ℕ) → 1 ≤ w → 1 ≤ h → h ≤ 128 → Built (layout w h [])
unfolding sound
fresh_built w h hw hh le =
    record {
      wide = hw;
      high = hh;
      four = subst (λ (bs : List Blend). four_everywhere w h bs ≡ true) (sym (fresh_live w h hw hh le)) (and_both _ _ (fresh_sound w h hw hh)).0;
      tight = λ d z k hz hk on.
          absurd
          (⊎_elim (λ e. omega arith) (⊎_elim (λ e. omega arith) (⊎_elim (λ e. omega arith) (λ e. omega arith)))
          (fresh_positions w h d z k on));
    }
