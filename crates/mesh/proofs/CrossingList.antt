-- The anchors of a map that accepted splits build are its crossings, as lists; and its lines are told by its live blends.
use Prim.Native.Nat.{ℕ, ◌+◌, ◌≤◌, ◌<◌}
use native.Mathlib.Omega.{arith}
use mathlib.Core.Path.{◌≡◌, refl, sym, ap, subst, ◌∙◌}
use mathlib.Core.Logic.{inl, inr, ⊎_elim}
use mathlib.Core.Bool.{Bool, true, false, cond, ◌||◌}
use mathlib.Core.List.Memᴰ
use mathlib.Core.List.{List, [], ◌∷◌, Memᴰ}
use lib.Dec.{ltb, eqb}
use lib.ListN.{length}
use borrow.Author.Tests.{eq-eqb, ltb-true}
use Rattle.axis.specs.Range.{any, only}
use Rattle.axis.specs.Triple.{Knots, KnotOf, OnSide}
use Rattle.axis.specs.declared.Side.{Side}
use Rattle.axis.specs.declared.Side.TheVariants.{Lower as lower, Upper as upper}
use Rattle.axis.specs.declared.Triple.{Triple}
use Rattle.axis.proofs.Tests.{true_not_false, and_both, and_of, or_either, or_left, or_right, same_test, all_at, any_at, any_of, only_mem, mem_only, each_same}
use Rattle.axis.proofs.Runs.{if_at_most, if_equal}
use Rattle.axis.proofs.Members.{map_each}
use Rattle.axis.proofs.Counts.{one_at_most}
use Rattle.axis.proofs.Triples.{AtFresh}
use Rattle.axis.proofs.Sides.{StepIn, column}
use Rattle.mesh.specs.Lines.{other, side, direction, mesh, fresh_mesh, draws, in_range, Layout, mesh_of, Ranges}
use Rattle.mesh.specs.declared.Direction.{Direction}
use Rattle.mesh.specs.declared.Direction.TheVariants.{Upright as upright, Level as level}
use Rattle.mesh.specs.Blends.{anchored, once, leaves_of, in_table_order, refine, live, first_four, crossed}
use Rattle.mesh.specs.Order.{Coarser}
use Rattle.mesh.specs.Sound.{sound}
use Rattle.mesh.specs.Splits.{live_of}
use Rattle.mesh.specs.Crossings.{point, crosses, crossings, anchors, on_grid, Tight, Gridded, Built}
use Rattle.mesh.specs.declared.Split.{Split}
use Rattle.mesh.specs.declared.Blend.{Blend}
use Rattle.mesh.proofs.TableOrder.{anchored_at, order_mem, mem_order, once_distinct}
use Rattle.mesh.proofs.SoundMaps.{own_anchors}
use Rattle.mesh.proofs.Quadrants.{four_sound}
use Rattle.mesh.proofs.Fresh.{fresh_positions, fresh_line}
use Rattle.mesh.proofs.View.{SoundView}
use Rattle.mesh.proofs.AnchorsCross.{Crossing, crossing_anchored, anchor_crosses}
use Rattle.mesh.proofs.MapView.{live_grid}
use Rattle.mesh.proofs.Grids.{grid_says, grid_of}
use Rattle.mesh.proofs.OneLineMore.{Ranged, Row, ranged, draws_says, draws_of}
use Rattle.mesh.proofs.TightMaps.{view_of, sound_of, tight_view}

-- a crossing, as the test of it says
module _ (P : Layout) (m n : ℕ) where
  crosses_says : (1 ≤ m) × (m ≤ P.w + 1) → (1 ≤ n) × (n ≤ P.h + 1) → crosses (mesh_of P) m n ≡ true → Crossing (view_of upright P) m n
  crosses_says hm hn e =
      let a = and_both _ _ e in
      let u = and_both _ _ a.0 in
      let v = and_both _ _ a.1 in
      record { across = hm; up = hn; below = u.0; above = u.1; left = v.0; right = v.1 }

  crosses_of : Crossing (view_of upright P) m n → crosses (mesh_of P) m n ≡ true
  crosses_of c = and_of _ _ (and_of _ _ c.below c.above) (and_of _ _ c.left c.right)

-- blends at one point, at most one of them, and none or some by a test
at_point : (m n : ℕ) (ys : List Blend) (b : Bool) → ((B : Blend) → Memᴰ B ys → (B.across.m ≡ m) × (B.up.m ≡ n)) → length ys ≤ 1 →
    (b ≡ true → (B : Blend) × Memᴰ B ys) → (b ≡ false → (B : Blend) → Memᴰ B ys → ⊥) → anchors ys ≡ cond b (point m n ∷ []) []
at_point m n [] true here few some none = absurd (Memᴰ.not-nil (some refl).1)
at_point m n [] false here few some none = refl
at_point m n (B ∷ []) true here few some none =
    let e = here B (Memᴰ.head refl) in
    λ i. record { m = e.0 i; n = e.1 i } ∷ []
at_point m n (B ∷ []) false here few some none = absurd (none refl B (Memᴰ.head refl))
at_point m n (B ∷ C ∷ ys) b here few some none = absurd (omega arith)

module _ (P : Layout) (b : Built P) where
  -- Four live blends over every square make the map sound.
  pub built_sound : sound P.w P.h (live_of P) ≡ true
  built_sound = four_sound P.w P.h b.wide b.high P.splits b.four

  -- The anchors in table order are the crossings in the same order.
  pub anchors_are_crossings : anchors (live_of P) ≡ crossings P.w P.h (mesh_of P)
  unfolding live refine in_table_order crossings
  anchors_are_crossings =
      map_each _ 1 (P.w + 1) _ ∙
      each_same 1 (P.w + 1) _ _ (λ m lm hm. map_each _ 1 (P.h + 1) _ ∙ each_same 1 (P.h + 1) _ _ (λ n ln hn. at m n (lm, omega arith) (ln, omega arith)))
    where
      at : (m n : ℕ) → (1 ≤ m) × (m ≤ P.w + 1) → (1 ≤ n) × (n ≤ P.h + 1) →
          anchors (only (anchored m n) (once (leaves_of (mesh_of P) (first_four P.w P.h)))) ≡ cond (crosses (mesh_of P) m n) (point m n ∷ []) []
      at m n hm hn =
          at_point m n (only (anchored m n) bs) (crosses (mesh_of P) m n) (λ B k. anchored_at m n B (only_mem (anchored m n) bs B k).1)
          (one_at_most (anchored m n) bs (once_distinct _)
          (λ B C mB mC e f.
          let i = anchored_at m n B e in
          let j = anchored_at m n C f in
          own_anchors P.w P.h b.wide b.high (mesh_of P) built_sound B C
          (listed B mB i.0 i.1) (listed C mC j.0 j.1) (i.0 ∙ sym j.0) (i.1 ∙ sym j.1)))
          (λ e. let a = crossing_anchored (view_of upright P) (tight_view P b upright) m n (crosses_says P m n hm hn e) in (
            a.blend,
            mem_only (anchored m n) bs a.blend (order_mem P.w P.h bs a.blend a.live).0
                (and_of _ _ (eq-eqb _ _ a.across) (eq-eqb _ _ a.up)),
          ))
          (λ e B k. let o = only_mem (anchored m n) bs B k in
          let i = anchored_at m n B o.1 in
          true_not_false _
          (crosses_of P m n (subst (Crossing (view_of upright P) m) i.1 (subst (λ (x : ℕ). Crossing (view_of upright P) x B.up.m) i.0
          (anchor_crosses (view_of upright P) (sound_of P b.wide b.high b.four upright) B (listed B o.0 i.0 i.1))))) e)
        where
          bs : List Blend
          bs = once (leaves_of (mesh_of P) (first_four P.w P.h))

          listed : (B : Blend) → Memᴰ B bs → B.across.m ≡ m → B.up.m ≡ n → Memᴰ B (in_table_order P.w P.h bs)
          listed B k e f =
              mem_order P.w P.h bs B k (record { left = omega arith; right = omega arith; bottom = omega arith; top = omega arith })

  -- Inside the domain the lines are the grids.
  pub lines_are_grids : Tight P.w P.h (mesh_of P) (live_of P)
  lines_are_grids d z k lz hz lk hk =
      same_test _ _ (λ on. let g = gridded on in any_of (on_grid d z k) (live_of P) g.0 g.1 (grid_of d z k g.0 g.2))
      (λ t. let a = any_at (on_grid d z k) (live_of P) t in
      let g = grid_says d z k a.0 a.2 in
      on_knot g.knot (live_grid P.w P.h b.wide b.high P.splits a.0 a.1 d k g.lo g.hi))
    where
      on_knot : {t : Triple} → KnotOf z t → Knots (λ (y : ℕ). mesh_of P d y k ≡ true) t → mesh_of P d z k ≡ true
      on_knot (inl e) n = subst (λ (y : ℕ). mesh_of P d y k ≡ true) (sym e) n.l
      on_knot (inr (inl e)) n = subst (λ (y : ℕ). mesh_of P d y k ≡ true) (sym e) n.m
      on_knot (inr (inr e)) n = subst (λ (y : ℕ). mesh_of P d y k ≡ true) (sym e) n.r

      known : SoundView (view_of d P)
      known = sound_of P b.wide b.high b.four d

      -- on an edge, by the blend over the column beside it
      at_edge : (x : Side) → OnSide (side d P.w P.h) (column x z) →
          ((B : Blend) → Memᴰ B (live_of P) → StepIn x (column x z) (crossed d B) → z ≡ (crossed d B).m) → Gridded P d z k
      at_edge x on is =
          let r = known.some x upper (column x z) k on (lk, omega arith) in
          let o = r.1 in
          let rise = known.y.rises r.0 o.live in
          (r.0, o.live, record { knot = inr (inl (is r.0 o.live o.column)); lo = omega arith; hi = omega arith })

      gridded : mesh_of P d z k ≡ true → Gridded P d z k
      gridded on =
          let wide = known.x.wide in
          if_equal z 1 (λ one. at_edge upper (omega arith, omega arith) (λ B m i. omega (arith, known.x.rises B m)))
          (λ ne. if_at_most z (side d P.w P.h) (λ le. b.tight d z k (omega arith, le) (lk, omega arith) on)
          (λ gt. at_edge lower (omega arith, omega arith) (λ B m i. omega (arith, known.x.rises B m))))

-- a unit step of a layout is a fresh line's, or one that a split in range draws
pub data StepOf (P : Layout) (d : Direction) (z k : ℕ) : Type 0 where
  fresh_step : AtFresh (side d P.w P.h) z → k < side (other d) P.w P.h + 2 → StepOf P d z k
  split_step : (s : Split) → Memᴰ s P.splits → Ranged P.w P.h d s → z ≡ s.position + 1 → Row (side (other d) P.w P.h) s k → StepOf P d z k

step_says : (P : Layout) → Ranges P → (d : Direction) (z k : ℕ) → mesh_of P d z k ≡ true → StepOf P d z k
unfolding mesh fresh_mesh
step_says P ok d z k on =
    ⊎_elim
    (λ f. fresh_step (fresh_positions P.w P.h d z k (or_left (fresh_mesh P.w P.h d z k) false f))
    (ltb-true _ _ (and_both (eqb z 0 || eqb z 1 || eqb z (side d P.w P.h + 1) || eqb z (side d P.w P.h + 2))
    (ltb k (side (other d) P.w P.h + 2)) f).1))
    (λ a. let t = any_at (draws P.w P.h d z k) P.splits a in
    let r = ranged P.w P.h t.0 (all_at (in_range P.w P.h) P.splits ok t.0 t.1) in
    let q = draws_says P.w P.h (direction t.0.direction) t.0 r d z k t.2 in
    split_step t.0 t.1 (subst (λ (i : Direction). Ranged P.w P.h i t.0) (sym q.0) r) q.1
    (subst (λ (i : Direction). Row (side (other i) P.w P.h) t.0 k) (sym q.0) q.2))
    (or_either (fresh_mesh P.w P.h d z k) (any (draws P.w P.h d z k) P.splits) on)

split_on : (P : Layout) (d : Direction) (s : Split) → Memᴰ s P.splits → Ranged P.w P.h d s → (k : ℕ) → Row (side (other d) P.w P.h) s k →
    mesh_of P d (s.position + 1) k ≡ true
unfolding mesh
split_on P d s m r k row =
    or_right (fresh_mesh P.w P.h d (s.position + 1) k) _
    (any_of (draws P.w P.h d (s.position + 1) k) P.splits s m (draws_of P.w P.h d s r k row))

-- Two such maps of equal sides with the same blends have lines that cover the same points.
module _ (P R : Layout) (b : Built P) (c : Built R) (ok : Ranges P) (fine : Ranges R) (wide : R.w ≡ P.w) (high : R.h ≡ P.h)
    (same : live_of R ≡ live_of P) where
  sides : (d : Direction) → side d R.w R.h ≡ side d P.w P.h
  sides upright = wide
  sides level = high

  -- inside the domain, by the grids
  inside_told : (d : Direction) (z k : ℕ) → 1 ≤ z → z ≤ side d P.w P.h + 1 → 1 ≤ k → k ≤ side (other d) P.w P.h → mesh_of P d z k ≡ true →
      mesh_of R d z k ≡ true
  inside_told d z k lz hz lk hk on =
      lines_are_grids R c d z k lz (omega (arith, sides d)) lk (omega (arith, sides (other d))) ∙ ap (any (on_grid d z k)) same ∙
      sym (lines_are_grids P b d z k lz hz lk hk) ∙ on

  -- past its edge, by the step beside it: a line runs out exactly where it reaches the edge
  module _ (d : Direction) (z : ℕ) (inner : (1 < z) × (z ≤ side d P.w P.h)) where
    not_fresh : AtFresh (side d R.w R.h) z → ⊥
    not_fresh at = let e = sides d in ⊎_elim (λ q. omega arith) (⊎_elim (λ q. omega arith) (⊎_elim (λ q. omega arith) (λ q. omega arith))) at

    first_out : mesh_of R d z 1 ≡ true → mesh_of R d z 0 ≡ true
    first_out on = by (step_says R fine d z 1 on)
      where
        by : StepOf R d z 1 → mesh_of R d z 0 ≡ true
        by (fresh_step at lt) = absurd (not_fresh at)
        by (split_step s m r e row) =
            subst (λ (y : ℕ). mesh_of R d y 0 ≡ true) (sym e)
            (split_on R d s m r 0 (⊎_elim (λ i. inr (inl (refl, omega arith))) (⊎_elim (λ i. absurd (omega arith)) (λ i. absurd (omega arith))) row))

    last_out : mesh_of R d z (side (other d) R.w R.h) ≡ true → mesh_of R d z (side (other d) R.w R.h + 1) ≡ true
    last_out on = by (step_says R fine d z _ on)
      where
        by : StepOf R d z (side (other d) R.w R.h) → mesh_of R d z (side (other d) R.w R.h + 1) ≡ true
        by (fresh_step at lt) = absurd (not_fresh at)
        by (split_step s m r e row) =
            subst (λ (y : ℕ). mesh_of R d y (side (other d) R.w R.h + 1) ≡ true) (sym e)
            (split_on R d s m r (side (other d) R.w R.h + 1)
            (⊎_elim (λ i. inr (inr (refl, omega arith))) (⊎_elim (λ i. absurd (omega arith)) (λ i. absurd (omega arith))) row))

  pub blends_tell_lines : Coarser (mesh_of P) (mesh_of R)
  blends_tell_lines d z k on = by (step_says P ok d z k on)
    where
      by : StepOf P d z k → mesh_of R d z k ≡ true
      by (fresh_step at lt) =
          fresh_line R.w R.h R.splits d z k (subst (λ (n : ℕ). AtFresh n z) (sym (sides d)) at) (omega (arith, sides (other d)))
      by (split_step s m r e row) =
          let f = sides (other d) in
          ⊎_elim (λ q. inside_told d z k (omega arith) (omega arith) (omega arith) (omega arith) on)
          (⊎_elim
          (λ q. subst (λ (n : ℕ). mesh_of R d z n ≡ true) (sym q.0) (first_out d z (omega arith, omega arith) (told 1 (omega arith) (omega arith))))
          (λ q. subst (λ (n : ℕ). mesh_of R d z n ≡ true) (omega arith) (last_out d z (omega arith, omega arith) (told _ (omega arith) (omega arith)))))
          row
        where
          -- the split's own steps
          told : (n : ℕ) → s.from + 1 ≤ n → n < s.to + 1 → mesh_of R d z n ≡ true
          told n lo hi =
              inside_told d z n (omega arith) (omega arith) (omega arith) (omega arith)
              (subst (λ (y : ℕ). mesh_of P d y n ≡ true) (sym e) (split_on P d s m r n (inl (lo, hi))))
