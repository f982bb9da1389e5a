-- A line is sound exactly when both its ends are good.
use Prim.Native.Nat.{ℕ, ◌+◌, ◌-◌, ◌≤◌, ◌<◌}
use native.Mathlib.Omega.{arith}
use mathlib.Core.Path.{◌≡◌, refl, sym, subst, ◌∙◌}
use mathlib.Core.Logic.{◌⊎◌, inl, inr, ⊎_elim}
use mathlib.Core.Bool.{true, false}
use mathlib.Core.List.{Memᴰ}
use lib.Dec.{eqb}
use borrow.Author.Tests.{eqb-true, eq-eqb}
use Rattle.axis.specs.Range.{any}
use Rattle.axis.specs.Triple.{knot_in}
use Rattle.axis.specs.declared.Side.{Side}
use Rattle.axis.specs.declared.Side.TheVariants.{Lower as lower, Upper as upper}
use Rattle.axis.proofs.Tests.{either, true_not_false, false_of, and_both, and_of, or_either, or_left, or_right, any_at, any_of}
use Rattle.axis.proofs.Runs.{if_equal}
use Rattle.axis.proofs.Sides.{KnotIn, part_says, part_test, Clear, half_clear, still_clear}
use Rattle.mesh.specs.Lines.{other, side, Mesh, Layout, mesh_of, on_line}
use Rattle.mesh.specs.declared.Direction.{Direction}
use Rattle.mesh.specs.Blends.{crossed, along, cuts, halve, is_cut, RiseB}
use Rattle.mesh.specs.Order.{Comes, here, cut}
use Rattle.mesh.specs.Sound.{sound}
use Rattle.mesh.specs.Splits.{live_of, with_line, sound_with}
use Rattle.mesh.specs.Ends.{gap_ends, back, abreast, good_end}
use Rattle.mesh.specs.declared.Split.{Split}
use Rattle.mesh.specs.declared.Blend.{Blend}
use Rattle.mesh.specs.Crossings.{Built}
use Rattle.mesh.proofs.Cuts.{cut_fact, halve_rises, crossed_rises}
use Rattle.mesh.proofs.Order.{some_half, left_uncut}
use Rattle.mesh.proofs.Fresh.{fresh_line}
use Rattle.mesh.proofs.Quadrants.{four_sound}
use Rattle.mesh.proofs.View.{View}
use Rattle.mesh.proofs.Neighbours.{Abreast, line_ends, inward, outward}
use Rattle.mesh.proofs.Filling.{Good, edge, line, blends, edge_of, Drawn}
use Rattle.mesh.proofs.OneLineMore.{Ranged, Row, end_of, more_finer, step_drawn, step_either}
use Rattle.mesh.proofs.TightMaps.{view_of, tight_view, still_built, abreast_level, twice, live_rises}
use Rattle.mesh.proofs.SoundLines.{cut_either, halve_same, halve_cross, from_before, unless_cut, line_four}

module _ (P : Layout) (d : Direction) (z : ℕ) (e : Side) (k : ℕ) where
  abbrev Q : View
  Q = view_of d P

  abreast_says : (A B : Blend) → Memᴰ A (live_of P) → Memᴰ B (live_of P) → abreast d z e k A B ≡ true → Abreast Q e z k
  abreast_says A B mA mB t =
      let a = and_both _ _ t in
      let b = and_both _ _ a.0 in
      let c = and_both _ _ b.0 in
      let f = and_both _ _ c.0 in
      record {
        reach = back e (along d A);
        at = at;
        live = live;
        over = over f.0 f.1;
        anchored = anchored (eqb-true _ _ c.1) (eqb-true _ _ b.1);
        reaches = reaches (eqb-true _ _ a.1);
      }
    where
      at : Side → Blend
      at upper = A
      at lower = B

      live : (x : Side) → Memᴰ (at x) (live_of P)
      live upper = mA
      live lower = mB

      over : knot_in upper z (crossed d A) ≡ true → knot_in lower z (crossed d B) ≡ true → (x : Side) → KnotIn x z (crossed d (at x))
      over p q upper = part_says upper z (crossed d A) p
      over p q lower = part_says lower z (crossed d B) q

      anchored : (along d A).m ≡ k → (along d B).m ≡ k → (x : Side) → (along d (at x)).m ≡ k
      anchored p q upper = p
      anchored p q lower = q

      reaches : back e (along d A) ≡ back e (along d B) → (x : Side) → back e (along d (at x)) ≡ back e (along d A)
      reaches p upper = refl
      reaches p lower = sym p

  abreast_of : Abreast Q e z k → any (λ A. any (abreast d z e k A) (live_of P)) (live_of P) ≡ true
  abreast_of b =
      any_of _ (live_of P) (b.at upper) (b.live upper)
      (any_of _ (live_of P) (b.at lower) (b.live lower)
      (and_of _ _
      (and_of _ _
      (and_of _ _ (and_of _ _ (part_test upper z (crossed d (b.at upper)) (b.over upper)) (part_test lower z (crossed d (b.at lower)) (b.over lower)))
      (eq-eqb _ _ (b.anchored upper))) (eq-eqb _ _ (b.anchored lower)))
      (eq-eqb _ _ (b.reaches upper ∙ sym (b.reaches lower)))))

-- where an end of a line may be
abbrev Room : Layout → Direction → Side → ℕ → Type 0
Room P d lower k = (1 ≤ k) × (k < side (other d) P.w P.h + 1)
Room P d upper k = (1 < k) × (k ≤ side (other d) P.w P.h + 1)

inner_room : (P : Layout) (d : Direction) (e : Side) (k : ℕ) → Room P d e k → (k ≡ edge_of (view_of d P) e → ⊥) →
    (1 < k) × (k < side (other d) P.w P.h + 1)
inner_room P d lower k r ne = (omega arith, omega arith)
inner_room P d upper k r ne = (omega arith, omega arith)

-- a gap's end: the domain's edge, or a line that goes on
pub gap_either : (P : Layout) (d : Direction) (z : ℕ) (e : Side) (k : ℕ) → gap_ends P d z e k ≡ true →
    (k ≡ edge_of (view_of d P) e) ⊎ (mesh_of P d z (outward e k) ≡ true)
gap_either P d z lower k t = ⊎_elim (λ q. inl (eqb-true _ _ q)) inr (or_either _ _ t)
gap_either P d z upper k t = ⊎_elim (λ q. inl (eqb-true _ _ q)) inr (or_either _ _ t)

pub gap_edge : (P : Layout) (d : Direction) (z : ℕ) (e : Side) (k : ℕ) → k ≡ edge_of (view_of d P) e → gap_ends P d z e k ≡ true
gap_edge P d z lower k q = or_left _ _ (eq-eqb _ _ q)
gap_edge P d z upper k q = or_left _ _ (eq-eqb _ _ q)

pub gap_line : (P : Layout) (d : Direction) (z : ℕ) (e : Side) (k : ℕ) → mesh_of P d z (outward e k) ≡ true → gap_ends P d z e k ≡ true
gap_line P d z lower k q = or_right (eqb k 1) _ q
gap_line P d z upper k q = or_right (eqb k (side (other d) P.w P.h + 1)) _ q

pub gap_good : (P : Layout) (d : Direction) (z : ℕ) (e : Side) (k : ℕ) → gap_ends P d z e k ≡ true → good_end P d z e k ≡ true
unfolding good_end
gap_good P d z e k t = or_left _ _ t

pub good_says : (P : Layout) (d : Direction) (z : ℕ) (e : Side) (k : ℕ) → Room P d e k → good_end P d z e k ≡ true → Good (view_of d P) e z k
unfolding good_end
good_says P d z e k room t =
    if_equal k (edge_of (view_of d P) e) edge
    (λ ne. let inner = inner_room P d e k room ne in
    ⊎_elim (λ on. line inner on)
    (λ off. ⊎_elim (λ g. absurd (⊎_elim ne (λ on. true_not_false _ on off) (gap_either P d z e k g)))
    (λ g. let a = any_at (λ A. any (abreast d z e k A) (live_of P)) (live_of P) g in
    let c = any_at (abreast d z e k a.0) (live_of P) a.2 in
    blends inner off (abreast_says P d z e k a.0 c.0 a.1 c.1 c.2))
    (or_either (gap_ends P d z e k) (any (λ A. any (abreast d z e k A) (live_of P)) (live_of P)) t))
    (either (mesh_of P d z (outward e k))))

pub good_of : (P : Layout) (d : Direction) (z : ℕ) (e : Side) (k : ℕ) → Good (view_of d P) e z k → good_end P d z e k ≡ true
unfolding good_end
good_of P d z e k (edge q) = or_left _ _ (gap_edge P d z e k q)
good_of P d z e k (line i on) = or_left _ _ (gap_line P d z e k on)
good_of P d z e k (blends i off a) = or_right (gap_ends P d z e k) _ (abreast_of P d z e k a)

comes_clear : {M : Mesh} (d : Direction) (z : ℕ) {B C : Blend} → RiseB B → Clear z (crossed d B) → Comes M B C → Clear z (crossed d C)
comes_clear d z r c here = c
comes_clear {M} d z {B} r c (cut e y s p rest) =
    comes_clear d z (halve_rises e s y B r (cut_fact M e y B p).inside)
    (⊎_elim
    (λ f. subst (λ (i : Direction). Clear z (crossed d (halve i s y B))) (sym f.0)
    (subst (Clear z) (sym (halve_same d s y B).0) (still_clear s y z (crossed d B) (crossed_rises d B r) f.1 c)))
    (λ f. subst (λ (i : Direction). Clear z (crossed d (halve i s y B))) (sym f.0) (subst (Clear z) (sym (halve_cross d s y B).0) c))
    (cut_either M d e y B p))
    rest

pub end_room : (P : Layout) (s : Split) (d : Direction) → Ranged P.w P.h d s → (e : Side) → Room P d e (end_of e s)
end_room P s d r lower = (omega arith, omega arith)
end_room P s d r upper = (omega arith, omega arith)

-- A split in range at d, whose rows are free:
module _ (P : Layout) (b : Built P) (s : Split) (d : Direction) (r : Ranged P.w P.h d s)
    (free : (k : ℕ) → s.from + 1 ≤ k → k < s.to + 1 → mesh_of P d (s.position + 1) k ≡ false) where
  abbrev z : ℕ
  z = s.position + 1

  abbrev run : ℕ
  run = side (other d) P.w P.h

  drawn_line : ((e : Side) → Good (view_of d P) e z (end_of e s)) → Drawn (view_of d P) z (s.from + 1) (s.to + 1) (mesh_of (with_line P s) d z)
  drawn_line good =
      record {
        inner = r.inner;
        range = r.range;
        free = free;
        old = λ k on. more_finer P s d z k on;
        new = λ k lo hi. step_drawn P s d r k (inl (lo, hi));
        out_below = λ e. step_drawn P s d r 0 (inr (inl (refl, e)));
        out_above = λ e. step_drawn P s d r (run + 1) (inr (inr (refl, e)));
        only = λ k le on. ⊎_elim inl (λ q. inr q.2) (step_either P s d r d z k on);
        low_end = good lower;
        high_end = good upper;
      }

  -- Good ends leave a sound map,
  pub good_sound : ((e : Side) → good_end P d z e (end_of e s) ≡ true) → sound_with P s ≡ true
  good_sound good =
      four_sound P.w P.h b.wide b.high (with_line P s).splits
      (line_four P b s d r (drawn_line (λ e. good_says P d z e (end_of e s) (end_room P s d r e) (good e))))

  -- and lie on crossing lines.
  pub good_on_line : (e : Side) → good_end P d z e (end_of e s) ≡ true → on_line (mesh_of P) (other d) (end_of e s) z ≡ true
  unfolding on_line
  good_on_line e good = or_left _ _ (by e (good_says P d z e (end_of e s) (end_room P s d r e) good))
    where
      inside : z < side (other (other d)) P.w P.h + 2
      inside = subst (λ (f : Direction). z < side f P.w P.h + 2) (sym (twice d)) (omega arith)

      by : (e : Side) → Good (view_of d P) e z (end_of e s) → mesh_of P (other d) (end_of e s) z ≡ true
      by lower (edge q) = fresh_line P.w P.h P.splits (other d) (s.from + 1) z (inr (inl q)) inside
      by upper (edge q) = fresh_line P.w P.h P.splits (other d) (s.to + 1) z (inr (inr (inl q))) inside
      by lower (line i on) =
          (abreast_level P b d
          (line_ends (view_of d P) (tight_view P b d) z (s.from + 1) (omega arith, omega arith) i upper on
          (free (s.from + 1) (omega arith) (omega arith))).abreast).1
      by upper (line i on) =
          (abreast_level P b d
          (line_ends (view_of d P) (tight_view P b d) z (s.to + 1) (omega arith, omega arith) i lower on
          (free (s.to + 1 - 1) (omega arith) (omega arith))).abreast).1
      by lower (blends i off q) = (abreast_level P b d q).1
      by upper (blends i off q) = (abreast_level P b d q).1

  -- A sound map is left only by good ends, if the ends lie on crossing lines and the split cuts something.
  module _ (on_lines : (e : Side) → on_line (mesh_of P) (other d) (end_of e s) z ≡ true) (some_cut : any (is_cut (mesh_of (with_line P s))) (live_of P) ≡ true)
      (still : sound_with P s ≡ true) where
    pub built_on : Built (with_line P s)
    unfolding sound
    built_on =
        let c = any_at (is_cut (mesh_of (with_line P s))) (live_of P) some_cut in
        still_built P b s d r (and_both _ _ still).0 on_lines c.0 c.1 c.2

    -- the blends beside an end are blends of the map before: the line would have cut them
    abreast_before : (e : Side) (k : ℕ) → Abreast (view_of d (with_line P s)) e z k → Abreast (view_of d P) e z k
    abreast_before e k q =
        record {
          reach = q.reach;
          at = q.at;
          live = λ x. before x (q.at x) (q.live x) (q.over x);
          over = q.over;
          anchored = q.anchored;
          reaches = q.reaches;
        }
      where
        before : (x : Side) (B : Blend) → Memᴰ B (live_of (with_line P s)) → KnotIn x z (crossed d B) → Memᴰ B (live_of P)
        before x B m p =
            let f = from_before P b s d r B m in
            ⊎_elim
            (λ c. let g = cut_fact (mesh_of (with_line P s)) d z f.0 c in
            let rise = live_rises P b f.0 f.1 in
            let h = some_half (mesh_of (with_line P s)) d z rise g f.2.comes f.2.uncut in
            absurd (comes_clear d z (halve_rises d h.0 z f.0 rise g.inside)
            (subst (Clear z) (sym (halve_same d h.0 z f.0).0) (half_clear h.0 z (crossed d f.0) g.inside)) h.1.comes x p))
            (λ off. let is = left_uncut (unless_cut P b s d r f.0 f.1 off) f.2 in subst (λ (C : Blend). Memᴰ C (live_of P)) (sym is) f.1)
            (either (cuts (mesh_of (with_line P s)) d z f.0))

    pub sound_good : (e : Side) → good_end P d z e (end_of e s) ≡ true
    sound_good e = good_of P d z e (end_of e s) (by e)
      where
        drawn_in : (e : Side) → mesh_of (with_line P s) d z (inward e (end_of e s)) ≡ true
        drawn_in lower = step_drawn P s d r (s.from + 1) (inl (omega arith, omega arith))
        drawn_in upper = step_drawn P s d r (s.to + 1 - 1) (inl (omega arith, omega arith))

        off_row : (e : Side) → (1 < end_of e s) × (end_of e s < run + 1) → Row run s (outward e (end_of e s)) → ⊥
        off_row lower i row = ⊎_elim (λ q. omega arith) (⊎_elim (λ q. omega arith) (λ q. omega arith)) row
        off_row upper i row = ⊎_elim (λ q. omega arith) (⊎_elim (λ q. omega arith) (λ q. omega arith)) row

        by : (e : Side) → Good (view_of d P) e z (end_of e s)
        by e =
            if_equal (end_of e s) (edge_of (view_of d P) e) edge
            (λ ne. let inner = inner_room P d e (end_of e s) (end_room P s d r e) ne in
            ⊎_elim (λ on. line inner on)
            (λ off. blends inner off (abreast_before e (end_of e s) (ends e inner off)))
            (either (mesh_of P d z (outward e (end_of e s)))))
          where
            ends : (e : Side) → (1 < end_of e s) × (end_of e s < run + 1) → mesh_of P d z (outward e (end_of e s)) ≡ false →
                Abreast (view_of d (with_line P s)) e z (end_of e s)
            ends e inner off =
                (line_ends (view_of d (with_line P s)) (tight_view (with_line P s) built_on d) z (end_of e s) (omega arith, omega arith) inner e (drawn_in e)
                (false_of _ (λ on. ⊎_elim (λ t. true_not_false _ t off) (λ q. off_row e inner q.2) (step_either P s d r d z (outward e (end_of e s)) on)))
                ).abreast
