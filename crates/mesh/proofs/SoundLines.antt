-- A line between good ends leaves a sound map: what it leaves of each blend, and that no square has two of them in one quadrant.
use Prim.Native.Nat.{ℕ, ◌+◌, ◌-◌, ◌≤◌, ◌<◌}
use native.Mathlib.Omega.{arith}
use mathlib.Core.Path.{◌≡◌, refl, sym, ap, subst, ◌∙◌}
use mathlib.Core.Logic.{◌⊎◌, inl, inr, ⊎_elim}
use mathlib.Core.Bool.{true, false}
use mathlib.Core.List.{Memᴰ}
use borrow.Author.Tests.{eq-eqb}
use Rattle.axis.specs.Triple.{triple, half, Rise, Knots, OnSide}
use Rattle.axis.specs.declared.Side.{Side}
use Rattle.axis.specs.declared.Side.TheVariants.{Lower as lower, Upper as upper}
use Rattle.axis.specs.declared.Triple.{Triple}
use Rattle.axis.proofs.Tests.{either, true_not_false, false_of, and_both, every_of}
use Rattle.axis.proofs.Triples.{Inside, half_rises, half_within, half_knots, triple_eq}
use Rattle.axis.proofs.Parts.{lies, beside}
use Rattle.axis.proofs.Counts.{one_at_most}
use Rattle.axis.proofs.Runs.{if_equal, neither}
use Rattle.axis.proofs.Sides.{KnotIn, opposite, from, to, knot_step, lies_at, step_beside, part_within, knot_between, halves_of, kept, kept_is, kept_in, kept_inside, kept_rises, kept_away, one_part, part_of, inside_of, StepIn}
use Rattle.mesh.specs.Lines.{number, other, side, Mesh, Layout, mesh_of}
use Rattle.mesh.specs.declared.Direction.{Direction}
use Rattle.mesh.specs.declared.Direction.TheVariants.{Upright as upright, Level as level}
use Rattle.mesh.specs.Blends.{crossed, along, cuts, halve, live}
use Rattle.mesh.specs.Order.{Uncut, Comes, here, cut, Left}
use Rattle.mesh.specs.Sound.{four_everywhere}
use Rattle.mesh.specs.Splits.{live_of, with_line}
use Rattle.mesh.specs.declared.Split.{Split}
use Rattle.mesh.specs.declared.Blend.{Blend}
use Rattle.mesh.specs.Crossings.{Built}
use Rattle.mesh.proofs.Cuts.{cut_fact, cut_test}
use Rattle.mesh.proofs.Order.{some_half, left_uncut, finer}
use Rattle.mesh.proofs.Fresh.{first_four_rises}
use Rattle.mesh.proofs.SoundMaps.{live_left, live_distinct}
use Rattle.mesh.proofs.Quadrants.{quadrant, four_of}
use Rattle.mesh.proofs.View.{View, Live, Over, SoundView, TightView}
use Rattle.mesh.proofs.AnchorsCross.{crossing_anchored}
use Rattle.mesh.proofs.Filling.{Holding, agree, level_covers, Drawn, CutBy, Piece, taken_too}
use Rattle.mesh.proofs.OneLineMore.{Ranged, more_finer, step_either}
use Rattle.mesh.proofs.TightMaps.{view_of, tight_view, live_rises, only_there}

-- No live blend's anchor lies strictly inside another's support, in the words of a view.
pub unnested : (Q : View) (s : SoundView Q) (E X : Blend) → Live Q E → Live Q X → ((Q.across X).l < (Q.across E).m) × ((Q.across E).m < (Q.across X).r) →
    ((Q.up X).l < (Q.up E).m) × ((Q.up E).m < (Q.up X).r) → E ≡ X
unnested Q s E X mE mX a u =
    let wx = s.x.rises X mX in
    let wy = s.y.rises X mX in
    let p = beside Q.w (Q.across E) (Q.across X) s.x.wide (s.x.rises E mE) wx a.0 a.1
    (λ i. i.off (sym (s.x.near X mX (omega arith)))) (λ i. i.off (sym (s.x.far X mX (omega arith)))) in
    let q = beside Q.h (Q.up E) (Q.up X) s.y.wide (s.y.rises E mE) wy u.0 u.1
    (λ i. i.off (sym (s.y.near X mX (omega arith)))) (λ i. i.off (sym (s.y.far X mX (omega arith)))) in
    s.one p.0 q.0 p.1 q.1 E X p.2 q.2
    (record { live = mE; column = lies_at p.0 p.1 _ p.3; row = lies_at q.0 q.1 _ q.3 })
    (record { live = mX; column = lies_at p.0 p.1 _ p.4; row = lies_at q.0 q.1 _ q.4 })

-- A cut by a line of a view's uprights, or of its levels; and what it makes of the two triples.
pub cut_either : (M : Mesh) (d e : Direction) (y : ℕ) (B : Blend) → cuts M e y B ≡ true →
    ((e ≡ d) × Inside y (crossed d B) × ((k : ℕ) → (along d B).l ≤ k → k < (along d B).r → M d y k ≡ true)) ⊎
    ((e ≡ other d) × Inside y (along d B) × ((j : ℕ) → (crossed d B).l ≤ j → j < (crossed d B).r → M (other d) y j ≡ true))
cut_either M upright upright y B c = let f = cut_fact M upright y B c in inl (refl, f.inside, f.covered)
cut_either M upright level y B c = let f = cut_fact M level y B c in inr (refl, f.inside, f.covered)
cut_either M level upright y B c = let f = cut_fact M upright y B c in inr (refl, f.inside, f.covered)
cut_either M level level y B c = let f = cut_fact M level y B c in inl (refl, f.inside, f.covered)

pub level_cuts : (M : Mesh) (d : Direction) (y : ℕ) (B : Blend) → Inside y (along d B) →
    ((j : ℕ) → (crossed d B).l ≤ j → j < (crossed d B).r → M (other d) y j ≡ true) → cuts M (other d) y B ≡ true
level_cuts M upright y B i c = cut_test M level y B (record { inside = i; covered = c })
level_cuts M level y B i c = cut_test M upright y B (record { inside = i; covered = c })

pub halve_same : (d : Direction) (s : Side) (y : ℕ) (B : Blend) → (crossed d (halve d s y B) ≡ half s y (crossed d B)) × (along d (halve d s y B) ≡ along d B)
unfolding halve
halve_same upright s y B = (refl, refl)
halve_same level s y B = (refl, refl)

pub halve_cross : (d : Direction) (s : Side) (y : ℕ) (B : Blend) →
    (crossed d (halve (other d) s y B) ≡ crossed d B) × (along d (halve (other d) s y B) ≡ half s y (along d B))
unfolding halve
halve_cross upright s y B = (refl, refl)
halve_cross level s y B = (refl, refl)

blend_eq : (d : Direction) (B C : Blend) → crossed d B ≡ crossed d C → along d B ≡ along d C → B ≡ C
blend_eq upright B C p q = λ i. record { across = p i; up = q i }
blend_eq level B C p q = λ i. record { across = q i; up = p i }

-- a square's quadrant, in the words of a view
abbrev pick : Direction → Side → Side → Side
pick upright p q = p
pick level p q = q

in_view : (d : Direction) (p q : Side) (x y : ℕ) (B : Blend) → quadrant p q x y B ≡ true →
    StepIn (pick d p q) (side d x y) (crossed d B) × StepIn (pick (other d) p q) (side (other d) x y) (along d B)
in_view d p q x y B e = by d (lies_at p x B.across b.0) (lies_at q y B.up b.1)
  where
    b : (lies p x B.across ≡ true) × (lies q y B.up ≡ true)
    b = and_both (lies p x B.across) (lies q y B.up) e

    by : (d : Direction) → StepIn p x B.across → StepIn q y B.up →
        StepIn (pick d p q) (side d x y) (crossed d B) × StepIn (pick (other d) p q) (side (other d) x y) (along d B)
    by upright i k = (i, k)
    by level i k = (k, i)

on_side : (d : Direction) (w h x y : ℕ) → OnSide w x → OnSide h y → OnSide (side d w h) (side d x y) × OnSide (side (other d) w h) (side (other d) x y)
on_side upright w h x y i k = (i, k)
on_side level w h x y i k = (k, i)

-- A line that adds steps at one position only, in a gap between good ends.
module _ (P : Layout) (b : Built P) (s : Split) (d : Direction) (r : Ranged P.w P.h d s) where
  abbrev N : Mesh
  N = mesh_of (with_line P s)

  abbrev z : ℕ
  z = s.position + 1

  abbrev Q : View
  Q = view_of d P

  t : TightView Q
  t = tight_view P b d

  known : SoundView Q
  known = t.is_sound

  rise_across : (B : Blend) → Live Q B → Rise (crossed d B)
  rise_across B m = let r = known.x.rises B m in omega arith

  -- elsewhere the steps are those of before
  same_elsewhere : (y k : ℕ) → (y ≡ z → ⊥) → N d y k ≡ true → mesh_of P d y k ≡ true
  same_elsewhere y k ne on = ⊎_elim (λ q. q) (λ q. absurd (ne q.1)) (step_either P s d r d y k on)

  same_across : (y j : ℕ) → N (other d) y j ≡ true → mesh_of P (other d) y j ≡ true
  same_across y j on = ⊎_elim (λ q. q) (λ q. absurd (apart d q.0)) (step_either P s d r (other d) y j on)
    where
      apart : (d : Direction) → other d ≡ d → ⊥
      apart upright e = let q : ◌≡◌ {A = ℕ} 1 0 = ap number e in omega arith
      apart level e = let q : ◌≡◌ {A = ℕ} 0 1 = ap number e in omega arith

  -- a live blend of the map before that the line does not cut is uncut
  pub unless_cut : (X : Blend) → Live Q X → cuts N d z X ≡ false → Uncut N X
  unless_cut X m off e y = false_of _ (λ c. true_not_false _ (only_there P b s d r X m e y c) off)

  -- what is left of the map before
  pub from_before : (C : Blend) → Memᴰ C (live_of (with_line P s)) → (X : Blend) × Live Q X × Left N X C
  from_before C m =
      let l = (live_left P.w P.h b.wide b.high N C).0 m in
      let f = finer (mesh_of P) N (more_finer P s) l.0 C (first_four_rises P.w P.h b.wide b.high l.0 l.1) l.2 in
      (f.0, (live_left P.w P.h b.wide b.high (mesh_of P) f.0).1 (l.0, l.1, f.1), f.2)

  -- A blend that the line cuts:
  module _ (x : Side) (X : Blend) (m : Live Q X) (p : KnotIn x z (crossed d X)) (c : CutBy Q (N d z) X) where
    abbrev F : ℕ
    F = from x (crossed d X)

    abbrev G : ℕ
    G = to x (crossed d X)

    spans : (F < z) × (z < G) × ((crossed d X).l ≤ F) × (G ≤ (crossed d X).r)
    spans =
        let k = knot_between x z (crossed d X) p in
        let w = part_within x (crossed d X) (rise_across X m) in
        (k.0, k.1, w.0, w.1)

    -- a crossing strictly inside it would be an anchor there
    no_crossing : (y v : ℕ) → ((crossed d X).l < y) × (y < (crossed d X).r) → ((along d X).l < v) × (v < (along d X).r) →
        ((y ≡ (crossed d X).m) × (v ≡ (along d X).m) → ⊥) → Q.uprights y (v - 1) ≡ true → Q.uprights y v ≡ true → Q.levels v (y - 1) ≡ true →
        Q.levels v y ≡ true → ⊥
    no_crossing y v hy hv off a e f g =
        let rx = known.x.rises X m in
        let ry = known.y.rises X m in
        let k = crossing_anchored Q t y v
        (record { across = (omega arith, omega arith); up = (omega arith, omega arith); below = a; above = e; left = f; right = g }) in
        let is = unnested Q known k.blend X k.live m (omega arith, omega arith) (omega arith, omega arith) in
        let mid = ap (λ (B : Blend). (crossed d B).m) is in
        let top = ap (λ (B : Blend). (along d B).m) is in
        off (omega arith, omega arith)

    -- The half with its anchor is not cut again.
    abbrev H : Blend
    H = halve d (opposite x) z X

    H-across : crossed d H ≡ kept x z (crossed d X)
    H-across = (halve_same d (opposite x) z X).0 ∙ kept_is x z (crossed d X) p

    kept_uncut : Uncut N H
    kept_uncut e y =
        false_of _
        (λ q.
        ⊎_elim
        (λ f. by_upright (subst (Inside y) H-across f.1) (subst (λ (T : Triple). (k : ℕ) → T.l ≤ k → k < T.r → N d y k ≡ true) up_is f.2))
        (λ f. by_level (subst (Inside y) up_is f.1) (subst (λ (T : Triple). (j : ℕ) → T.l ≤ j → j < T.r → N (other d) y j ≡ true) H-across f.2))
        (cut_either N d e y H q))
      where
        up_is : along d H ≡ along d X
        up_is = (halve_same d (opposite x) z X).1

        by_upright : Inside y (kept x z (crossed d X)) → ((k : ℕ) → (along d X).l ≤ k → k < (along d X).r → N d y k ≡ true) → ⊥
        by_upright i f =
            let q = kept_inside x z y (crossed d X) p i in known.x.clear X m y q.0 (λ k klo khi. same_elsewhere y k q.1 (f k klo khi))

        passed : Inside y (along d X) → Q.levels y ((crossed d X).m - 1) ≡ true → Q.levels y (crossed d X).m ≡ true → ⊥
        passed i f g =
            let lo = i.lo in
            let hi = i.hi in
            let off = i.off in
            let rx = known.x.rises X m in
            no_crossing (crossed d X).m y (omega arith, omega arith) (lo, hi) (λ q. off q.1) (known.x.grid X m (y - 1) (omega arith) (omega arith)).m
            (known.x.grid X m y (omega arith) (omega arith)).m f g

        by_level : Inside y (along d X) → ((j : ℕ) → (kept x z (crossed d X)).l ≤ j → j < (kept x z (crossed d X)).r → N (other d) y j ≡ true) → ⊥
        by_level i f =
            let about = kept_rises x z (crossed d X) (rise_across X m) p in
            passed i (same_across y _ (f ((crossed d X).m - 1) (omega arith) (omega arith))) (same_across y _ (f (crossed d X).m (omega arith) (omega arith)))

    -- The other half is cut by levels only, those that have a step beside the line.
    holding : (v : ℕ) → (along d X).l < v → v < (along d X).r → Holding Q t z v x X
    holding v lo hi = record { live = m; column = knot_step x z (crossed d X) p; lo = lo; hi = hi }

    abbrev column : OnSide Q.w z
    column = (omega arith, omega arith)

    covers : (v j : ℕ) → (along d X).l < v → v < (along d X).r → Q.levels v z ≡ true → F ≤ j → j < G → Q.levels v j ≡ true
    covers v j lo hi on jlo jhi = level_covers Q t z v column on x X (holding v lo hi) j jlo jhi

    record Between (D : Blend) : Type 0 where
      across : crossed d D ≡ triple F z G
      rises : Rise (along d D)
      lo : (along d X).l ≤ (along d D).l
      hi : (along d D).r ≤ (along d X).r
      knots : Knots (λ (v : ℕ). Q.levels v z ≡ true) (along d D)

    between_first : Between (halve d x z X)
    between_first =
        let e = halve_same d x z X in
        let ry = known.y.rises X m in
        let f = spans in
        record {
          across = e.0 ∙ halves_of x z (crossed d X) p;
          rises = subst Rise (sym e.1) (record { low = omega arith; high = omega arith });
          lo = subst (λ (T : Triple). (along d X).l ≤ T.l) (sym e.1) (omega arith);
          hi = subst (λ (T : Triple). T.r ≤ (along d X).r) (sym e.1) (omega arith);
          knots = subst (Knots (λ (v : ℕ). Q.levels v z ≡ true)) (sym e.1) (known.y.grid X m z (omega arith) (omega arith));
        }

    between_uncut : (D : Blend) → Between D → (y : ℕ) → Inside y (crossed d D) → ((k : ℕ) → (along d D).l ≤ k → k < (along d D).r → N d y k ≡ true) → ⊥
    between_uncut D q y i f =
        let g : Inside y (triple F z G) = subst (Inside y) q.across i in
        let lo = g.lo in
        let hi = g.hi in
        let off = g.off in
        let sp = spans in
        let v = (along d D).m in
        let on = q.knots.m in
        no_crossing y v (omega arith, omega arith) (omega arith, omega arith) (λ e. middle x p y lo hi e.0)
        (same_elsewhere y (v - 1) off (f (v - 1) (omega arith) (omega arith))) (same_elsewhere y v off (f v (omega arith) (omega arith)))
        (covers v (y - 1) (omega arith) (omega arith) on (omega arith) (omega arith)) (covers v y (omega arith) (omega arith) on (omega arith) hi)
      where
        middle : (x : Side) → KnotIn x z (crossed d X) → (y : ℕ) → from x (crossed d X) < y → y < to x (crossed d X) → y ≡ (crossed d X).m → ⊥
        middle lower p y lo hi e = omega arith
        middle upper p y lo hi e = omega arith

    between_half : (D : Blend) → Between D → (y : ℕ) (s : Side) → Inside y (along d D) →
        ((j : ℕ) → (crossed d D).l ≤ j → j < (crossed d D).r → N (other d) y j ≡ true) → Between (halve (other d) s y D)
    between_half D q y s i f =
        let e = halve_cross d s y D in
        let w = half_within s y (along d D) q.rises i in
        let sp = spans in
        let g : (j : ℕ) → F ≤ j → j < G → N (other d) y j ≡ true =
        subst (λ (T : Triple). (j : ℕ) → T.l ≤ j → j < T.r → N (other d) y j ≡ true) q.across f in
        record {
          across = e.0 ∙ q.across;
          rises = subst Rise (sym e.1) (half_rises s y (along d D) q.rises i);
          lo = subst (λ (T : Triple). (along d X).l ≤ T.l) (sym e.1) (omega arith);
          hi = subst (λ (T : Triple). T.r ≤ (along d X).r) (sym e.1) (omega arith);
          knots = subst (Knots (λ (v : ℕ). Q.levels v z ≡ true)) (sym e.1)
              (half_knots (λ (v : ℕ). Q.levels v z ≡ true) s y (along d D) q.knots (same_across y z (g z (omega arith) (omega arith))));
        }

    between_next : (D : Blend) → Between D → (e : Direction) (y : ℕ) (s : Side) → cuts N e y D ≡ true → Between (halve e s y D)
    between_next D q e y s c =
        ⊎_elim (λ f. absurd (between_uncut D q y f.1 f.2))
        (λ f. subst (λ (i : Direction). Between (halve i s y D)) (sym f.0) (between_half D q y s f.1 f.2))
        (cut_either N d e y D c)

    between_left : {D C : Blend} → Between D → Comes N D C → Between C
    between_left q here = q
    between_left {D} q (cut e y s c rest) = between_left (between_next D q e y s c) rest

    -- so of what is left of it each lies about one level, between the next ones
    piece_of : (C : Blend) → Between C → Uncut N C → Piece Q z (N d z) x X (along d C).l (along d C).m (along d C).r
    piece_of C q u =
        let sp = spans in
        let on = q.knots.m in
        let ry = known.y.rises X m in
        record {
          live = m;
          astride = p;
          cut = c;
          lo = omega arith;
          hi = omega arith;
          rises = (omega arith, omega arith, omega arith);
          left = covers (along d C).m (z - 1) (omega arith) (omega arith) on (omega arith) (omega arith);
          right = on;
          alone_left = λ i lo hi step. alone i lo hi (beside_line i lo hi step);
          alone_right = alone;
        }
      where
        alone : (i : ℕ) → (along d C).l < i → i < (along d C).r → Q.levels i z ≡ true → i ≡ (along d C).m
        alone i lo hi step =
            if_equal i (along d C).m (λ e. e)
            (λ off. absurd (true_not_false _
            (level_cuts N d i C (record { lo = lo; hi = hi; off = off })
            (λ j jlo jhi. more_finer P s (other d) i j
            (covers i j (omega arith) (omega arith) step (subst (λ (T : Triple). T.l ≤ j) q.across jlo)
            (subst (λ (T : Triple). j < T.r) q.across jhi))))
            (u (other d) i)))

        beside_line : (i : ℕ) → (along d C).l < i → i < (along d C).r → Q.levels i (z - 1) ≡ true → Q.levels i z ≡ true
        beside_line i lo hi step =
            let sp = spans in
            level_covers Q t (z - 1) i (omega arith, omega arith) step x X
            (record { live = m; column = step_beside x z (z - 1) (crossed d X) (omega arith, omega arith) p; lo = omega arith; hi = omega arith })
            z (omega arith) (omega arith)

  -- What the line leaves of the map before: a blend that it does not cut, the half with the anchor of one that it cuts, or a piece beside the line.
  data Kind (C : Blend) : Type 0 where
    whole : Live Q C → cuts N d z C ≡ false → Kind C
    kept_half : (x : Side) (X : Blend) → Live Q X → KnotIn x z (crossed d X) → CutBy Q (N d z) X → C ≡ halve d (opposite x) z X → Kind C
    piece : (x : Side) (X : Blend) → Piece Q z (N d z) x X (along d C).l (along d C).m (along d C).r →
        crossed d C ≡ triple (from x (crossed d X)) z (to x (crossed d X)) → Knots (λ (v : ℕ). Q.levels v z ≡ true) (along d C) → Kind C

  kind_of : (C : Blend) → Memᴰ C (live_of (with_line P s)) → Kind C
  kind_of C m =
      let f = from_before C m in
      ⊎_elim (λ e. cut_kind f.0 f.1 f.2 e)
      (λ e. let is = left_uncut (unless_cut f.0 f.1 e) f.2 in
      whole (subst (Live Q) (sym is) f.1) (ap (cuts N d z) is ∙ e))
      (either (cuts N d z f.0))
    where
      cut_kind : (X : Blend) → Live Q X → Left N X C → cuts N d z X ≡ true → Kind C
      cut_kind X mX l e =
          let f = cut_fact N d z X e in
          let h = some_half N d z (live_rises P b X mX) f l.comes l.uncut in
          let g = part_of z (crossed d X) f.inside in
          by X mX g.0 g.1 f.covered h.0 h.1
        where
          other_half : (X : Blend) (mX : Live Q X) (x : Side) (p : KnotIn x z (crossed d X)) (c : CutBy Q (N d z) X) → Left N (halve d x z X) C → Kind C
          other_half X mX x p c l =
              let q = between_left x X mX p c (between_first x X mX p c) l.comes in
              piece x X (piece_of x X mX p c C q l.uncut) q.across q.knots

          own_half : (X : Blend) (mX : Live Q X) (x : Side) (p : KnotIn x z (crossed d X)) (c : CutBy Q (N d z) X) →
              Left N (halve d (opposite x) z X) C → Kind C
          own_half X mX x p c l = kept_half x X mX p c (left_uncut (kept_uncut x X mX p c) l)

          by : (X : Blend) (mX : Live Q X) (x : Side) (p : KnotIn x z (crossed d X)) (c : CutBy Q (N d z) X) (w : Side) → Left N (halve d w z X) C → Kind C
          by X mX lower p c lower l = other_half X mX lower p c l
          by X mX lower p c upper l = own_half X mX lower p c l
          by X mX upper p c lower l = own_half X mX upper p c l
          by X mX upper p c upper l = other_half X mX upper p c l

  -- In one quadrant of a square lies one of them only.
  module _ (dr : Drawn Q z (s.from + 1) (s.to + 1) (N d z)) (g q : Side) (j k : ℕ) (hj : OnSide Q.w j) (hk : OnSide Q.h k) where
    cut_is : (x : Side) (X : Blend) → Live Q X → KnotIn x z (crossed d X) → CutBy Q (N d z) X → cuts N d z X ≡ true
    cut_is x X m p c = cut_test N d z X (record { inside = inside_of x z (crossed d X) (rise_across X m) p; covered = c })

    record Sits (C : Blend) : Type 0 where
      column : StepIn g j (crossed d C)
      row : StepIn q k (along d C)

    kept_sits : (x : Side) (X : Blend) → Live Q X → (p : KnotIn x z (crossed d X)) → Sits (halve d (opposite x) z X) →
        Over Q g q j k X × StepIn g j (kept x z (crossed d X))
    kept_sits x X m p o =
        let e = halve_same d (opposite x) z X in
        let i = subst (StepIn g j) (e.0 ∙ kept_is x z (crossed d X) p) o.column in
        (record { live = m; column = kept_in x z (crossed d X) p g j i; row = subst (StepIn q k) e.1 o.row }, i)

    over_whole : (C : Blend) → Live Q C → Sits C → Over Q g q j k C
    over_whole C m o = record { live = m; column = o.column; row = o.row }

    one_before : (X Y : Blend) → Over Q g q j k X → Over Q g q j k Y → X ≡ Y
    one_before X Y p o = known.one g q j k X Y hj hk p o

    -- the blends of before that a piece shares a quadrant with are cut, on the line's side of it
    taken : (x : Side) (X C : Blend) → Piece Q z (N d z) x X (along d C).l (along d C).m (along d C).r →
        crossed d C ≡ triple (from x (crossed d X)) z (to x (crossed d X)) → Sits C → (B : Blend) → Over Q g q j k B →
        KnotIn g z (crossed d B) × CutBy Q (N d z) B
    taken x X C p e o B over =
        taken_too Q t z (s.from + 1) (s.to + 1) (N d z) dr x X (along d C).l (along d C).m (along d C).r p j k hj hk g q
        (subst (StepIn g j) e o.column) o.row B over

    whole_half : (B C : Blend) → Live Q B → cuts N d z B ≡ false → (x : Side) (X : Blend) → Live Q X → KnotIn x z (crossed d X) → CutBy Q (N d z) X →
        C ≡ halve d (opposite x) z X → Sits B → Sits C → ⊥
    whole_half B C mB off x X mX p c e oB oC =
        let is = one_before B X (over_whole B mB oB) (kept_sits x X mX p (subst Sits e oC)).0 in
        true_not_false _ (cut_is x X mX p c) (ap (cuts N d z) (sym is) ∙ off)

    whole_piece : (B C : Blend) → Live Q B → cuts N d z B ≡ false → (x : Side) (X : Blend) →
        Piece Q z (N d z) x X (along d C).l (along d C).m (along d C).r →
        crossed d C ≡ triple (from x (crossed d X)) z (to x (crossed d X)) → Sits B → Sits C → ⊥
    whole_piece B C mB off x X p e oB oC =
        let r = taken x X C p e oC B (over_whole B mB oB) in
        true_not_false _ (cut_is g B mB r.0 r.1) off

    half_piece : (B C : Blend) (y : Side) (Y : Blend) → Live Q Y → KnotIn y z (crossed d Y) → CutBy Q (N d z) Y → B ≡ halve d (opposite y) z Y →
        (x : Side) (X : Blend) → Piece Q z (N d z) x X (along d C).l (along d C).m (along d C).r →
        crossed d C ≡ triple (from x (crossed d X)) z (to x (crossed d X)) → Sits B → Sits C → ⊥
    half_piece B C y Y mY pY cY is x X p e oB oC =
        let o = kept_sits y Y mY pY (subst Sits is oB) in
        let r = taken x X C p e oC Y o.0 in
        let same = one_part y g z (crossed d Y) pY r.0 in
        kept_away g z (crossed d Y) (from x (crossed d X)) (to x (crossed d X)) j
        (subst (λ (i : Side). StepIn g j (kept i z (crossed d Y))) same o.1) (subst (StepIn g j) e oC.column)

    -- two pieces have one level, and so all else
    same_level : (q : Side) (u w v a e f : ℕ) → StepIn q k (triple u w v) → StepIn q k (triple a e f) → (u < w) × (w < v) → (a < e) × (e < f) →
        ((i : ℕ) → u < i → i < v → Q.levels i z ≡ true → i ≡ w) → ((i : ℕ) → a < i → i < f → Q.levels i z ≡ true → i ≡ e) →
        Q.levels w z ≡ true → Q.levels e z ≡ true → w ≡ e
    same_level lower u w v a e f i o r p alone other won eon =
        neither w e (λ lt. let same = other w (omega arith) (omega arith) won in omega arith)
        (λ gt. let same = alone e (omega arith) (omega arith) eon in omega arith)
    same_level upper u w v a e f i o r p alone other won eon =
        neither w e (λ lt. let same = alone e (omega arith) (omega arith) eon in omega arith)
        (λ gt. let same = other w (omega arith) (omega arith) won in omega arith)

    pieces : (B C : Blend) (x y : Side) (X Y : Blend) → Piece Q z (N d z) x X (along d B).l (along d B).m (along d B).r →
        crossed d B ≡ triple (from x (crossed d X)) z (to x (crossed d X)) → Knots (λ (v : ℕ). Q.levels v z ≡ true) (along d B) →
        Piece Q z (N d z) y Y (along d C).l (along d C).m (along d C).r →
        crossed d C ≡ triple (from y (crossed d Y)) z (to y (crossed d Y)) → Knots (λ (v : ℕ). Q.levels v z ≡ true) (along d C) → Sits B → Sits C → B ≡ C
    pieces B C x y X Y p e n o f m sB sC =
        let rp = p.rises in
        let ro = o.rises in
        let w = same_level q _ _ _ _ _ _ sB.row sC.row (rp.0, rp.1) (ro.0, ro.1) p.alone_right o.alone_right p.right o.right in
        let cl : (Q.up B).l ≡ (Q.up C).l = low w in
        let cr : (Q.up B).r ≡ (Q.up C).r = high w in
        let hold : Holding Q t z (along d B).m y Y =
        record { live = o.live; column = knot_step y z (crossed d Y) o.astride; lo = omega arith; hi = omega arith } in
        let same = agree Q t z (along d B).m (omega arith, omega arith) p.right x y X Y
        (record { live = p.live; column = knot_step x z (crossed d X) p.astride; lo = p.lo; hi = p.hi }) hold in
        blend_eq d B C (e ∙ triple_eq same.0 refl same.1 ∙ sym f) (triple_eq cl w cr)
      where
        low : (along d B).m ≡ (along d C).m → (along d B).l ≡ (along d C).l
        low w =
            neither (along d B).l (along d C).l (λ lt. let is = p.alone_right (along d C).l lt (omega arith) m.l in omega arith)
            (λ lt. let is = o.alone_right (along d B).l lt (omega arith) n.l in omega arith)

        high : (along d B).m ≡ (along d C).m → (along d B).r ≡ (along d C).r
        high w =
            neither (along d B).r (along d C).r (λ lt. let is = o.alone_right (along d B).r (omega arith) lt n.r in omega arith)
            (λ lt. let is = p.alone_right (along d C).r (omega arith) lt m.r in omega arith)

    kinds : (B C : Blend) → Kind B → Kind C → Sits B → Sits C → B ≡ C
    kinds B C (whole mB f) (whole mC h) oB oC = one_before B C (over_whole B mB oB) (over_whole C mC oC)
    kinds B C (whole mB f) (kept_half x X mX p c e) oB oC = absurd (whole_half B C mB f x X mX p c e oB oC)
    kinds B C (whole mB f) (piece x X p e n) oB oC = absurd (whole_piece B C mB f x X p e oB oC)
    kinds B C (kept_half x X mX p c e) (whole mC h) oB oC = absurd (whole_half C B mC h x X mX p c e oC oB)
    kinds B C (kept_half x X mX p c e) (kept_half y Y mY o a f) oB oC =
        let is = one_before X Y (kept_sits x X mX p (subst Sits e oB)).0 (kept_sits y Y mY o (subst Sits f oC)).0 in
        let same = one_part x y z (crossed d X) p (subst (λ (D : Blend). KnotIn y z (crossed d D)) (sym is) o) in
        e ∙ ap (λ (D : Blend). halve d (opposite x) z D) is ∙ ap (λ (i : Side). halve d (opposite i) z Y) same ∙ sym f
    kinds B C (kept_half y Y mY o a f) (piece x X p e n) oB oC = absurd (half_piece B C y Y mY o a f x X p e oB oC)
    kinds B C (piece x X p e n) (whole mC h) oB oC = absurd (whole_piece C B mC h x X p e oC oB)
    kinds B C (piece x X p e n) (kept_half y Y mY o a f) oB oC = absurd (half_piece C B y Y mY o a f x X p e oC oB)
    kinds B C (piece x X p e n) (piece y Y o f m) oB oC = pieces B C x y X Y p e n o f m oB oC

  -- So exactly four lie over each square.
  pub line_four : Drawn Q z (s.from + 1) (s.to + 1) (N d z) → four_everywhere P.w P.h (live_of (with_line P s)) ≡ true
  unfolding four_everywhere
  line_four dr =
      every_of 1 P.w _ (λ x lx hx. every_of 1 P.h _ (λ y ly hy.
      eq-eqb _ _
      (four_of P.w P.h b.wide b.high N x y (lx, hx) (ly, hy)
      (λ p q. one_at_most (quadrant p q x y) (live P.w P.h N) (live_distinct P.w P.h b.wide b.high N)
      (one p q x y (lx, hx) (ly, hy))))))
    where
      one : (p q : Side) (x y : ℕ) → OnSide P.w x → OnSide P.h y → (B C : Blend) → Memᴰ B (live_of (with_line P s)) →
          Memᴰ C (live_of (with_line P s)) → quadrant p q x y B ≡ true → quadrant p q x y C ≡ true → B ≡ C
      one p q x y hx hy B C mB mC e f =
          let hs = on_side d P.w P.h x y hx hy in
          let i = in_view d p q x y B e in
          let k = in_view d p q x y C f in
          kinds dr (pick d p q) (pick (other d) p q) (side d x y) (side (other d) x y) hs.0 hs.1 B C (kind_of B mB) (kind_of C mC)
          (record { column = i.0; row = i.1 }) (record { column = k.0; row = k.1 })
