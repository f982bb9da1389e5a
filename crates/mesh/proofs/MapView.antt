-- The views of a map: what is known of the live blends of a sound map, in the words of a view.
use Prim.Native.Nat.{ℕ, ◌+◌, ◌≤◌, ◌<◌}
use native.Mathlib.Omega.{arith}
use mathlib.Core.Path.{◌≡◌, refl}
use mathlib.Core.Logic.{inl, inr}
use mathlib.Core.Bool.{true}
use mathlib.Core.List.{List, Memᴰ}
use borrow.Author.Tests.{eqb-true}
use Rattle.axis.specs.Triple.{Knots}
use Rattle.axis.specs.declared.Side.{Side}
use Rattle.axis.specs.declared.Triple.{Triple}
use Rattle.axis.proofs.Tests.{true_not_false, and_both, and_of, every_at}
use Rattle.axis.proofs.Runs.{if_equal}
use Rattle.axis.proofs.Triples.{half_knots, First, is_low, is_high}
use Rattle.axis.proofs.Parts.{first, first_lies}
use Rattle.axis.proofs.Sides.{lies_of, lies_at}
use Rattle.mesh.specs.Lines.{other, side, Mesh, mesh}
use Rattle.mesh.specs.declared.Direction.{Direction}
use Rattle.mesh.specs.declared.Direction.TheVariants.{Upright as upright, Level as level}
use Rattle.mesh.specs.Blends.{blend, crossed, along, cuts, halve, live, first_four, RiseB}
use Rattle.mesh.specs.Order.{Comes, here, cut}
use Rattle.mesh.specs.Sound.{four_everywhere}
use Rattle.mesh.specs.declared.Split.{Split}
use Rattle.mesh.specs.declared.Blend.{Blend}
use Rattle.mesh.proofs.Cuts.{Cut, cut_fact, cut_test, halve_rises, halve_within}
use Rattle.mesh.proofs.Fresh.{first_four_lem, first_four_rises, first_crossed, fresh_line}
use Rattle.mesh.proofs.SoundMaps.{live_left}
use Rattle.mesh.proofs.Quadrants.{quadrant, left_quadrant, first_in_four, one_quadrant, crossed_in, facts, fresh_clear}
use Rattle.mesh.proofs.View.{View, Over, OneWay, SoundView, turn_sound}

-- A blend's grid lies on lines: so it does of the first four, and a cut keeps it.
abbrev pub Grid : Mesh → Blend → Type 0
Grid M B = (d : Direction) (k : ℕ) → (along d B).l ≤ k → k < (along d B).r → Knots (λ (z : ℕ). M d z k ≡ true) (crossed d B)

halve_grid : (M : Mesh) (e : Direction) (s : Side) (z : ℕ) (B : Blend) → RiseB B → Cut M e z B → Grid M B → Grid M (halve e s z B)
unfolding halve
halve_grid M upright s z B r c g upright k lo hi = half_knots (λ (n : ℕ). M upright n k ≡ true) s z B.across (g upright k lo hi) (c.covered k lo hi)
halve_grid M upright s z B r c g level k lo hi = let w = (halve_within upright s z B r c.inside).across in g level k (omega arith) (omega arith)
halve_grid M level s z B r c g upright k lo hi = let w = (halve_within level s z B r c.inside).up in g upright k (omega arith) (omega arith)
halve_grid M level s z B r c g level k lo hi = half_knots (λ (n : ℕ). M level n k ≡ true) s z B.up (g level k lo hi) (c.covered k lo hi)

comes_grid : {M : Mesh} {B C : Blend} → RiseB B → Grid M B → Comes M B C → Grid M C
comes_grid r g here = g
comes_grid {M} {B} r g (cut d z s p c) =
    let f = cut_fact M d z B p in comes_grid (halve_rises d s z B r f.inside) (halve_grid M d s z B r f g) c

-- the map with its uprights upright, or with its levels so
abbrev pub view : Direction → ℕ → ℕ → Mesh → View
view d w h M =
    record {
      w = side d w h;
      h = side (other d) w h;
      across = crossed d;
      up = along d;
      uprights = M d;
      levels = M (other d);
      blends = live w h M;
    }

module _ (w h : ℕ) (hw : 1 ≤ w) (hh : 1 ≤ h) (splits : List Split) where
  abbrev M : Mesh
  M = mesh w h splits

  first_grid : (B : Blend) → Memᴰ B (first_four w h) → Grid M B
  first_grid B m d k lo hi =
      let f = first_four_lem w h B m in
      knots (crossed d B) (first_crossed w h d B f) (inside (along d B) (first_crossed w h (other d) B f))
    where
      inside : (t : Triple) → First (side (other d) w h) t → k < t.r → k < side (other d) w h + 2
      inside t is_low lt = omega arith
      inside t is_high lt = lt

      knots : (t : Triple) → First (side d w h) t → (k < (along d B).r → k < side (other d) w h + 2) → Knots (λ (z : ℕ). M d z k ≡ true) t
      knots t is_low lt =
          record {
            l = fresh_line w h splits d _ k (inl refl) (lt hi);
            m = fresh_line w h splits d _ k (inr (inl refl)) (lt hi);
            r = fresh_line w h splits d _ k (inr (inr (inl refl))) (lt hi);
          }
      knots t is_high lt =
          record {
            l = fresh_line w h splits d _ k (inr (inl refl)) (lt hi);
            m = fresh_line w h splits d _ k (inr (inr (inl refl))) (lt hi);
            r = fresh_line w h splits d _ k (inr (inr (inr refl))) (lt hi);
          }

  pub live_grid : (B : Blend) → Memᴰ B (live w h M) → Grid M B
  live_grid B m =
      let l = (live_left w h hw hh M B).0 m in comes_grid (first_four_rises w h hw hh l.0 l.1) (first_grid l.0 l.1) l.2.comes

  pub one_way : (d : Direction) → OneWay (view d w h M)
  one_way d =
      record {
        wide = positive d;
        rises = λ B m. crossed_in d (facts w h hw hh splits B m);
        near = λ B m e.
            let r = crossed_in d (facts w h hw hh splits B m) in
            if_equal (crossed d B).m 1 (λ e. e)
            (λ ne. absurd (fresh_clear w h hw hh splits B m d 1 (inl refl) (record { lo = omega arith; hi = omega arith; off = λ f. ne (omega arith) })));
        far = λ B m e.
            let r = crossed_in d (facts w h hw hh splits B m) in
            if_equal (crossed d B).m (side d w h + 1) (λ e. e)
            (λ ne. absurd (fresh_clear w h hw hh splits B m d (side d w h + 1) (inr refl)
            (record { lo = omega arith; hi = omega arith; off = λ f. ne (omega arith) })));
        grid = λ B m k lo hi. live_grid B m d k lo hi;
        clear = λ B m z i c.
            let l = (live_left w h hw hh M B).0 m in
            true_not_false (cuts M d z B) (cut_test M d z B (record { inside = i; covered = c })) (l.2.uncut d z);
      }
    where
      positive : (d : Direction) → 1 ≤ side d w h
      positive upright = hw
      positive level = hh

  quadrant_of : (x y : Side) (j k : ℕ) (B : Blend) → Over (view upright w h M) x y j k B → quadrant x y j k B ≡ true
  quadrant_of x y j k B o = and_of _ _ (lies_of x j B.across o.column) (lies_of y k B.up o.row)

  upright_view : four_everywhere w h (live w h M) ≡ true → SoundView (view upright w h M)
  unfolding four_everywhere
  upright_view four =
      record {
        x = one_way upright;
        y = one_way level;
        one = λ x y j k B C hj hk p q.
            one_quadrant w h hw hh M j k hj hk
            (eqb-true _ _ (every_at 1 h _ (every_at 1 w _ four j hj.0 hj.1) k hk.0 hk.1)) x y B C p.live q.live
            (quadrant_of x y j k B p) (quadrant_of x y j k C q);
        some = λ x y j k hj hk.
            let B = blend (first x w) (first y h) in
            let m = first_in_four x y w h in
            let r = left_quadrant M x y j k B (first_four_rises w h hw hh B m) (and_of _ _ (first_lies x w j hj) (first_lies y h k hk)) in
            let b = and_both _ _ r.2 in (
              r.0,
              record {
                live = (live_left w h hw hh M r.0).1 (B, m, r.1);
                column = lies_at x j r.0.across b.0;
                row = lies_at y k r.0.up b.1;
              },
            );
      }

  pub sound_view : (d : Direction) → four_everywhere w h (live w h M) ≡ true → SoundView (view d w h M)
  sound_view upright four = upright_view four
  sound_view level four = turn_sound (view upright w h M) (upright_view four)
