-- The grids of the live blends: a unit step on the grid of a blend is on that of something left of it, whatever cuts it.
use Prim.Native.Nat.{ℕ, ◌≤◌}
use mathlib.Core.Path.{◌≡◌}
use mathlib.Core.Bool.{true}
use mathlib.Core.List.{Memᴰ}
use Rattle.axis.specs.declared.Side.{Side}
use Rattle.axis.proofs.Tests.{and_both, and_of, within_of, within_at}
use Rattle.axis.proofs.Sides.{knot_says, knot_of, half_knot, half_step}
use Rattle.mesh.specs.Lines.{Mesh}
use Rattle.mesh.specs.declared.Direction.{Direction}
use Rattle.mesh.specs.declared.Direction.TheVariants.{Upright as upright, Level as level}
use Rattle.mesh.specs.Blends.{crossed, halve, live, RiseB}
use Rattle.mesh.specs.Order.{Left, Coarser}
use Rattle.mesh.specs.Crossings.{on_grid, OnGrid}
use Rattle.mesh.specs.declared.Blend.{Blend}
use Rattle.mesh.proofs.Cuts.{proper_rises}
use Rattle.mesh.proofs.Order.{by_cutting, left_itself, left_front, finer_back}
use Rattle.mesh.proofs.SoundMaps.{live_left, live_proper}

pub grid_says : (d : Direction) (z k : ℕ) (B : Blend) → on_grid d z k B ≡ true → OnGrid d z k B
grid_says d z k B e =
    let b = and_both _ _ e in
    let s = within_at _ _ k b.1 in
    record { knot = knot_says z (crossed d B) b.0; lo = s.0; hi = s.1 }

pub grid_of : (d : Direction) (z k : ℕ) (B : Blend) → OnGrid d z k B → on_grid d z k B ≡ true
grid_of d z k B g = and_of _ _ (knot_of z (crossed d B) g.knot) (within_of _ _ k g.lo g.hi)

halve_on_grid : (d e : Direction) (z k y : ℕ) (B : Blend) → OnGrid d z k B → (s : Side) × OnGrid d z k (halve e s y B)
unfolding halve
halve_on_grid upright upright z k y B g = let r = half_knot z y B.across g.knot in (r.0, record { knot = r.1; lo = g.lo; hi = g.hi })
halve_on_grid upright level z k y B g = let r = half_step k y B.up g.lo g.hi in (r.0, record { knot = g.knot; lo = r.1; hi = r.2 })
halve_on_grid level upright z k y B g = let r = half_step k y B.across g.lo g.hi in (r.0, record { knot = g.knot; lo = r.1; hi = r.2 })
halve_on_grid level level z k y B g = let r = half_knot z y B.up g.knot in (r.0, record { knot = r.1; lo = g.lo; hi = g.hi })

left_on_grid : (M : Mesh) (d : Direction) (z k : ℕ) (B : Blend) → RiseB B → OnGrid d z k B → (C : Blend) × Left M B C × OnGrid d z k C
left_on_grid M d z k =
    by_cutting M (λ X. OnGrid d z k X → (C : Blend) × Left M X C × OnGrid d z k C) (λ X r u g. (X, left_itself u, g))
    (λ X e y r c halves g. let s = halve_on_grid d e z k y X g in
    let n = halves s.0 s.1 in (n.0, left_front e y s.0 c n.1, n.2))

-- So a step on the grid of a live blend stays on that of one when lines are added,
module _ (w h : ℕ) (hw : 1 ≤ w) (hh : 1 ≤ h) (M N : Mesh) (finer : Coarser M N) where
  pub stays_on_grid : (d : Direction) (z k : ℕ) (B : Blend) → Memᴰ B (live w h M) → OnGrid d z k B →
      (C : Blend) × Memᴰ C (live w h N) × OnGrid d z k C
  stays_on_grid d z k B m g =
      let r = left_on_grid N d z k B (proper_rises w h B (live_proper w h hw hh M B m)) g in
      let l = (live_left w h hw hh M B).0 m in
      (r.0, (live_left w h hw hh N r.0).1 (l.0, l.1, finer_back finer l.2 r.1), r.2)

  -- and a half of one keeps its grid too.
  pub half_on_grid : (d e : Direction) (z k y : ℕ) (s : Side) (B : Blend) → Memᴰ B (live w h M) → Rattle.mesh.specs.Blends.cuts N e y B ≡ true →
      RiseB (halve e s y B) → OnGrid d z k (halve e s y B) → (C : Blend) × Memᴰ C (live w h N) × OnGrid d z k C
  half_on_grid d e z k y s B m c rise g =
      let r = left_on_grid N d z k (halve e s y B) rise g in
      let l = (live_left w h hw hh M B).0 m in
      (r.0, (live_left w h hw hh N r.0).1 (l.0, l.1, finer_back finer l.2 (left_front e y s c r.1)), r.2)
