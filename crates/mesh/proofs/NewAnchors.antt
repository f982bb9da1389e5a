-- Lines that are added leave every anchor one, so they add as many live blends as they make new anchors.
use Prim.Native.Nat.{ℕ, ◌+◌, ◌≤◌}
use native.Mathlib.Omega.{arith}
use mathlib.Core.Path.{◌≡◌, sym, ap}
use mathlib.Core.Bool.{true, not}
use mathlib.Core.List.{Memᴰ}
use borrow.Author.Tests.{eq-eqb}
use lib.ListN.{length}
use Rattle.axis.specs.Range.{only}
use Rattle.axis.proofs.Tests.{and_of, any_at, any_of, only_mem, mem_only}
use Rattle.axis.proofs.Counts.{pass_or_not}
use Rattle.axis.proofs.Distinct.{only_distinct, keyed_length}
use Rattle.mesh.specs.Lines.{Mesh}
use Rattle.mesh.specs.Blends.{anchored, live}
use Rattle.mesh.specs.Order.{Coarser}
use Rattle.mesh.specs.Sound.{sound}
use Rattle.mesh.specs.Crossings.{Point, point, anchor}
use Rattle.mesh.specs.Lengthening.{known}
use Rattle.mesh.specs.declared.Blend.{Blend}
use Rattle.mesh.proofs.Cuts.{proper_rises}
use Rattle.mesh.proofs.Order.{keeps_anchor, finer_back}
use Rattle.mesh.proofs.TableOrder.{anchored_at}
use Rattle.mesh.proofs.SoundMaps.{live_left, live_proper, live_distinct, own_anchors}

module _ (w h : ℕ) (hw : 1 ≤ w) (hh : 1 ≤ h) (M N : Mesh) (finer : Coarser M N) where
  pub anchor_kept : (B : Blend) → Memᴰ B (live w h M) →
      (C : Blend) × Memᴰ C (live w h N) × (C.across.m ≡ B.across.m) × (C.up.m ≡ B.up.m)
  anchor_kept B m =
      let from = (live_left w h hw hh M B).0 m in
      let k = keeps_anchor N B (proper_rises w h B (live_proper w h hw hh M B m)) in
      (k.0, (live_left w h hw hh N k.0).1 (from.0, from.1, finer_back finer from.2 k.1), k.2, k.3)

  pub kept_and_new : sound w h (live w h M) ≡ true → sound w h (live w h N) ≡ true →
      length (live w h N) ≡ length (live w h M) + length (only (λ B. not (known (live w h M) B)) (live w h N))
  kept_and_new sM sN =
      let apart = pass_or_not (known (live w h M)) (live w h N) in
      let few = keyed_length anchor (only (known (live w h M)) (live w h N)) (live w h M)
      (only_distinct (known (live w h M)) (live w h N) (live_distinct w h hw hh N))
      (λ B C b c e. own_anchors w h hw hh N sN B C (only_mem _ (live w h N) B b).0 (only_mem _ (live w h N) C c).0
      (ap (λ (p : Point). p.m) e) (ap (λ (p : Point). p.n) e))
      (λ B b. let a = any_at (anchored B.across.m B.up.m) (live w h M) (only_mem _ (live w h N) B b).1 in
      let at = anchored_at _ _ a.0 a.2 in
      (a.0, a.1, λ i. point (at.0 i) (at.1 i))) in
      let many = keyed_length anchor (live w h M) (only (known (live w h M)) (live w h N)) (live_distinct w h hw hh M)
      (λ B C b c e. own_anchors w h hw hh M sM B C b c (ap (λ (p : Point). p.m) e) (ap (λ (p : Point). p.n) e))
      (λ B b. let k = anchor_kept B b in (
        k.0,
        mem_only _ (live w h N) k.0 k.1
            (any_of (anchored k.0.across.m k.0.up.m) (live w h M) B b (and_of _ _ (eq-eqb _ _ (sym k.2)) (eq-eqb _ _ (sym k.3)))),
        λ i. point (k.2 i) (k.3 i),
      )) in
      omega arith
