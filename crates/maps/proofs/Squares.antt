-- The live blends of a sound map over each unit square, and their sum at each point, in the words of the demand.
use Prim.Native.Nat.{ℕ, ◌+◌, ◌<◌}
use native.Mathlib.Omega.{arith}
use mathlib.Core.Path.{◌≡◌}
use mathlib.Core.Bool.{true}
use mathlib.Core.List.{Memᴰ}
use Rattle.mesh.specs.declared.Blend.{Blend}
use Rattle.axis.specs.Range.{only}
use Rattle.mesh.specs.Sound.{over_square}
use Rattle.axis.proofs.Tests.{only_mem, mem_only}
use Rattle.axis.proofs.Distinct.{only_distinct}
use Rattle.mesh.proofs.Weights.{weight_den}
use Rattle.mesh.proofs.SoundMaps.{live_distinct, weights_add_up, four_positive}
use Rattle.maps.specs.Plain.{Plain, blends}
use Rattle.mesh.specs.Lines.{mesh_of}
use Rattle.maps.specs.Demand.{weight_there, Inside, FourIn, AddUp}
use Rattle.maps.specs.Holds.{Valued}
use Rattle.maps.proofs.Readings.{blends_proper}

module _ (P : Plain) (valued : Valued P) where
  pub valued_four : (x y : ℕ) → x < P.lines.w → y < P.lines.h → FourIn (blends P) x y
  valued_four x y hx hy =
      let w = P.lines.w in
      let h = P.lines.h in
      let over = over_square (x + 1) (y + 1) in
      let f = four_positive w h valued.wide.0 valued.tall.0 (mesh_of P.lines) valued.is_sound x y hx hy in
      let some : (B : Blend) → Memᴰ B (only over (blends P)) → Memᴰ B (blends P) × (over B ≡ true) = only_mem over (blends P) in
      record {
        four = only over (blends P);
        count = f.0;
        apart = only_distinct over (blends P) (live_distinct w h valued.wide.0 valued.tall.0 (mesh_of P.lines));
        of_these = λ B m. (some B m).0;
        positive = λ B m p q d i.
            ((f.1 B (some B m).0 p q d i.left i.right i.bottom i.top).0 (some B m).1, den B (some B m).0 p q d i);
        others = λ B m out p q d i.
            (none _ (λ pos. out (mem_only over (blends P) B m ((f.1 B m p q d i.left i.right i.bottom i.top).1 pos))), den B m p q d i);
      }
    where
      none : (n : ℕ) → (0 < n → ⊥) → n ≡ 0
      none n not = omega arith

      den : (B : Blend) → Memᴰ B (blends P) → (p q d : ℕ) → Inside x y p q d → 0 < (weight_there B p q d).den
      den B m p q d i = weight_den P.lines.w P.lines.h B (blends_proper P valued B m) (p + d) (q + d) d (omega arith)

  pub valued_sum : AddUp P.lines.w P.lines.h (blends P)
  valued_sum = weights_add_up P.lines.w P.lines.h valued.wide.0 valued.tall.0 (mesh_of P.lines) valued.is_sound
