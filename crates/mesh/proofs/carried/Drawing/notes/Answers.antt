-- `mesh::carried::Drawing::notes` meets its contract.
use Rattle.std.proofs.Common.{ℕ, ◌≡◌, List, [], ◌∷◌}
use mathlib.Core.Path.{subst}
use Rattle.axis.specs.declared.Side.TheVariants.{Lower as lower, Upper as upper}
use Rattle.mesh.specs.declared.Direction.{Direction}
use Rattle.mesh.specs.Carried.{note_all}
use Rattle.mesh.specs.declared.Blend.{Blend}
use Rattle.mesh.proofs.carried.Drawing.notes.Invariants.{Noting}
use Rattle.mesh.proofs.carried.Drawing.notes.Goals as goal

-- the same blends in another way
turned : {d : Direction} {z : ℕ} {lows₀ highs₀ lows highs : List ℕ} {all left next : List Blend} → left ≡ next →
    Noting d z lows₀ highs₀ all lows highs left → Noting d z lows₀ highs₀ all lows highs next
turned {d} {z} {lows₀} {highs₀} {lows} {highs} {all} e = subst (Noting d z lows₀ highs₀ all lows highs) e

one_more : {d : Direction} {z : ℕ} {lows₀ highs₀ lows highs l h : List ℕ} {all left : List Blend} (B : Blend) →
    Noting d z lows₀ highs₀ all lows highs (B ∷ left) → l ≡ note_all upper d z lows (B ∷ []) → h ≡ note_all lower d z highs (B ∷ []) →
    Noting d z lows₀ highs₀ all l h left
unfolding note_all
one_more B n el eh = record { low = rw el n.low; high = rw eh n.high }

pub loop-x-preserved : goal.loop-x-preserved
loop-x-preserved g c = one_more c.in-Some.x (turned c.in-Some.ensures.steps.0 c.loop-x.invariant) c.note.ensures.0 c.note.ensures.1

pub returns : goal.returns
unfolding note_all
returns g c = let all = turned c.in-None.ensures.steps.0.0 c.loop-x.invariant in (all.low, all.high)
