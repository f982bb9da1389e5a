-- What is noted, with the places that are left, is the whole answer.
use Rattle.std.proofs.Common.{ℕ, ◌≡◌, List}
use Rattle.axis.specs.declared.Side.TheVariants.{Lower as lower, Upper as upper}
use Rattle.mesh.specs.declared.Direction.{Direction}
use Rattle.mesh.specs.Bytes.{walk}
use Rattle.mesh.specs.Carried.{note_all, blank, kept_left}
use Rattle.mesh.specs.declared.Blend.{Blend}
use Rattle.mesh.proofs.carried.Drawing.notes.Given as goal

-- some blends are still to be noted, of those that were at first
pub record Noting (d : Direction) (z : ℕ) (lows₀ highs₀ : List ℕ) (all : List Blend) (lows highs : List ℕ) (left : List Blend) : Type 0 where
  pub low : note_all upper d z lows left ≡ note_all upper d z lows₀ all
  pub high : note_all lower d z highs left ≡ note_all lower d z highs₀ all

abbrev pub invariant-loop-x : goal.invariant-loop-x
invariant-loop-x g l =
    Noting l.d l.z blank blank (walk l.self.w l.self.h l.self.places) l.notes.lows l.notes.highs (kept_left l.x-iterator)
