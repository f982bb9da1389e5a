-- What the theorems on maps presuppose of what a map holds.
use Rattle.std.specs.Prelude.{ℕ, ◌≤◌, ◌<◌, ◌≡◌, true, length}
use mathlib.Core.List.{List, Memᴰ}
use Rattle.axis.specs.Limits.{largest_side}
use Rattle.mesh.specs.Replay.{Replays}
use Rattle.mesh.specs.Sound.{sound}
use Rattle.maps.specs.Plain.{Plain, blends}

-- marks are 0 or 1
abbrev pub AreMarks : List ℕ → Type 0
AreMarks marks = (k : ℕ) → Memᴰ k marks → k ≤ 1

-- What a good record holds: splits that are accepted in order from the fresh map, and a value and a
-- mark for each live blend.
pub record Holds (P : Plain) : Type 0 where
  pub taken : Replays P.lines
  pub counted : length P.values ≡ length (blends P)
  pub counted_marks : length P.marks ≡ length (blends P)
  pub are_marks : AreMarks P.marks

-- A sound map of allowed sides with a 16-bit value for each live blend.
pub record Valued (P : Plain) : Type 0 where
  pub wide : (1 ≤ P.lines.w) × (P.lines.w ≤ largest_side)
  pub tall : (1 ≤ P.lines.h) × (P.lines.h ≤ largest_side)
  pub is_sound : sound P.lines.w P.lines.h (blends P) ≡ true
  pub counted : length P.values ≡ length (blends P)
  pub small : (v : ℕ) → Memᴰ v P.values → v < 65536
