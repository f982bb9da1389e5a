-- A split by its position and its ends.
use Rattle.std.specs.Prelude.{ℕ}
use Rattle.mesh.specs.declared.Split.{Split}

abbrev pub upright : ℕ → ℕ → ℕ → Split
upright p f t = record { direction = 0; position = p; from = f; to = t }

abbrev pub level : ℕ → ℕ → ℕ → Split
level p f t = record { direction = 1; position = p; from = f; to = t }
