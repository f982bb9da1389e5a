-- Every refusal has a number, and that is not 0.
use Prim.Native.Nat.{◌≤◌}
use native.Mathlib.Omega.{arith}
use mathlib.Core.Path.{◌≡◌}
use Rattle.mesh.specs.declared.refusal.Refusal.{Refusal}
use Rattle.mesh.specs.declared.refusal.Refusal.TheVariants.{Side, BadRecord, OutOfRange, Full, Shared, OpenEnd, CutsNothing, Unsound, NoAnchor, Outside, NoFile, ShortBuffer, NoPair}
use Rattle.mesh.specs.Refusals.{number_of}

numbered : (r : Refusal) → 1 ≤ number_of r
numbered Side = omega arith
numbered BadRecord = omega arith
numbered OutOfRange = omega arith
numbered Full = omega arith
numbered Shared = omega arith
numbered OpenEnd = omega arith
numbered CutsNothing = omega arith
numbered Unsound = omega arith
numbered NoAnchor = omega arith
numbered Outside = omega arith
numbered NoFile = omega arith
numbered ShortBuffer = omega arith
numbered NoPair = omega arith

pub refuses : (r : Refusal) → number_of r ≡ 0 → ⊥
refuses r e = omega (arith, numbered r)
