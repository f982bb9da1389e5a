-- Coordinates as 16-bit numbers.
use Prim.Native.Nat.{ℕ, ◌^◌, ◌<◌}
use native.Mathlib.Omega.{arith}
use mathlib.Core.Path.{◌≡◌, refl, ap, ◌∙◌}
use mathlib.Core.Bool.{true, false}
use mathlib.Core.List.{[], ◌∷◌, ◌++◌}
use borrow.Author.Tests.{ltb-true}
use lib.Dec.{T}
use lib.IntN.{ℤ, pos, negsuc, nat_abs}
use lib.Signed.{lt_z, non_neg, mag}
use mir.Syntax.{w64}
use mir.Val.{hbits, to_z, of_z}
use mir.ValLaws.{to_z-of_z}
use Rattle.axis.proofs.Tests.{true_not_false}
use Rattle.maps.specs.declared.Shape.{Shape}
use Rattle.pump.specs.Border.{signed, shape_numbers}

-- a coordinate below 0, and one that is not
pub below : (z : ℤ) → lt_z z (pos 0) ≡ true → 65535 ≡ signed z
below (pos n) t = let lt : n < 0 = ltb-true n 0 t in absurd (omega arith)
below (negsuc n) t = refl

pub not_below : (z : ℤ) → lt_z z (pos 0) ≡ false → T (non_neg z) × (nat_abs z ≡ signed z)
not_below (pos n) f = (tt, refl)
not_below (negsuc n) f = absurd (true_not_false true refl f)

-- a struct holds a coordinate as its bits, of which the number is made
abbrev Held : ℤ → ℕ → Type 0
Held z n = (n ≡ signed (to_z w64 (of_z w64 z))) × (mag z < 2 ^ hbits w64)

held : (z : ℤ) {n : ℕ} → Held z n → n ≡ signed z
held z h = h.0 ∙ ap signed (to_z-of_z w64 z (record { sfits = h.1 }))

-- a blend's coordinates, and two numbers after them
pub as_shape : (s : Shape) {l m r b n t : ℕ} (x y : ℕ) → Held s.l l → Held s.m m → Held s.r r → Held s.b b → Held s.n n → Held s.t t →
    l ∷ m ∷ r ∷ b ∷ n ∷ t ∷ x ∷ y ∷ [] ≡ shape_numbers s ++ x ∷ y ∷ []
as_shape s x y l m r b n t = rw (held s.l l, held s.m m, held s.r r, held s.b b, held s.n n, held s.t t)
