-- Document 01, "Blends": weights at a point with fractional coordinates, their sums, in whole
-- numbers, and straight flows.
use Rattle.std.specs.Prelude.{ℕ, ◌+◌, ◌-◌, ◌*◌, ◌≡◌, true}
use mathlib.Core.List.{List, map, Memᴰ}
use Rattle.axis.specs.Fraction.{Fraction, times, whole, total}
use Rattle.axis.specs.Triple.{hat}
use Rattle.mesh.specs.Lines.{Mesh}
use Rattle.mesh.specs.Order.{CoveredBy}
use Rattle.mesh.specs.Sound.{proper}
use Rattle.mesh.specs.declared.Blend.{Blend}

-- "Its weight at (u, v) is the product of two hats.", at the point (p / d, q / d) in knots
abbrev pub weight : Blend → ℕ → ℕ → ℕ → Fraction
weight B p q d = times (hat B.across p d) (hat B.up q d)

-- a sum of multiples of blends, as a function on the points
pub record Term : Type 0 where
  pub multiple : ℕ
  pub of : Blend

abbrev pub value : List Term → ℕ → ℕ → ℕ → Fraction
value ts p q d = total (map (λ (t : Term). times (whole t.multiple) (weight t.of p q d)) ts)

-- the sum over some blends of the function's value at the anchor times the blend
abbrev pub interpolated : List Term → List Blend → ℕ → ℕ → ℕ → Fraction
interpolated ts bs p q d =
    total (map (λ (C : Blend). times (value ts C.across.m C.up.m 1) (weight C p q d)) bs)

-- The blends of such a sum are proper, and a list covers each of them.
abbrev pub CoveredTerms : Mesh → ℕ → ℕ → List Blend → List Term → Type 0
CoveredTerms M w h bs ts = (t : Term) → Memᴰ t ts → (proper w h t.of ≡ true) × CoveredBy M bs t.of

-- A straight flow: a + b u + c v + e u v at (u, v), the four numbers whole and from 0.
pub record Flow : Type 0 where
  pub a : ℕ
  pub b : ℕ
  pub c : ℕ
  pub e : ℕ

-- What it is at the point (p / d, q / d), in document 01's coordinates, as a number over d times d;
-- and at a blend's anchor, whose knots are one more than its coordinates.
abbrev pub flow_at : Flow → ℕ → ℕ → ℕ → ℕ
flow_at F p q d = F.a * (d * d) + F.b * (p * d) + F.c * (q * d) + F.e * (p * q)

abbrev pub at_anchor : Flow → Blend → ℕ
at_anchor F B = flow_at F (B.across.m - 1) (B.up.m - 1) 1
