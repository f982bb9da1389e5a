-- Document 01, "Values, readings, splits", on one axis: the unit step at a whole point, and a triple's hat over it.
use Rattle.std.specs.Prelude.{ℕ, ◌+◌, ◌-◌, ◌≤◌, cond, ltb, eqb}
use Rattle.axis.specs.declared.Triple.{Triple}

-- the low end of the unit step at a point of a side: the point itself, "at a far side, one step back"
abbrev pub corner : ℕ → ℕ → ℕ
corner side u = cond (eqb u side) (u - 1) u

-- knot u is one of the two ends of the unit step from knot x
pub record End (x u : ℕ) : Type 0 where
  pub from : x ≤ u
  pub to : u ≤ x + 1

-- the gap of a triple in which the unit step from knot x lies, and the hat at knot u over that gap
abbrev pub gap : Triple → ℕ → ℕ
gap t x = cond (ltb x t.m) (t.m - t.l) (t.r - t.m)

abbrev pub share : Triple → ℕ → ℕ → ℕ
share t x u = cond (ltb x t.m) (u - t.l) (t.r - u)
