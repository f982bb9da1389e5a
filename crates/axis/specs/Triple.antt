-- One axis of a blend: document 01, "Blends", on one triple (l, m, r) of knots. Nothing here knows how many axes there are.
use Rattle.std.specs.Prelude.{ℕ, ◌+◌, ◌-◌, ◌*◌, ◌≤◌, ◌<◌, min, max, ◌≡◌, ◌⊎◌, Bool, ◌&&◌, ◌||◌, not, cond, ltb, leb, eqb}
use Rattle.axis.specs.Fraction.{Fraction}
use Rattle.axis.specs.declared.Triple.{Triple}
use Rattle.axis.specs.declared.Side.{Side}
use Rattle.axis.specs.declared.Side.TheVariants.{Lower as lower, Upper as upper}

abbrev pub triple : ℕ → ℕ → ℕ → Triple
triple l m r = record { l = l; m = m; r = r }

-- a line at z can cut: "l < z < r, z is not m"
abbrev pub inside : ℕ → Triple → Bool
inside z t = ltb t.l z && ltb z t.r && not (eqb z t.m)

-- "The halves have the triples (l, z, m) and (z, m, r) if z < m, else (l, m, z) and (m, z, r)."
unfoldable pub half : Side → ℕ → Triple → Triple
half lower z t = triple t.l (min z t.m) (max z t.m)
half upper z t = triple (min z t.m) (max z t.m) t.r

-- the two triples of the first blends: (−1, 0, side) and (0, side, side + 1)
abbrev pub low : ℕ → Triple
low side = triple 0 1 (side + 1)

abbrev pub high : ℕ → Triple
high side = triple 1 (side + 1) (side + 2)

abbrev pub first : Side → ℕ → Triple
first lower side = low side
first upper side = high side

-- "both rising", of one triple
pub record Rise (t : Triple) : Type 0 where
  pub low : t.l < t.m
  pub high : t.m < t.r

-- rising, and within −1 to side + 1
abbrev pub rising : ℕ → Triple → Bool
rising side t = ltb t.l t.m && ltb t.m t.r && leb t.r (side + 2)

pub record RisesIn (side : ℕ) (t : Triple) : Type 0 where
  pub low : t.l < t.m
  pub high : t.m < t.r
  pub most : t.r ≤ side + 2

-- within the knots of the longest side, 0 to 130
abbrev pub Rises : Triple → Type 0
Rises t = RisesIn 128 t

-- the unit step from knot x to knot x + 1 lies on a side of s steps, 0 to s
abbrev pub OnSide : ℕ → ℕ → Type 0
OnSide s x = (1 ≤ x) × (x < 1 + s)

-- the unit step from knot x to knot x + 1 lies in l to r
abbrev pub spans : ℕ → Triple → Bool
spans x t = leb t.l x && ltb x t.r

-- knot z lies strictly between l and r
abbrev pub between : ℕ → Triple → Bool
between z t = ltb t.l z && ltb z t.r

-- knot z lies strictly inside one part of the triple: the lower, l to m, or the upper, m to r
abbrev pub knot_in : Side → ℕ → Triple → Bool
knot_in lower z t = ltb t.l z && ltb z t.m
knot_in upper z t = ltb t.m z && ltb z t.r

-- z is one of its three knots
abbrev pub is_knot : ℕ → Triple → Bool
is_knot z t = eqb z t.l || eqb z t.m || eqb z t.r

-- the same as a statement
abbrev pub KnotOf : ℕ → Triple → Type 0
KnotOf z t = (z ≡ t.l) ⊎ ((z ≡ t.m) ⊎ (z ≡ t.r))

-- something is true of each of a triple's three knots
pub record Knots (P : ℕ → Type 0) (t : Triple) : Type 0 where
  pub l : P t.l
  pub m : P t.m
  pub r : P t.r

abbrev pub same_triple : Triple → Triple → Bool
same_triple s t = eqb s.l t.l && eqb s.m t.m && eqb s.r t.r

-- The hat at the point p / d: "0 at l and beyond, rises straight to 1 at m, falls straight to 0 at r and beyond".
abbrev pub ascent : Triple → ℕ → ℕ → Fraction
ascent t p d = record { num = p - t.l * d; den = (t.m - t.l) * d }

abbrev pub descent : Triple → ℕ → ℕ → Fraction
descent t p d = record { num = t.r * d - p; den = (t.r - t.m) * d }

unfoldable pub hat : Triple → ℕ → ℕ → Fraction
hat t p d = cond (leb p (t.m * d)) (ascent t p d) (descent t p d)
