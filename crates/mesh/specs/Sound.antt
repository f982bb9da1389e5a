-- Document 01, "Blends": a sound map; and what the functions on tables of blends answer.
use Rattle.std.specs.Prelude.{ℕ, ◌-◌, ◌≡◌, Bool, true, cond, ◌&&◌, not, eqb, length, take, replicate}
use mathlib.Core.List.{List, [], ◌++◌, Memᴰ}
use Rattle.axis.specs.Limits.{largest_side, most_blends}
use Rattle.axis.specs.Range.{every, all, only}
use Rattle.axis.specs.Triple.{triple, rising, spans, between, RisesIn}
use Rattle.mesh.specs.Lines.{allowed_side}
use Rattle.mesh.specs.Blends.{blend, same, first_four}
use Rattle.mesh.specs.declared.Blend.{Blend}
use Rattle.mesh.specs.declared.Table.{Table}

-- the unit square whose low corner is at knots (x, y) lies in the blend's support
abbrev pub over_square : ℕ → ℕ → Blend → Bool
over_square x y B = spans x B.across && spans y B.up

-- "every unit square of the domain lies in the supports of exactly four live blends"
unfoldable pub four_everywhere : ℕ → ℕ → List Blend → Bool
four_everywhere w h bs = every 1 w (λ x. every 1 h (λ y. eqb (length (only (over_square x y) bs)) 4))

-- the anchor of B lies strictly inside the support of C, another blend
abbrev pub nested : Blend → Blend → Bool
nested B C = not (same B C) && between B.across.m C.across && between B.up.m C.up

-- "no live blend's anchor lies strictly inside another's support"
unfoldable pub none_nested : List Blend → Bool
none_nested bs = all (λ B. all (λ C. not (nested B C)) bs) bs

-- "A map is sound when …", of its sides and its live blends
unfoldable pub sound : ℕ → ℕ → List Blend → Bool
sound w h bs = four_everywhere w h bs && none_nested bs

-- both triples rise and lie within −1 to side + 1
abbrev pub proper : ℕ → ℕ → Blend → Bool
proper w h B = rising w B.across && rising h B.up

-- of all of some blends
abbrev pub AllProperIn : ℕ → ℕ → List Blend → Type 0
AllProperIn w h bs = (B : Blend) → Memᴰ B bs → proper w h B ≡ true

-- of one, as a statement
pub record ProperIn (w h : ℕ) (B : Blend) : Type 0 where
  pub across : RisesIn w B.across
  pub up : RisesIn h B.up

-- for the largest sides; and of all of some blends
abbrev pub Proper : Blend → Type 0
Proper B = ProperIn largest_side largest_side B

abbrev pub AllProper : List Blend → Type 0
AllProper bs = (B : Blend) → Memᴰ B bs → Proper B

-- a table of blends as a struct: its count, the blends, and zeros in all unused places
abbrev pub none : Blend
none = blend (triple 0 0 0) (triple 0 0 0)

unfoldable pub table : List Blend → Table
table bs = record { count = length bs; blends = bs ++ replicate (most_blends - length bs) none }

abbrev pub blends_of : Table → List Blend
blends_of t = take t.count t.blends

-- the table of a fresh map: its live blends are the first four (`fresh_live`); an empty one where a side is out of range
unfoldable pub fresh_table : ℕ → ℕ → Table
fresh_table w h = cond (allowed_side w && allowed_side h) (table (first_four w h)) (table [])
