-- Document 01, "Sides and lines". The lines of a map are told by their unit steps, so lines at one position that overlap or touch are one line.
use Rattle.std.specs.Prelude.{ℕ, ◌+◌, ◌-◌, ◌≡◌, Bool, true, cond, ◌&&◌, ◌||◌, List, ltb, leb, eqb, take}
use Rattle.axis.specs.Limits.{largest_side}
use Rattle.axis.specs.Range.{every, some, all, any}
use Rattle.mesh.specs.declared.Split.{Split}
use Rattle.mesh.specs.declared.Lines.{Lines}
use Rattle.mesh.specs.declared.Direction.{Direction}
use Rattle.mesh.specs.declared.Direction.TheVariants.{Upright as upright, Level as level}

-- "direction (0 upright, 1 level)"
abbrev pub number : Direction → ℕ
number upright = 0
number level = 1

abbrev pub other : Direction → Direction
other upright = level
other level = upright

-- the side that a line of the direction crosses; the one that it runs along is that of the other direction
abbrev pub side : Direction → ℕ → ℕ → ℕ
side upright w h = w
side level w h = h

-- A mesh: whether the unit step from knot k to knot k + 1, of a line of the direction at knot z, lies on a line.
abbrev pub Mesh : Type 0
Mesh = Direction → ℕ → ℕ → Bool

-- "each 1 to 128 steps"
abbrev pub allowed_side : ℕ → Bool
allowed_side s = leb 1 s && leb s largest_side

-- "a position strictly between 0 and the side it crosses, and a from and a to with 0 ≤ from < to ≤ the side it runs along"
abbrev pub fits : ℕ → ℕ → Split → Bool
fits crossed run s = ltb 0 s.position && ltb s.position crossed && ltb s.from s.to && leb s.to run

unfoldable pub in_range : ℕ → ℕ → Split → Bool
in_range w h s = cond (eqb s.direction 0) (fits w h s) (eqb s.direction 1 && fits h w s)

-- "A drawn end at 0 runs out to −1, and one at the far side runs out by one step": the first and the last knot of a split
abbrev pub start : Split → ℕ
start s = cond (eqb s.from 0) 0 (s.from + 1)

abbrev pub end : ℕ → Split → ℕ
end run s = cond (eqb s.to run) (run + 2) (s.to + 1)

-- whether a split draws a unit step
unfoldable pub draws : ℕ → ℕ → Direction → ℕ → ℕ → Split → Bool
draws w h d z k s =
    eqb s.direction (number d) && eqb z (s.position + 1) && leb (start s) k && ltb k (end (side (other d) w h) s)

-- "uprights at −1, 0, W, W+1 from −1 to H+1, and levels at −1, 0, H, H+1 from −1 to W+1"
unfoldable pub fresh_mesh : ℕ → ℕ → Mesh
fresh_mesh w h d z k =
    (eqb z 0 || eqb z 1 || eqb z (side d w h + 1) || eqb z (side d w h + 2)) && ltb k (side (other d) w h + 2)

-- the mesh of a map's sides and splits
unfoldable pub mesh : ℕ → ℕ → List Split → Mesh
mesh w h splits d z k = fresh_mesh w h d z k || any (draws w h d z k) splits

-- whether the line of the direction at knot z covers the `n` unit steps from knot b on
abbrev pub covers : Mesh → Direction → ℕ → ℕ → ℕ → Bool
covers M d z b n = every b n (M d z)

-- whether the point at knot k lies on a line of the direction at knot z: "a crossing line's own end counts as on it"
unfoldable pub on_line : Mesh → Direction → ℕ → ℕ → Bool
on_line M d z k = M d z k || (ltb 0 k && M d z (k - 1))

-- a line of the direction stands at knot z: some unit step there lies on one
abbrev pub HasLine : Mesh → Direction → ℕ → Type 0
HasLine M d z = (k : ℕ) × (M d z k ≡ true)

-- the direction that a number names
abbrev pub direction : ℕ → Direction
direction n = cond (eqb n 0) upright level

-- "The split shares more than one point with a line at its position": one of its unit steps, as given, is on already
unfoldable pub shares : Mesh → Split → Bool
shares M s = some (s.from + 1) (s.to - s.from) (M (direction s.direction) (s.position + 1))

-- both ends of the split lie on crossing lines
unfoldable pub ended : Mesh → Split → Bool
ended M s =
    let across = other (direction s.direction) in
    on_line M across (s.from + 1) (s.position + 1) && on_line M across (s.to + 1) (s.position + 1)

-- The layout of a map's lines: its sides, and its splits in order. And what a struct of lines holds.
pub record Layout : Type 0 where
  pub w : ℕ
  pub h : ℕ
  pub splits : List Split

abbrev pub layout : ℕ → ℕ → List Split → Layout
layout w h splits = record { w = w; h = h; splits = splits }

abbrev pub splits_of : Lines → List Split
splits_of L = take L.count L.splits

abbrev pub layout_of : Lines → Layout
layout_of L = layout L.w L.h (splits_of L)

abbrev pub mesh_of : Layout → Mesh
mesh_of P = mesh P.w P.h P.splits

-- all splits of a layout are in range
abbrev pub Ranges : Layout → Type 0
Ranges P = all (in_range P.w P.h) P.splits ≡ true
