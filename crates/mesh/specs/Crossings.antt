-- Where lines cross, the grids that lines lie on, and the maps that accepted splits build: report
-- 000, "there is one basis function for each cross vertex in the mesh"; document 02, L9, "a line
-- that cuts nothing past its end".
use Rattle.std.specs.Prelude.{ℕ, ◌+◌, ◌-◌, ◌≤◌, ◌<◌, ◌≡◌, Bool, true, cond, ◌&&◌}
use mathlib.Core.List.{List, [], ◌∷◌, map, Memᴰ}
use Rattle.axis.specs.Range.{each, any}
use Rattle.axis.specs.Triple.{spans, is_knot, KnotOf, OnSide}
use Rattle.mesh.specs.Lines.{other, side, Mesh, Layout, mesh_of}
use Rattle.mesh.specs.declared.Direction.{Direction}
use Rattle.mesh.specs.declared.Direction.TheVariants.{Upright as upright, Level as level}
use Rattle.mesh.specs.Blends.{crossed, along}
use Rattle.mesh.specs.Sound.{four_everywhere}
use Rattle.mesh.specs.Splits.{live_of}
use Rattle.mesh.specs.declared.Blend.{Blend}

-- a point of the domain, in knots
pub record Point : Type 0 where
  pub m : ℕ
  pub n : ℕ

abbrev pub point : ℕ → ℕ → Point
point m n = record { m = m; n = n }

-- a line of the direction at knot z passes through the point at knot k: it has a unit step on either side of it, run-out counted
abbrev pub passes : Mesh → Direction → ℕ → ℕ → Bool
passes M d z k = M d z (k - 1) && M d z k

-- A crossing: an upright and a level both pass through the point at knots (m, n). A line that ends on another makes none there.
abbrev pub crosses : Mesh → ℕ → ℕ → Bool
crosses M m n = passes M upright m n && passes M level n m

-- the crossings of the domain, by m, then n
unfoldable pub crossings : ℕ → ℕ → Mesh → List Point
crossings w h M = each 1 (w + 1) (λ m. each 1 (h + 1) (λ n. cond (crosses M m n) (point m n ∷ []) []))

-- "Its anchor is (m, n)": of a blend, and of each of some blends
abbrev pub anchor : Blend → Point
anchor B = point B.across.m B.up.m

abbrev pub anchors : List Blend → List Point
anchors bs = map anchor bs

-- The grid of a blend: its uprights at l, m and r from b to t, and its levels at b, n and t from l to r. Whether the unit step from knot k, of a
-- line of the direction at knot z, lies on it.
abbrev pub on_grid : Direction → ℕ → ℕ → Blend → Bool
on_grid d z k B = is_knot z (crossed d B) && spans k (along d B)

-- the same as a statement
pub record OnGrid (d : Direction) (z k : ℕ) (B : Blend) : Type 0 where
  pub knot : KnotOf z (crossed d B)
  pub lo : (along d B).l ≤ k
  pub hi : k < (along d B).r

-- Tight: inside the domain, its edges included, the unit steps of lines are those on the grids of the blends.
abbrev pub Tight : ℕ → ℕ → Mesh → List Blend → Type 0
Tight w h M bs =
    (d : Direction) (z k : ℕ) → 1 ≤ z → z ≤ side d w h + 1 → 1 ≤ k → k ≤ side (other d) w h → M d z k ≡ any (on_grid d z k) bs

-- some live blend of a map has the unit step on its grid
abbrev pub Gridded : Layout → Direction → ℕ → ℕ → Type 0
Gridded P d z k = (B : Blend) × Memᴰ B (live_of P) × OnGrid d z k B

-- What accepted splits build: a map with sides of at least 1, over each of whose unit squares four
-- live blends lie, and each of whose unit steps strictly inside the domain, edges left out, lies on
-- the grid of a live blend. It is sound (`built_sound`), and `Tight` with its live blends
-- (`lines_are_grids`).
pub record Built (P : Layout) : Type 0 where
  pub wide : 1 ≤ P.w
  pub high : 1 ≤ P.h
  pub four : four_everywhere P.w P.h (live_of P) ≡ true
  pub tight : (d : Direction) (z k : ℕ) → (1 < z) × (z ≤ side d P.w P.h) →
      OnSide (side (other d) P.w P.h) k → mesh_of P d z k ≡ true → Gridded P d z k
