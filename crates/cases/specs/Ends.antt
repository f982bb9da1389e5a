-- Crossings and good ends, computed on the lines of document 01's "Pits on paper".
use Rattle.std.specs.Prelude.{◌≡◌, refl, Bool, true, false, List, [], ◌∷◌, length}
use Rattle.mesh.specs.declared.Split.{Split}
use Rattle.axis.specs.Triple as Triple
use Rattle.axis.specs.Nearest as Nearest
use Rattle.mesh.specs.Lines.{layout, mesh_of}
use Rattle.mesh.specs.Lines as Lines
use Rattle.mesh.specs.Blends as Blends
use Rattle.mesh.specs.Crossings.{crosses, crossings}
use Rattle.mesh.specs.Ends.{good_end, good_ends, gap, nearest_good}
use Rattle.cases.specs.Drawn.{upright, level}

-- lines of a map of 8 by 8, and a split on it: whether both its ends are good, the whole gap, and the line between the nearest good ends
record Row : Type 0 where
  lines : List Split
  split : Split
  good : Bool
  whole : Split
  nearest : Split

row : List Split → Split → Bool → Split → Split → Row
row lines split good whole nearest = record { lines = lines; split = split; good = good; whole = whole; nearest = nearest }

computed : Row → Row
computed r =
    let L = layout 8 8 r.lines in
    row r.lines r.split (good_ends L r.split) (gap L r.split) (nearest_good L r.split)

Right : List Row → Type 0
Right [] = Unit
Right (r ∷ rs) = (computed r ≡ r) × Right rs

cross : List Split
cross = upright 4 0 8 ∷ level 4 0 8 ∷ []

-- The first two are refused in document 01: at 2 only the blend below the line has its anchor; at 4 both have, but they start at 2 and at 0.
rows : List Row
rows =
    row (upright 2 0 4 ∷ cross) (level 2 0 2) false (level 2 0 8) (level 2 0 8) ∷
    row (upright 2 0 4 ∷ cross) (level 2 0 4) false (level 2 0 8) (level 2 0 8) ∷
    row (upright 2 0 4 ∷ cross) (level 2 0 8) true (level 2 0 8) (level 2 0 8) ∷
    row cross (upright 2 0 4) true (upright 2 0 8) (upright 2 0 4) ∷
    row cross (upright 2 4 8) true (upright 2 0 8) (upright 2 4 8) ∷
    row (upright 2 4 8 ∷ cross) (upright 2 0 4) true (upright 2 0 4) (upright 2 0 4) ∷
    []

ends : Right rows
unfolding Right rows row computed cross good_ends good_end gap nearest_good Blends.live Blends.refine Blends.leaves_of Blends.leaves Blends.once Blends.in_table_order Nearest.nearest Nearest.below Nearest.above Blends.halve Triple.half Lines.mesh Lines.fresh_mesh Lines.draws
ends = (refl, (refl, (refl, (refl, (refl, (refl, tt))))))

-- A line that ends on another makes no crossing there: the upright at 2 runs from the bottom to level 4 and ends on it.
lines : List Split
lines = upright 2 0 4 ∷ cross

ends_there : crosses (mesh_of (layout 8 8 lines)) 3 5 ≡ false
unfolding lines cross Lines.mesh Lines.fresh_mesh Lines.draws
ends_there = refl

-- ten crossings, as many as document 01 counts blends: nine of the cross, and the upright's with the bottom
ten : length (crossings 8 8 (mesh_of (layout 8 8 lines))) ≡ 10
unfolding lines cross crossings Lines.mesh Lines.fresh_mesh Lines.draws
ten = refl
