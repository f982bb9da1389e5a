-- Document 02, L4 and L7, computed on maps of 8 by 8: the candidates of a split, how many live blends each adds, the line taken within an allowance.
use Rattle.std.specs.Prelude.{ℕ, ◌≡◌, refl, List, [], ◌∷◌, map, length}
use Rattle.axis.specs.Range.{only}
use Rattle.axis.specs.Triple as Triple
use Rattle.axis.specs.Nearest as Nearest
use Rattle.mesh.specs.declared.Split.{Split}
use Rattle.mesh.specs.Lines.{layout}
use Rattle.mesh.specs.Lines as Lines
use Rattle.mesh.specs.Blends as Blends
use Rattle.mesh.specs.Sound as Sound
use Rattle.mesh.specs.Splits.{exact_number, given}
use Rattle.mesh.specs.Lengthening.{containing, candidate, adds, new_anchors, chosen}
use Rattle.cases.specs.Drawn.{upright, level}

-- a candidate, with the live blends that it adds and the new anchors that it makes
record Found : Type 0 where
  line : Split
  blends : ℕ
  anchors : ℕ

adding : Split → ℕ → ℕ → Found
adding line blends anchors = record { line = line; blends = blends; anchors = anchors }

-- lines and a split on them: its number as an exact one, the candidates, the lines taken within allowances
record Row : Type 0 where
  lines : List Split
  split : Split
  exact : ℕ
  found : List Found
  allowances : List ℕ
  taken : List (List Split)

row : List Split → Split → ℕ → List Found → List ℕ → List (List Split) → Row
row lines split exact found allowances taken =
    record { lines = lines; split = split; exact = exact; found = found; allowances = allowances; taken = taken }

computed : Row → Row
computed r =
    let P = layout 8 8 r.lines in
    row r.lines r.split (exact_number P r.split)
    (map (λ c. adding c (adds P c) (length (new_anchors P c))) (only (candidate P) (containing P r.split))) r.allowances
    (map (chosen P r.split) r.allowances)

Right : List Row → Type 0
Right [] = Unit
Right (r ∷ rs) = (computed r ≡ r) × Right rs

-- Sound as given, it is taken with every allowance. Not sound as given: it grows past a line on which it might end, or to the low side, if the allowance lets
-- it; and no further, since that adds more.
rows : List Row
rows =
    row (upright 4 0 8 ∷ level 4 0 8 ∷ []) (upright 2 0 4) 0 (adding (upright 2 0 4) 1 1 ∷ adding (upright 2 0 8) 3 3 ∷ []) (0 ∷ 128 ∷ [])
    ((upright 2 0 4 ∷ []) ∷ (upright 2 0 4 ∷ []) ∷ []) ∷
    row (level 6 0 8 ∷ upright 2 0 8 ∷ level 7 0 8 ∷ level 5 2 8 ∷ []) (upright 3 0 5) 8 (adding (upright 3 0 7) 3 3 ∷ adding (upright 3 0 8) 5 5 ∷ [])
    (1 ∷ 2 ∷ 3 ∷ []) ([] ∷ (upright 3 0 7 ∷ []) ∷ (upright 3 0 7 ∷ []) ∷ []) ∷
    row (upright 4 0 8 ∷ upright 6 0 8 ∷ level 4 0 8 ∷ upright 2 0 8 ∷ upright 5 4 8 ∷ []) (level 7 5 8) 8
    (adding (level 7 0 8) 6 6 ∷ adding (level 7 2 8) 4 4 ∷ []) (0 ∷ 2 ∷ 5 ∷ []) ([] ∷ [] ∷ (level 7 2 8 ∷ []) ∷ []) ∷
    []

fewest : Right rows
unfolding Right rows row adding computed given exact_number containing candidate chosen Triple.half Lines.in_range Lines.draws Lines.fresh_mesh Lines.mesh Lines.on_line Lines.shares Lines.ended Blends.halve Nearest.below Nearest.above Nearest.nearest Blends.is_cut Blends.leaves Blends.leaves_of Blends.once Blends.in_table_order Blends.refine Blends.live Sound.four_everywhere Sound.none_nested Sound.sound
fewest = (refl, (refl, (refl, tt)))
