-- Document 01, "Pits on paper", at this layer: each row is a list of splits and what they leave.
use Rattle.std.specs.Prelude.{ℕ, ◌≡◌, refl, Bool, true, false, List, [], ◌∷◌, length}
use Rattle.axis.specs.Range.{only}
use Rattle.axis.specs.Triple.{half}
use Rattle.mesh.specs.Lines.{mesh, draws, fresh_mesh}
use Rattle.mesh.specs.Blends.{live, refine, leaves_of, leaves, once, in_table_order, halve}
use Rattle.axis.specs.Nearest.{nearest, below, above}
use Rattle.mesh.specs.Sound.{sound, four_everywhere, none_nested, over_square}
use Rattle.mesh.specs.declared.Split.{Split}

upright : ℕ → ℕ → ℕ → Split
upright p f t = record { direction = 0; position = p; from = f; to = t }

level : ℕ → ℕ → ℕ → Split
level p f t = record { direction = 1; position = p; from = f; to = t }

-- a row: sides, splits, how many live blends they leave, whether the map is sound, and in how many supports square (0, 0) lies
record Row : Type 0 where
  w : ℕ
  h : ℕ
  splits : List Split
  count : ℕ
  sound? : Bool
  corner : ℕ

row : ℕ → ℕ → List Split → ℕ → Bool → ℕ → Row
row w h splits count s corner = record { w = w; h = h; splits = splits; count = count; sound? = s; corner = corner }

-- the row as the definitions compute it
computed : Row → Row
computed r =
    let bs = live r.w r.h (mesh r.w r.h r.splits) in
    row r.w r.h r.splits (length bs) (sound r.w r.h bs) (length (only (over_square 1 1) bs))

Right : List Row → Type 0
Right [] = Unit
Right (r ∷ rs) = (computed r ≡ r) × Right rs

cross : List Split
cross = upright 4 0 8 ∷ level 4 0 8 ∷ []

-- document 01's rows, then rows beside them
rows : List Row
rows =
    row 8 8 [] 4 true 4 ∷
    row 8 8 (upright 4 0 8 ∷ []) 6 true 4 ∷
    row 8 8 cross 9 true 4 ∷
    row 8 8 (upright 2 0 4 ∷ cross) 10 true 4 ∷
    row 8 8 (level 2 0 2 ∷ upright 2 0 4 ∷ cross) 11 false 5 ∷
    row 8 8 (level 2 0 4 ∷ upright 2 0 4 ∷ cross) 12 false 5 ∷
    row 8 8 (level 2 0 8 ∷ upright 2 0 4 ∷ cross) 14 true 4 ∷
    row 8 8 (upright 4 0 4 ∷ level 4 0 8 ∷ level 2 0 8 ∷ []) 10 true 4 ∷
    row 8 8 (upright 4 2 4 ∷ level 4 0 8 ∷ level 2 0 8 ∷ []) 8 true 4 ∷
    row 1 1 [] 4 true 4 ∷
    row 1 128 (level 64 0 1 ∷ []) 6 true 4 ∷
    row 8 8 (upright 4 4 8 ∷ upright 4 0 4 ∷ level 4 0 8 ∷ []) 9 true 4 ∷
    []

pits : Right rows
unfolding Right rows row computed cross upright level live refine leaves_of leaves once in_table_order nearest below above halve half mesh fresh_mesh draws sound four_everywhere none_nested
pits = (refl, (refl, (refl, (refl, (refl, (refl, (refl, (refl, (refl, (refl, (refl, (refl, tt))))))))))))
