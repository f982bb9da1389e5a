-- What the record of a map holds: its lines, and in table order its values and their marks. Its blends are always cut anew from the first four.
use Rattle.std.specs.Prelude.{ℕ, List, [], replicate}
use Rattle.mesh.specs.declared.Blend.{Blend}
use Rattle.mesh.specs.Lines.{Layout, layout}
use Rattle.mesh.specs.Splits.{live_of}

pub record Plain : Type 0 where
  pub lines : Layout
  pub values : List ℕ
  -- document 02, L5: "Each value gets a mark: 1 measured, 0 worked out."
  pub marks : List ℕ

abbrev pub blends : Plain → List Blend
blends P = live_of P.lines

-- document 01, "Values, readings, splits": "in a fresh map 0"; document 02, L5: "A fresh map's marks are 0."
unfoldable pub fresh_plain : ℕ → ℕ → Plain
fresh_plain w h = record { lines = layout w h []; values = replicate 4 0; marks = replicate 4 0 }
