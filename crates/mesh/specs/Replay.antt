-- Document 01, "Values, readings, splits": the splits of a record, "taken in order as exact splits from a fresh map of those sides, are all accepted"; and one
-- split more.
use Rattle.std.specs.Prelude.{ℕ, ◌≤◌, ◌≡◌, Bool, true, cond, ◌&&◌, List, [], ◌∷◌, leb, eqb, length, Option, Some, None, Result, Ok, Err}
use Rattle.axis.specs.Limits.{most_splits}
use Rattle.mesh.specs.Lines.{allowed_side, Layout, layout, splits_of, layout_of}
use Rattle.mesh.specs.Sound.{table}
use Rattle.mesh.specs.Splits.{accepted, live_of, with_line, asked}
use Rattle.mesh.specs.Lengthening.{chosen}
use Rattle.mesh.specs.declared.Split.{Split}
use Rattle.mesh.specs.declared.Lines.{Lines}
use Rattle.mesh.specs.declared.Table.{Table}
use Rattle.mesh.specs.declared.Drawn.{Drawn}
use Rattle.mesh.specs.declared.refusal.Refusal.{Refusal}
use Rattle.mesh.specs.Refusals.{number_of}

-- whether sides and count are in their ranges and the splits are all accepted
unfoldable pub replays : Lines → Bool
replays L = allowed_side L.w && allowed_side L.h && leb L.count most_splits && accepted (layout L.w L.h []) (splits_of L)

-- the same of a layout, as a statement
pub record Replays (P : Layout) : Type 0 where
  pub across : allowed_side P.w ≡ true
  pub up : allowed_side P.h ≡ true
  pub few : length P.splits ≤ most_splits
  pub all_taken : accepted (layout P.w P.h []) P.splits ≡ true

-- the live blends of such lines; nothing where one is refused
unfoldable pub replayed : Lines → Option Table
replayed L = cond (replays L) (Some (table (live_of (layout_of L)))) None

-- A split goes on from lines that were replayed, with the table that this left.
pub record HasTable (L : Lines) (t : Table) : Type 0 where
  pub accepted? : replays L ≡ true
  pub is_table : t ≡ table (live_of (layout_of L))

-- What a split comes to on such lines: its number, the line that is drawn, and the table of blends after it.
pub record Outcome : Type 0 where
  pub number : ℕ
  pub split : Split
  pub table : Table

-- refused with a number, with the split and the table as they came; and a line drawn
abbrev pub refused_step : Table → ℕ → Split → Outcome
refused_step t n s = record { number = n; split = s; table = t }

abbrev pub drawn_step : Lines → Split → Outcome
drawn_step L s = record { number = 0; split = s; table = table (live_of (with_line (layout_of L) s)) }

-- the split call, by the line that it takes
abbrev pub first_step : Lines → Table → Split → List Split → Outcome
first_step L t s [] = refused_step t 8 s
first_step L t s (c ∷ cs) = drawn_step L c

unfoldable pub split_step : Lines → Table → Split → ℕ → Outcome
split_step L t s allowance =
    let n = asked (layout_of L) s allowance in cond (eqb n 0) (first_step L t s (chosen (layout_of L) s allowance)) (refused_step t n s)

-- the same of what the code answers
abbrev pub stepped : Table → Split → Result Drawn Refusal → Outcome
stepped t s (Ok d) = record { number = 0; split = d.line; table = d.table }
stepped t s (Err e) = refused_step t (number_of e) s
