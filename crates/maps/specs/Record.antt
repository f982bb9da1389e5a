-- Document 01, "Values, readings, splits": the record of a map, and when it is good.
use Rattle.std.specs.Prelude.{ℕ, ◌-◌, ◌<◌, ◌≡◌, Bool, ◌&&◌, ◌++◌, leb, eqb, length, get_or, take, drop, replicate}
use Rattle.axis.specs.Limits.{most_splits, most_blends}
use Rattle.axis.specs.Range.{all}
use Rattle.mesh.specs.declared.Split.{Split}
use Rattle.mesh.specs.declared.Lines.{Lines}
use Rattle.mesh.specs.Lines.{Layout, layout_of}
use Rattle.mesh.specs.Splits.{live_of}
use Rattle.mesh.specs.Replay.{replays}
use Rattle.maps.specs.declared.Map.{Map}
use Rattle.maps.specs.Plain.{Plain}

abbrev pub no_split : Split
no_split = record { direction = 0; position = 0; from = 0; to = 0 }

abbrev pub is_no_split : Split → Bool
is_no_split s = eqb s.direction 0 && eqb s.position 0 && eqb s.from 0 && eqb s.to 0

abbrev pub is_zero : ℕ → Bool
is_zero v = eqb v 0

-- document 02, L5: "1 measured, 0 worked out"
abbrev pub is_mark : ℕ → Bool
is_mark k = leb k 1

-- "its sides, its splits in order and its values in table order; all unused places are zero"
unfoldable pub lines_of : Layout → Lines
lines_of P =
    record {
      w = P.w;
      h = P.h;
      count = length P.splits;
      splits = P.splits ++ replicate (most_splits - length P.splits) no_split;
    }

unfoldable pub record_of : Plain → Map
record_of P =
    record {
      lines = lines_of P.lines;
      values = P.values ++ replicate (most_blends - length P.values) 0;
      marks = P.marks ++ replicate (most_blends - length P.marks) 0;
    }

-- a record has all the places of its arrays, as the code's struct has
pub record Full (m : Map) : Type 0 where
  pub splits : length m.lines.splits ≡ most_splits
  pub values : length m.values ≡ most_blends
  pub marks : length m.marks ≡ most_blends

-- and its values are 16-bit numbers
pub record Held (m : Map) : Type 0 where
  pub full : Full m
  pub small : (i : ℕ) → get_or m.values i 0 < 65536

-- what the record holds: its values and marks are as many as its blends
unfoldable pub plain : Map → Plain
plain m =
    let k = length (live_of (layout_of m.lines)) in
    record { lines = layout_of m.lines; values = take k m.values; marks = take k m.marks }

-- "The record is good if sides, count and unused places are as said and its splits, taken in order as exact splits from a fresh map of those sides, are
-- all accepted." Document 02, L5: "Unused marks are 0, and a record with another mark isn't good."
unfoldable pub good : Map → Bool
good m =
    let k = length (live_of (layout_of m.lines)) in
    replays m.lines && all is_no_split (drop m.lines.count m.lines.splits) && all is_zero (drop k m.values) &&
    all is_mark m.marks && all is_zero (drop k m.marks)
