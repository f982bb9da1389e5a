-- What is carried from split to split while splits are taken in order, and what is noted for a line over it. Only contracts of functions that the crate keeps
-- to itself cite this file.
use Rattle.std.specs.Prelude.{ℕ, zero, suc, ◌+◌, ◌-◌, ◌*◌, ◌/◌, ◌%◌, ◌<◌, ◌≤◌, ◌≡◌, Bool, false, cond, ◌&&◌, ◌||◌, not, List, [], ◌∷◌, ◌++◌, ltb, leb, eqb, length, get_or, set, replicate, Option, Some, None, Result, Ok, Err, IfSome}
use Rattle.std.specs.Iterator.{YieldsFirst}
use Rattle.axis.specs.Limits.{largest_side}
use Rattle.axis.specs.Range.{each, only}
use Rattle.axis.specs.Triple.{knot_in}
use Rattle.axis.specs.declared.Side.{Side}
use Rattle.axis.specs.declared.Side.TheVariants.{Lower as lower, Upper as upper}
use Rattle.mesh.specs.Lines.{direction, other, side, Mesh, mesh, draws, Layout, layout}
use Rattle.mesh.specs.declared.Direction.{Direction}
use Rattle.mesh.specs.declared.Direction.TheVariants.{Upright as upright, Level as level}
use Rattle.mesh.specs.Blends.{crossed, along, anchored, live}
use Rattle.mesh.specs.Splits.{given}
use Rattle.mesh.specs.Lengthening.{steps_of}
use Rattle.mesh.specs.Replay.{Replays}
use Rattle.mesh.specs.Ends.{back, nearest_good}
use Rattle.mesh.specs.Bytes.{Rows, Tall, Zeros, bytes_mesh, packed, unpacked, kept}
use Rattle.mesh.specs.declared.Split.{Split}
use Rattle.mesh.specs.declared.Blend.{Blend}
use Rattle.mesh.specs.declared.carried.Drawing.{Drawing}
use Rattle.mesh.specs.declared.notes.Notes.{Notes}
use Rattle.mesh.specs.declared.read.Kept.{Kept}
use Rattle.mesh.specs.declared.refusal.Refusal.{Refusal}
use Rattle.mesh.specs.Refusals.{number_of}

-- Links over knots: from each to a later one, past knots that are free.
pub record Leads (free : ℕ → Type 0) (links : List ℕ) : Type 0 where
  pub long : length links ≡ 131
  pub on : (k : ℕ) → k < 131 → k < get_or links k 0
  pub past : (k y : ℕ) → k < 131 → k < y → y < 131 → y < get_or links k 0 → free y

-- what linking knot z does to them
pub record Linked (before after : List ℕ) (z : ℕ) : Type 0 where
  pub long : length after ≡ 131
  pub at : (k : ℕ) → k < 131 → get_or after k 0 ≡ cond (ltb k z && ltb z (get_or before k 0)) z (get_or before k 0)

-- no line of the direction stands at a knot
abbrev pub Bare : Mesh → Direction → ℕ → Type 0
Bare M d z = (k : ℕ) → M d z k ≡ false

-- places hold some blends: at each anchor the blend that has it, and nothing else
abbrev pub Held : List ℕ → List Blend → Type 0
Held places bs = (m n : ℕ) → m < 131 → n < 131 → kept places m n ≡ only (anchored m n) bs

-- A mesh in bytes, and links over the columns and the rows in which no line stands.
pub record InBytes (M : Mesh) (uprights levels columns rows : List ℕ) : Type 0 where
  pub drawn : bytes_mesh uprights levels ≡ M
  pub over_columns : Leads (Bare M upright) columns
  pub over_rows : Leads (Bare M level) rows

-- A map's sides and splits, all accepted; its lines so drawn; its live blends by anchor.
pub record Carried (w h : ℕ) (ss : List Split) (uprights levels columns rows places : List ℕ) : Type 0 where
  pub taken : Replays (layout w h ss)
  pub tall : Tall w h uprights × Tall w h levels × Tall w h places
  pub lines : InBytes (mesh w h ss) uprights levels columns rows
  pub held : Held places (live w h (mesh w h ss))

-- A note: a blend in one number, which is not 0.
abbrev pub noted : Blend → ℕ
noted B = packed B * 65536 + (B.across.m * 256 + B.up.m)

unfoldable pub unnoted : ℕ → Blend
unnoted c = unpacked (c / 256 % 256) (c % 256) (c / 65536)

-- The notes for a line of the direction at knot z: of the blends over it those with their anchor before it (`upper`: z lies in the upper part of their
-- triple) or after it, each at the level of its anchor.
unfoldable pub note_all : Side → Direction → ℕ → List ℕ → List Blend → List ℕ
note_all e d z notes [] = notes
note_all e d z notes (B ∷ bs) = note_all e d z (cond (knot_in e z (crossed d B)) (set notes (along d B).m (noted B)) notes) bs

abbrev pub blank : List ℕ
blank = replicate 131 0

abbrev pub notes : Side → Direction → ℕ → List Blend → List ℕ
notes e d z bs = note_all e d z blank bs

-- Two looks: at a level both a blend before the line and one after it are noted, and they reach equally far back from there along the line.
abbrev pub alike : Side → Direction → ℕ → ℕ → Bool
alike e d a b = not (eqb a 0) && not (eqb b 0) && eqb (back e (along d (unnoted a))) (back e (along d (unnoted b)))

-- The knots from which and to which a line runs, with the steps that are on before its first knot and after its last.
unfoldable pub runs_from : (ℕ → Bool) → ℕ → ℕ
runs_from line zero = 0
runs_from line (suc k) = let rest = runs_from line k in cond (line k) rest (suc k)

unfoldable pub runs_to : (ℕ → Bool) → ℕ → ℕ → ℕ
runs_to line k zero = k
runs_to line k (suc n) = let rest = runs_to line (k + 1) n in cond (line k) rest k

-- whether a noted blend lies along the line from knot `from` to knot `to`, so that the line cuts it; and all such, of two rows of notes
abbrev pub reached : Direction → ℕ → ℕ → ℕ → Bool
reached d from to c = not (eqb c 0) && leb from (along d (unnoted c)).l && leb (along d (unnoted c)).r to

abbrev pub if_reached : Direction → ℕ → ℕ → ℕ → List Blend
if_reached d from to c = cond (reached d from to c) (unnoted c ∷ []) []

unfoldable pub all_reached : Direction → ℕ → ℕ → List ℕ → List ℕ → List Blend
all_reached d from to lows highs = each from (to - from) (λ k. if_reached d from to (get_or lows k 0) ++ if_reached d from to (get_or highs k 0))

-- the tables have the rows of a blend: those of the lines that can cut it, and of the anchors of what is left of it
abbrev pub RowsOf : List ℕ → List ℕ → List ℕ → Blend → Type 0
RowsOf uprights levels places B = Rows B.across.r uprights × Rows B.up.r levels × Rows B.across.r places

-- Places that can be walked past the columns and rows in which nothing is kept.
pub record Walks (w h : ℕ) (columns rows places : List ℕ) : Type 0 where
  pub wide : w ≤ largest_side
  pub high : h ≤ largest_side
  pub tall : Rows (w + 3) places
  pub over_columns : Leads (λ m. (n : ℕ) → n < 131 → kept places m n ≡ []) columns
  pub over_rows : Leads (λ n. (m : ℕ) → m < 131 → kept places m n ≡ []) rows

-- links that lead past all knots
abbrev pub unlinked : List ℕ
unlinked = replicate 131 131

-- what a map of these sides is loaded into: nothing is drawn or linked, and nothing is kept
pub record Undrawn (w h : ℕ) (uprights levels columns rows : List ℕ) : Type 0 where
  pub tall : Tall w h uprights × Tall w h levels
  pub no_upright : Zeros uprights
  pub no_level : Zeros levels
  pub no_column : columns ≡ unlinked
  pub no_row : rows ≡ unlinked

pub record Cleared (w h : ℕ) (uprights levels columns rows places : List ℕ) : Type 0 where
  pub undrawn : Undrawn w h uprights levels columns rows
  pub tall : Tall w h places
  pub no_place : Zeros places

-- the notes of a map's live blends for a split's position
pub record Noted (w h : ℕ) (ss : List Split) (s : Split) (lows highs : List ℕ) : Type 0 where
  pub is_low : lows ≡ notes upper (direction s.direction) (s.position + 1) (live w h (mesh w h ss))
  pub is_high : highs ≡ notes lower (direction s.direction) (s.position + 1) (live w h (mesh w h ss))

-- Whether an end at level k is good, by the lines and the notes: `good_end` (specs/Ends), where the notes are those of the live blends. And both ends of a line.
abbrev pub looks_good : Mesh → Direction → ℕ → ℕ → List ℕ → List ℕ → Side → ℕ → Bool
looks_good M d z run lows highs lower k = (eqb k 1 || M d z (k - 1)) || alike lower d (get_or lows k 0) (get_or highs k 0)
looks_good M d z run lows highs upper k = (eqb k (run + 1) || M d z k) || alike upper d (get_or lows k 0) (get_or highs k 0)

abbrev pub looks_sound : Mesh → ℕ → List ℕ → List ℕ → Split → Bool
looks_sound M run lows highs s =
    let good = looks_good M (direction s.direction) (s.position + 1) run lows highs in good lower (s.from + 1) && good upper (s.to + 1)

-- a split that passes 3 to 7 on a map that is carried, with the notes for its position and the side that it runs along
pub record Searches (uprights levels lows highs : List ℕ) (run : ℕ) (s : Split) : Type 0 where
  pub w : ℕ
  pub h : ℕ
  pub splits : List Split
  pub columns : List ℕ
  pub rows : List ℕ
  pub places : List ℕ
  pub carried : Carried w h splits uprights levels columns rows places
  pub noted : Noted w h splits s lows highs
  pub passes : given (layout w h splits) s ≡ 0
  pub along : run ≡ side (other (direction s.direction)) w h

-- A verdict on a split: a number, and the line that is drawn; on a refusal the split as it came.
pub record Verdict : Type 0 where
  pub number : ℕ
  pub line : Split

abbrev pub told_of : ℕ → Split → Verdict
told_of n line = record { number = n; line = line }

-- the verdict of a search that goes as far as some length, where the line sought is this one
abbrev pub found_by : Split → ℕ → Split → Verdict
found_by s longest line = cond (leb (steps_of line) longest) (told_of 0 line) (told_of 8 s)

-- what a split comes to: refused with 3 to 7, or the verdict of the search within the allowance, which seeks the line between the nearest good ends
abbrev pub verdict : Layout → Split → ℕ → Verdict
verdict P s allowance = cond (eqb (given P s) 0) (found_by s (steps_of s + allowance) (nearest_good P s)) (told_of (given P s) s)

-- The same of what the code answers.
abbrev pub told_line : Split → Option Split → Verdict
told_line s (Some line) = told_of 0 line
told_line s None = told_of 8 s

abbrev pub judged : Split → Result Split Refusal → Verdict
judged s (Ok line) = told_of 0 line
judged s (Err e) = told_of (number_of e) s

-- A drawing that is cleared.
pub record Clear {n : ℕ} (t : Drawing n) : Type 0 where
  pub no_split : t.count ≡ 0
  pub cleared : Cleared t.w t.h t.uprights t.levels t.columns t.rows t.places

-- It has a row for each knot of either side.
abbrev pub TallBy : {n : ℕ} → Drawing n → Type 0
TallBy t = Tall t.w t.h t.uprights × Tall t.w t.h t.levels

-- It has the row of knot z.
abbrev pub RowAt : {n : ℕ} → ℕ → Drawing n → Type 0
RowAt z t = Rows (z + 1) t.uprights × Rows (z + 1) t.levels × (z < 131)

-- its lines
abbrev pub mesh_by : {n : ℕ} → Drawing n → Mesh
mesh_by t = bytes_mesh t.uprights t.levels

-- It has lines in bytes, and links.
abbrev pub LinesBy : {n : ℕ} → Mesh → Drawing n → Type 0
LinesBy M t = InBytes M t.uprights t.levels t.columns t.rows

-- What drawing lines leaves as it was: the sides, the blends, and how many bytes there are.
pub record Redrawn {n : ℕ} (t u : Drawing n) : Type 0 where
  pub is_w : u.w ≡ t.w
  pub is_h : u.h ≡ t.h
  pub is_places : u.places ≡ t.places
  pub long : (length u.uprights ≡ length t.uprights) × (length u.levels ≡ length t.levels)

-- the sides are drawn
pub record SidesDrawn {n : ℕ} (t u : Drawing n) : Type 0 where
  pub kept : Redrawn t u
  pub is_count : u.count ≡ t.count
  pub lines : LinesBy (mesh t.w t.h []) u

-- one split more is drawn, and its knot linked
pub record LineAdded {n : ℕ} (s : Split) (t u : Drawing n) : Type 0 where
  pub kept : Redrawn t u
  pub is_count : u.count ≡ t.count + 1
  pub drawn : (d : Direction) (z k : ℕ) → mesh_by u d z k ≡ (mesh_by t d z k || draws t.w t.h d z k s)
  pub linked : (M N : Mesh) → ((d : Direction) (z k : ℕ) → N d z k ≡ (M d z k || draws t.w t.h d z k s)) →
      Leads (Bare M upright) t.columns → Leads (Bare M level) t.rows → Leads (Bare N upright) u.columns × Leads (Bare N level) u.rows

-- A map that is carried.
pub record CarriedBy {n : ℕ} (P : Layout) (t : Drawing n) : Type 0 where
  pub is_w : t.w ≡ P.w
  pub is_h : t.h ≡ P.h
  pub many : t.count ≡ length P.splits
  pub carried : Carried P.w P.h P.splits t.uprights t.levels t.columns t.rows t.places

abbrev pub Carries : {n : ℕ} → Drawing n → Type 0
Carries t = (P : Layout) × CarriedBy P t

-- Its places can be walked.
abbrev pub WalksBy : {n : ℕ} → Drawing n → Type 0
WalksBy t = Walks t.w t.h t.columns t.rows t.places

-- The kept blends from knots (m, n) on: where a column of places begins, and within column m.
abbrev pub columns_left : ℕ → ℕ → List ℕ → ℕ → List Blend
columns_left w h places m = each m (w + 2 - m) (λ i. each 1 (h + 2 - 1) (kept places i))

abbrev pub places_left : ℕ → ℕ → List ℕ → ℕ → ℕ → List Blend
places_left w h places m n = each n (h + 2 - n) (kept places m) ++ columns_left w h places (m + 1)

unfoldable pub kept_from : ℕ → ℕ → List ℕ → ℕ → ℕ → List Blend
kept_from w h places m n = cond (leb m (w + 1)) (places_left w h places m n) []

abbrev pub kept_left : {n : ℕ} → Kept n → List Blend
kept_left k = kept_from k.drawing.now.w k.drawing.now.h k.drawing.now.places k.m k.n

abbrev pub CanWalk : {n : ℕ} → Kept n → Type 0
CanWalk {n} k = WalksBy k.drawing.now × ((k.drawing.now.w + 3) * 131 ≤ n) × (1 ≤ k.m) × (1 ≤ k.n)

-- the next of them, with its anchor within the tables
abbrev pub GivesKept : {n : ℕ} → Kept n → Option Blend → Kept n → Type 0
GivesKept k r after = YieldsFirst kept_left k r after × IfSome r (λ x. (x.across.m < 131) × (x.up.m < 131))

-- The notes for a split's position.
abbrev pub NotedBy : Layout → Split → Notes → Type 0
NotedBy P s n = Noted P.w P.h P.splits s n.lows n.highs

-- the side that lines of the direction run along
abbrev pub run_by : {n : ℕ} → Drawing n → Direction → ℕ
run_by t d = side (other d) t.w t.h

-- What the search for a line goes by.
abbrev pub SearchesBy : {n : ℕ} → Drawing n → Notes → Split → Type 0
SearchesBy t n s = Searches t.uprights t.levels n.lows n.highs (run_by t (direction s.direction)) s
