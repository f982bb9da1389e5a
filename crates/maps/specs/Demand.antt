-- Demand 3 of the product: one claim about a whole list of calls, in the words of document 01, "Histories"; with it what document 02 asks for of whole lists.
use Rattle.std.specs.Prelude.{ℕ, ◌+◌, ◌*◌, ◌%◌, ◌≤◌, ◌<◌, ◌≡◌, true, cond, eqb, ℤ, pos, length, get_or}
use mathlib.Core.List.{List, [], ◌∷◌, ◌++◌, map, Memᴰ}
use Rattle.mesh.specs.declared.Split.{Split}
use Rattle.mesh.specs.declared.Blend.{Blend}
use Rattle.axis.specs.Limits.{most_allowance}
use Rattle.axis.specs.Fraction.{Fraction, total}
use Rattle.mesh.specs.Lines.{Mesh, mesh, allowed_side}
use Rattle.mesh.specs.Blends.{first_four}
use Rattle.mesh.specs.Order.{SameMembers, Cutting, CuttingEnds, Coarser}
use Rattle.mesh.specs.Sound.{none, sound}
use Rattle.mesh.specs.Weight.{weight}
use Rattle.maps.specs.declared.Map.{Map}
use Rattle.maps.specs.Plain.{Plain, fresh_plain}
use Rattle.mesh.specs.Splits.{given, asked}
use Rattle.mesh.specs.Lengthening.{within, chosen}
use Rattle.mesh.specs.Crossings.{anchors, crossings, Tight}
use Rattle.mesh.specs.Ends.{good_ends, nearest_good, TwoLooks, LeastSoundLine, Allowances}
use Rattle.maps.specs.Record.{record_of, Held, plain, good}
use Rattle.maps.specs.Calls.{changed, fresh_map, shape, table_place, reading}
use Rattle.maps.specs.Histories.{Call, set, split, place, reads, weighs, along_row, along_column, same_as, number, Outcome, outcome, by_library, by_machine, outcomes, ending}
use Rattle.maps.specs.Allowance.{ByAllowance}
use Rattle.maps.specs.Straight.{ValuesStraight, ReadsStraight}
use Rattle.maps.specs.Reads.{Reads, values_set}
use Rattle.axis.specs.Range.{Distinct, greatest}

-- "A history starts from the fresh map of sides W and H"; beyond that, from any good record as the
-- struct holds it, such as one that was read from a file. What the map holds at the start of a
-- list:
pub data Start : Plain → Type 0 where
  fresh : (w h : ℕ) → allowed_side w ≡ true → allowed_side h ≡ true → Start (fresh_plain w h)
  given_record : (m : Map) → Held m → good m ≡ true → Start (plain m)

-- the map that a list of calls leaves; and a machine's outcome, with the record of what it holds
abbrev pub left_by : Plain → List Call → Map
left_by P cs = ending by_library (record_of P) cs

abbrev pub recorded : Outcome Plain → Outcome Map
recorded o = outcome o.answer (record_of o.next)

-- "A history's blends are the live blends, as the table calls give them after the list": place i answers 0 with the i-th blend, and 9 from
-- their count on.
pub record Tabled (m : Map) (bs : List Blend) : Type 0 where
  pub listed : (i : ℕ) → i < length bs → ((table_place m i).number ≡ 0) × ((table_place m i).blend ≡ shape (get_or bs i none))
  pub no_more : (i : ℕ) → length bs ≤ i → (table_place m i).number ≡ 9

-- a blend's weight at the point (p / d, q / d), which is one further on in knots
abbrev pub weight_there : Blend → ℕ → ℕ → ℕ → Fraction
weight_there B p q d = weight B (p + d) (q + d) d

-- "A blend is positive where its weight is above 0."
abbrev pub Positive : Fraction → Type 0
Positive x = (0 < x.num) × (0 < x.den)

abbrev pub Nothing : Fraction → Type 0
Nothing x = (x.num ≡ 0) × (0 < x.den)

-- "The inside of a unit square is strictly between its sides, fractional points included": the point (p / d, q / d), in that at (x, y)
pub record Inside (x y p q d : ℕ) : Type 0 where
  pub left : x * d < p
  pub right : p < (x + 1) * d
  pub bottom : y * d < q
  pub top : q < (y + 1) * d

-- "the same four blends are positive at all of it, every other one nowhere in it"
pub record FourIn (bs : List Blend) (x y : ℕ) : Type 0 where
  pub four : List Blend
  pub count : length four ≡ 4
  pub apart : Distinct four
  pub of_these : (B : Blend) → Memᴰ B four → Memᴰ B bs
  pub positive : (B : Blend) → Memᴰ B four → (p q d : ℕ) → Inside x y p q d → Positive (weight_there B p q d)
  pub others : (B : Blend) → Memᴰ B bs → (Memᴰ B four → ⊥) → (p q d : ℕ) → Inside x y p q d → Nothing (weight_there B p q d)

-- the blends add up to exactly one at each point (p / d, q / d) of the domain: "Points of the domain may lie on its edge."
abbrev pub AddUp : ℕ → ℕ → List Blend → Type 0
AddUp w h bs =
    (p q d : ℕ) → 0 < d → p ≤ w * d → q ≤ h * d →
    let sum = total (map (λ (B : Blend). weight_there B p q d) bs) in (sum.num ≡ sum.den) × (0 < sum.den)

-- "A reading is the answer of the reading call, on the map just before the split and just after it; an old anchor is one of the map just
-- before." At an old anchor the answer stays; document 02, L6: "a reading at any other whole point moves by at most one, up or down".
pub record Gentle (before after : Map) : Type 0 where
  pub anchors : (i : ℕ) → (table_place before i).number ≡ 0 →
      (u : ℕ) × (v : ℕ) × ((table_place before i).blend.m ≡ pos u) × ((table_place before i).blend.n ≡ pos v) ×
      ((reading before u v).number ≡ 0) × (reading after u v ≡ reading before u v)
  pub numbers : (u v : ℕ) → (reading after u v).number ≡ (reading before u v).number
  pub raised : (u v : ℕ) → (reading after u v).litres ≤ (reading before u v).litres + 1
  pub lowered : (u v : ℕ) → (reading before u v).litres ≤ (reading after u v).litres + 1

pub data IsSplit : Call → Type 0 where
  is_split : (s : Split) (allowance : ℕ) → IsSplit (split s allowance)

-- "The lines of a history are the fresh map's and those of its accepted splits, as drawn or as lengthened, run out and joined."
abbrev pub line_by : Plain → Call → List Split
line_by P (split s allowance) = cond (eqb (asked P.lines s allowance) 0) (chosen P.lines s allowance) []
line_by P (set i j v) = []
line_by P (place i) = []
line_by P (reads u v) = []
line_by P (weighs u v) = []
line_by P (along_row v wanted) = []
line_by P (along_column u wanted) = []
line_by P (same_as m) = []

abbrev pub lines_by : Plain → List Call → List Split
lines_by P [] = []
lines_by P (c ∷ cs) = line_by P c ++ lines_by (by_machine P c).next cs

abbrev pub mesh_by : Plain → List Call → Mesh
mesh_by P cs = mesh P.lines.w P.lines.h (P.lines.splits ++ lines_by P cs)

-- A split on a map, by the present map's two blends over each of its ends. It draws the line between the nearest good ends, which lies in every other line
-- that it could have drawn and adds fewer live blends than each; it is refused with 8 exactly where that line is longer than the allowance lets it be: with
-- none where an end is not good, with the largest never.
pub record ByEnds (m : Map) (s : Split) : Type 0 where
  pub says : (a : ℕ) → a ≤ most_allowance → (by_library m (split s a)).answer ≡ number (cond (within s a (nearest_good (plain m).lines s)) 0 8)
  pub drawn_line : (a : ℕ) → (by_library m (split s a)).answer ≡ number 0 →
      (plain (by_library m (split s a)).next).lines.splits ≡ (plain m).lines.splits ++ nearest_good (plain m).lines s ∷ []
  pub none_says : (by_library m (split s 0)).answer ≡ number (cond (good_ends (plain m).lines s) 0 8)
  pub largest_says : (by_library m (split s most_allowance)).answer ≡ number 0
  pub looks : TwoLooks (plain m).lines s
  pub least : LeastSoundLine (plain m).lines s
  pub allowances : Allowances (plain m).lines s

-- The demand on a list of calls, of a map that holds P at its start.
pub record DemandFrom (P : Plain) (cs : List Call) : Type 0 where
  -- 1. At every call the number, every part of the answer and the map handed back or left are those of the plain machine, the map being "the
  -- record of what the machine holds"; and so is the map after the list.
  pub same_outcomes : outcomes by_library (record_of P) cs ≡ map recorded (outcomes by_machine P cs)
  pub same_left : left_by P cs ≡ record_of (ending by_machine P cs)
  -- "A history's blends are the live blends, as the table calls give them after the list."
  pub blends : List Blend
  pub are_tabled : Tabled (left_by P cs) blends
  -- "The order of cutting must be shown not to matter": in whatever order the list's lines cut the
  -- first four, that comes to an end, and then exactly these blends are left.
  pub cutting_ends : CuttingEnds (mesh_by P cs) (first_four P.lines.w P.lines.h)
  pub any_order : (ds : List Blend) → Cutting (mesh_by P cs) (first_four P.lines.w P.lines.h) ds →
      SameMembers ds blends
  -- The map is sound, by both halves of document 01's sentence.
  pub is_sound : sound P.lines.w P.lines.h blends ≡ true
  -- 2. After the list, for each unit square of the domain exactly four of the table's blends are positive throughout its inside, the same four
  -- at all of it, every other one nowhere in it, fractional points included.
  pub four_in : (x y : ℕ) → x < P.lines.w → y < P.lines.h → FourIn blends x y
  -- 3. At every point of the domain with fractional coordinates, edges included, the blends that the table calls give add up to exactly one.
  pub add_up : AddUp P.lines.w P.lines.h blends
  -- 4. Every accepted split in the list, wherever it stands, leaves the reading call's answer at every old anchor alone and moves none at another whole
  -- point by more than one, up or down: the map just before it against the map just after.
  pub gentle : (earlier : List Call) (c : Call) (later : List Call) → cs ≡ earlier ++ c ∷ later → IsSplit c →
      let m = left_by P earlier in (by_library m c).answer ≡ number 0 → Gentle m (by_library m c).next
  -- 5. Any two lists on equal sides whose lines cover the same points end with the same blends: "Two histories' lines cover the same points when
  -- every unit step along a line of either lies on a line of the other." The record left after a list holds its lines.
  pub are_lines : (plain (left_by P cs)).lines.splits ≡ P.lines.splits ++ lines_by P cs
  pub same_blends : (Q : Plain) → Start Q → Q.lines.w ≡ P.lines.w → Q.lines.h ≡ P.lines.h → (ds : List Call) →
      Coarser (mesh_by P cs) (mesh_by Q ds) → Coarser (mesh_by Q ds) (mesh_by P cs) →
      (bs : List Blend) → Tabled (left_by Q ds) bs → bs ≡ blends
  -- Report 000, "there is one basis function for each cross vertex in the mesh": the anchors of the blends that the table calls give are the points
  -- where an upright and a level pass through each other, run-out counted, in the same order; so there are as many.
  pub are_crossings : anchors blends ≡ crossings P.lines.w P.lines.h (mesh_by P cs)
  -- Document 02, L9: inside the domain no line goes on past the grids of these blends, and the grids lie on lines. So any two lists on equal sides
  -- that end with the same blends have lines that cover the same points.
  pub are_grids : Tight P.lines.w P.lines.h (mesh_by P cs) blends
  pub same_lines : (Q : Plain) → Start Q → Q.lines.w ≡ P.lines.w → Q.lines.h ≡ P.lines.h → (ds : List Call) → Tabled (left_by Q ds) blends →
      Coarser (mesh_by P cs) (mesh_by Q ds) × Coarser (mesh_by Q ds) (mesh_by P cs)
  -- Refusal 8, of every split that follows the list and passes 3 to 7: by its ends.
  pub by_ends : (s : Split) → let m = left_by P cs in given (plain m).lines s ≡ 0 → ByEnds m s
  -- Document 02, L7, of every split that follows the list: what its allowance comes to.
  pub by_allowance : (s : Split) → ByAllowance (left_by P cs) s
  -- What the readings after the list are: weights that add up to one, values at anchors, and no
  -- flow that isn't there.
  pub reads_told : Reads (left_by P cs) P.lines.w P.lines.h (length blends)
  -- After a value is set, where that is accepted, the reading at its anchor is that value, a 16-bit
  -- number.
  pub set_reads : (i j v : ℕ) → let m = left_by P cs in (by_library m (set i j v)).answer ≡ number 0 →
      reading (by_library m (set i j v)).next i j ≡ record { number = 0; litres = v % 65536 }
  -- No reading after the list is above the greatest value that the map had before it or that some
  -- accepted call of the list set.
  pub none_above : (u v : ℕ) → (reading (left_by P cs) u v).litres ≤ greatest (P.values ++ values_set (record_of P) cs)
  -- Document 02, L1: where the value at each anchor (m, n), as the table calls give them after the list, is A + B × m + C × n + D × m × n, the reading at
  -- every whole point (u, v) of the domain is A + B × u + C × v + D × u × v.
  pub straight : (A B C D : ℤ) → ValuesStraight (left_by P cs) A B C D → ReadsStraight (left_by P cs) blends P.lines.w P.lines.h A B C D
  -- "however the map was split": an accepted split in the list, wherever it stands, leaves such values such, those at new anchors among them.
  pub stays_straight : (earlier : List Call) (c : Call) (later : List Call) → cs ≡ earlier ++ c ∷ later → IsSplit c →
      let m = left_by P earlier in (by_library m c).answer ≡ number 0 →
      (A B C D : ℤ) → ValuesStraight m A B C D → ValuesStraight (by_library m c).next A B C D

-- Demand 3, of a list of calls on a map of sides w and h: "A history starts from the fresh map of sides W and H."
pub record Demand3 (w h : ℕ) (cs : List Call) : Type 0 where
  pub made : fresh_map w h ≡ changed 0 (record_of (fresh_plain w h))
  pub holds : DemandFrom (fresh_plain w h) cs
  -- On a fresh map no reading after the list is above the greatest value that some accepted call of
  -- it set: 0 where none did.
  pub none_above : (u v : ℕ) →
      (reading (left_by (fresh_plain w h) cs) u v).litres ≤ greatest (values_set (record_of (fresh_plain w h)) cs)

-- and of a list of calls on any good record: it is the record of what it holds, so these are the
-- calls on the record itself.
pub record DemandOf (m : Map) (cs : List Call) : Type 0 where
  pub is_record : record_of (plain m) ≡ m
  pub holds : DemandFrom (plain m) cs
