-- Document 01, "Pits on paper": the starred cases as one table under one theorem, and a second table of rows that they do not notice.
use Rattle.std.specs.Prelude.{ℕ, ◌+◌, ◌≡◌, refl, List, [], ◌∷◌, pos, negsuc, length, replicate}
use Rattle.mesh.specs.declared.Split.{Split}
use Rattle.axis.specs.Range.{only}
use Rattle.axis.specs.Triple as Triple
use Rattle.axis.specs.Nearest as Nearest
use Rattle.mesh.specs.Lines.{Layout, layout}
use Rattle.mesh.specs.Lines as Lines
use Rattle.mesh.specs.Blends as Blends
use Rattle.mesh.specs.Sound.{over_square}
use Rattle.mesh.specs.Sound as Sound
use Rattle.maps.specs.Plain.{Plain, fresh_plain, blends}
use Rattle.maps.specs.Values.{sum_at, reading_at, carried, kept_mark, drawn}
use Rattle.mesh.specs.Splits.{live_of, with_line, given, asked}
use Rattle.mesh.specs.Lengthening.{containing, candidate, chosen}
use Rattle.maps.specs.Calls.{fresh_map, set_plain}
use Rattle.maps.specs.Straight.{flow}
use Rattle.maps.specs.Histories.{Call, set, split, exactly, reads, along_row, along_column, Answer, number, placed, read, weighed, walked, told, number_of, outcome, by_machine}
use Rattle.cases.specs.Drawn.{upright, level}

-- a row, on the map that the rows before it left
data Row : Type 0 where
  -- a call, its number, and the litres of a reading, the count of pairs or else the count of live blends after the call
  row : Call → ℕ → ℕ → Row
  -- a call along a row or a column that is accepted: how many pairs, and the first point of the first
  reached : Call → ℕ → ℕ → Row
  -- a split and its allowance, the line that is drawn, and the count of live blends after it
  draws : Split → ℕ → Split → ℕ → Row
  -- the marks of the values, in table order
  marked : List ℕ → Row
  -- with a line drawn as given, in how many supports the unit square at (x, y) lies
  supports : Split → ℕ → ℕ → ℕ → Row

shown_by : Answer → Plain → ℕ
shown_by (number n) P = length (blends P)
shown_by (placed p) P = length (blends P)
shown_by (read r) P = r.litres
shown_by (weighed w) P = length (blends P)
shown_by (walked p) P = p.count
shown_by (told s) P = length (blends P)

-- a split that is drawn as given, with no allowance
abbrev exact : Split → ℕ → Row
exact s k = draws s 0 s k

-- the rows hold, each call on what the one before it left
Right : Plain → List Row → Type 0
Right P [] = Unit
Right P (row c n s ∷ rs) =
    let o = by_machine P c in
    (number_of o.answer ≡ n) × (shown_by o.answer o.next ≡ s) × Right o.next rs
Right P (reached c n k ∷ rs) = ((by_machine P c).answer ≡ walked (record { number = 0; count = n; first = k })) × Right P rs
Right P (draws s a c k ∷ rs) =
    (asked P.lines s a ≡ 0) × (chosen P.lines s a ≡ c ∷ []) × (length (blends (drawn P c)) ≡ k) × Right (drawn P c) rs
Right P (marked ks ∷ rs) = (P.marks ≡ ks) × Right P rs
Right P (supports s x y n ∷ rs) = (length (only (over_square (x + 1) (y + 1)) (live_of (with_line P.lines s))) ≡ n) × Right P rs

-- a row that draws says what the plain machine does
machine_draws : (P : Plain) (s : Split) (a : ℕ) (c : Split) → asked P.lines s a ≡ 0 → chosen P.lines s a ≡ c ∷ [] →
    by_machine P (split s a) ≡ outcome (number 0) (drawn P c)
machine_draws P s a c passes takes = rw (passes, takes)

-- the number of a fresh map of two sides, and rows on it
data Case : Type 0 where
  sides : ℕ → ℕ → ℕ → Case
  on : ℕ → ℕ → List Row → Case

AllRight : List Case → Type 0
AllRight [] = Unit
AllRight (sides w h n ∷ cs) = ((fresh_map w h).number ≡ n) × AllRight cs
AllRight (on w h rows ∷ cs) = ((fresh_map w h).number ≡ 0) × Right (fresh_plain w h) rows × AllRight cs

starred : List Case
starred =
    -- sides 0 and 129; sides 1 and 128
    sides 0 8 1 ∷ sides 8 0 1 ∷ sides 129 8 1 ∷ sides 8 129 1 ∷ sides 1 128 0 ∷ sides 128 1 0 ∷
    -- six blends, nine, ten; then exact 8, with square (0, 0) in five supports, and with the largest allowance fourteen, drawn 0 to 8
    on 8 8
    (exact (upright 4 0 8) 6 ∷ exact (level 4 0 8) 9 ∷ exact (upright 2 0 4) 10 ∷ row (exactly (level 2 0 2)) 8 10 ∷
    supports (level 2 0 2) 0 0 5 ∷ row (exactly (level 2 0 4)) 8 10 ∷ draws (level 2 0 2) 128 (level 2 0 8) 14 ∷ []) ∷
    -- a line that cuts nothing, and one that does
    on 8 8
    (exact (level 2 0 8) 6 ∷ exact (level 4 0 8) 8 ∷ row (exactly (upright 4 2 4)) 7 8 ∷ exact (upright 4 0 4) 10 ∷ []) ∷
    -- an end in the open, positions at the sides, a line twice
    on 8 8
    (row (exactly (upright 4 0 3)) 6 4 ∷ row (exactly (upright 0 0 8)) 3 4 ∷ row (exactly (upright 8 0 8)) 3 4 ∷ exact (upright 4 0 8) 6 ∷
    row (exactly (upright 4 0 8)) 5 6 ∷ []) ∷
    -- readings, with L6 to the nearest
    on 3 1 (row (set 3 0 10) 0 4 ∷ row (set 3 1 10) 0 4 ∷ row (reads 1 0) 0 3 ∷ row (reads 2 1) 0 7 ∷ []) ∷
    on 4 1
    (row (set 4 0 6) 0 4 ∷ row (set 4 1 6) 0 4 ∷ row (reads 2 0) 0 3 ∷ exact (upright 1 0 1) 6 ∷ row (reads 2 0) 0 3 ∷ []) ∷
    []

beside : List Case
beside =
    -- a new anchor takes the old map's reading there, one and a half rounded
    on 4 1 (row (set 4 0 6) 0 4 ∷ exact (upright 1 0 1) 6 ∷ row (reads 1 0) 0 2 ∷ row (reads 4 0) 0 6 ∷ []) ∷
    -- points and anchors outside; far sides
    on 8 8 (row (reads 8 8) 0 0 ∷ row (reads 9 0) 10 0 ∷ row (set 1 0 7) 9 4 ∷ row (set 8 8 65535) 0 4 ∷ row (reads 8 8) 0 65535 ∷ []) ∷
    -- lines that share one step; lines that touch are one line; a line grows to the left
    on 8 8
    (exact (level 4 0 8) 6 ∷ exact (upright 4 0 4) 7 ∷ row (exactly (upright 4 3 8)) 5 7 ∷ exact (upright 4 4 8) 9 ∷ exact (upright 6 0 4) 10 ∷
    draws (level 2 6 8) 128 (level 2 0 8) 14 ∷ []) ∷
    -- sides of one step
    on 1 1 (row (reads 1 1) 0 0 ∷ row (exactly (upright 1 0 1)) 3 4 ∷ []) ∷
    -- the straight pump 40 − 6 u + 5 v − u v: its corners measured, then split; new anchors and points between them
    on 4 3
    (row (set 0 0 40) 0 4 ∷ row (set 4 0 16) 0 4 ∷ row (set 0 3 55) 0 4 ∷ row (set 4 3 19) 0 4 ∷ exact (upright 2 0 3) 6 ∷ exact (level 1 0 2) 7 ∷
    row (reads 0 1) 0 45 ∷ row (reads 1 2) 0 42 ∷ row (reads 3 2) 0 26 ∷ []) ∷
    -- L2: readings 0, 3, 7, 10 along a row of 3 by 1, and 5 to 10 up the last column; then a hill, 0, 5, 10, 5, 0, which crosses 5 once up and once down, below 5
    -- only at the ends; rows and columns outside, wanted flows out of range, no pair
    on 3 1
    (row (set 3 0 5) 0 4 ∷ row (set 3 1 10) 0 4 ∷ reached (along_row 1 7) 1 1 ∷ reached (along_row 1 8) 1 2 ∷ reached (along_column 3 6) 1 0 ∷ reached (along_row 0 1) 1 0 ∷
    row (along_row 2 6) 10 0 ∷ row (along_column 4 0) 10 0 ∷ row (along_row 1 11) 13 0 ∷ row (along_row 0 0) 13 0 ∷ row (along_column 3 65536) 13 0 ∷ []) ∷
    on 4 1
    (exact (upright 2 0 1) 6 ∷ row (set 2 0 10) 0 6 ∷ reached (along_row 0 5) 2 0 ∷ reached (along_row 0 6) 2 1 ∷ reached (along_column 2 10) 1 0 ∷
    row (along_column 0 5) 13 0 ∷ []) ∷
    -- L5: a fresh map's marks; a value set to what it is; a split, which keeps old marks and gives new anchors 0; no anchor
    on 4 1
    (marked (0 ∷ 0 ∷ 0 ∷ 0 ∷ []) ∷ row (set 4 0 0) 0 4 ∷ marked (0 ∷ 0 ∷ 1 ∷ 0 ∷ []) ∷ exact (upright 1 0 1) 6 ∷ marked (0 ∷ 0 ∷ 0 ∷ 0 ∷ 1 ∷ 0 ∷ []) ∷
    row (set 2 0 7) 9 6 ∷ row (set 1 1 3) 0 6 ∷ marked (0 ∷ 0 ∷ 0 ∷ 1 ∷ 1 ∷ 0 ∷ []) ∷ []) ∷
    -- L6: 7 parts of 16 are just below a half, 8 are a half; and no reading is above 65,535
    on 4 4
    (row (set 4 4 7) 0 4 ∷ row (reads 1 1) 0 0 ∷ row (set 4 4 8) 0 4 ∷ row (reads 1 1) 0 1 ∷ row (set 0 0 65535) 0 4 ∷ row (set 4 0 65535) 0 4 ∷
    row (set 0 4 65535) 0 4 ∷ row (set 4 4 65534) 0 4 ∷ row (reads 1 1) 0 65535 ∷ []) ∷
    -- L6, sharp bounds: a split moves a reading up by one, from a third to a half, and down by one, from a half to a third
    on 3 1 (row (set 3 0 1) 0 4 ∷ row (reads 1 0) 0 0 ∷ exact (upright 2 0 1) 6 ∷ row (reads 1 0) 0 1 ∷ []) ∷
    on 4 1 (row (set 4 0 1) 0 4 ∷ row (reads 2 0) 0 1 ∷ exact (upright 1 0 1) 6 ∷ row (reads 2 0) 0 0 ∷ []) ∷
    -- L7: an allowance out of range, one step too few, and as many as the line needs
    on 8 8
    (exact (upright 4 0 8) 6 ∷ exact (level 4 0 8) 9 ∷ exact (upright 2 0 4) 10 ∷ row (split (level 2 0 2) 129) 3 10 ∷
    row (split (level 2 0 2) 5) 8 10 ∷ draws (level 2 0 2) 6 (level 2 0 8) 14 ∷ []) ∷
    []

all_starred : AllRight starred
unfolding AllRight starred beside Right shown_by fresh_map set_plain drawn given asked containing candidate chosen sum_at reading_at carried kept_mark fresh_plain Triple.half Triple.hat Lines.in_range Lines.draws Lines.fresh_mesh Lines.mesh Lines.on_line Lines.shares Lines.ended Blends.halve Nearest.below Nearest.above Nearest.nearest Blends.is_cut Blends.leaves Blends.leaves_of Blends.once Blends.in_table_order Blends.refine Blends.live Sound.four_everywhere Sound.none_nested Sound.sound
all_starred = (refl, (refl, (refl, (refl, (refl, (refl, (refl, (refl, refl, refl, (refl, refl, refl, (refl, refl, refl, (refl, refl, (refl, (refl, refl, (refl, refl, refl, tt))))))), (refl, (refl, refl, refl, (refl, refl, refl, (refl, refl, (refl, refl, refl, tt)))), (refl, (refl, refl, (refl, refl, (refl, refl, (refl, refl, refl, (refl, refl, tt))))), (refl, (refl, refl, (refl, refl, (refl, refl, (refl, refl, tt)))), (refl, (refl, refl, (refl, refl, (refl, refl, (refl, refl, refl, (refl, refl, tt))))), tt)))))))))))

all_beside : AllRight beside
unfolding AllRight starred beside Right shown_by fresh_map set_plain drawn given asked containing candidate chosen sum_at reading_at carried kept_mark fresh_plain Triple.half Triple.hat Lines.in_range Lines.draws Lines.fresh_mesh Lines.mesh Lines.on_line Lines.shares Lines.ended Blends.halve Nearest.below Nearest.above Nearest.nearest Blends.is_cut Blends.leaves Blends.leaves_of Blends.once Blends.in_table_order Blends.refine Blends.live Sound.four_everywhere Sound.none_nested Sound.sound
all_beside = (refl, (refl, refl, (refl, refl, refl, (refl, refl, (refl, refl, tt)))), (refl, (refl, refl, (refl, refl, (refl, refl, (refl, refl, (refl, refl, tt))))), (refl, (refl, refl, refl, (refl, refl, refl, (refl, refl, (refl, refl, refl, (refl, refl, refl, (refl, refl, refl, tt)))))), (refl, (refl, refl, (refl, refl, tt)), (refl, (refl, refl, (refl, refl, (refl, refl, (refl, refl, (refl, refl, refl, (refl, refl, refl, (refl, refl, (refl, refl, (refl, refl, tt))))))))), (refl, (refl, refl, (refl, refl, (refl, (refl, (refl, (refl, (refl, refl, (refl, refl, (refl, refl, (refl, refl, (refl, refl, tt))))))))))), (refl, (refl, refl, refl, (refl, refl, (refl, (refl, (refl, (refl, refl, tt)))))), (refl, (refl, (refl, refl, (refl, (refl, refl, refl, (refl, (refl, refl, (refl, refl, (refl, tt)))))))), (refl, (refl, refl, (refl, refl, (refl, refl, (refl, refl, (refl, refl, (refl, refl, (refl, refl, (refl, refl, (refl, refl, tt))))))))), (refl, (refl, refl, (refl, refl, (refl, refl, refl, (refl, refl, tt)))), (refl, (refl, refl, (refl, refl, (refl, refl, refl, (refl, refl, tt)))), (refl, (refl, refl, refl, (refl, refl, refl, (refl, refl, refl, (refl, refl, (refl, refl, (refl, refl, refl, tt)))))), tt))))))))))))

-- that pump's flow at the last of these points
straight_flow : flow (pos 40) (negsuc 5) (pos 5) (negsuc 0) (pos 3) (pos 2) ≡ pos 26
straight_flow = refl

-- A map of 60 splits takes no more: 4 comes after 3 and before 5; with 59 the next check is made.
crowded : ℕ → Layout
crowded n = layout 8 8 (replicate n (upright 4 0 8))

sixty_splits : (given (crowded 60) (upright 8 0 8) ≡ 3) × (given (crowded 60) (upright 4 0 8) ≡ 4) × (given (crowded 59) (upright 4 0 8) ≡ 5)
unfolding crowded upright given Lines.in_range Lines.draws Lines.fresh_mesh Lines.mesh Lines.shares
sixty_splits = (refl, refl, refl)
