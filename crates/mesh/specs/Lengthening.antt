-- Document 01, "Values, readings, splits", and document 02, L4 and L7, on lines alone: which line a split takes.
use Rattle.std.specs.Prelude.{ℕ, ◌+◌, ◌-◌, ◌≤◌, ◌≡◌, ◌↔◌, Bool, true, ◌&&◌, not, leb, length}
use mathlib.Core.List.{List, [], ◌∷◌, Memᴰ}
use Rattle.axis.specs.Range.{each, any, only, least}
use Rattle.mesh.specs.Lines.{Layout, mesh_of, side, other, direction, shares, ended}
use Rattle.mesh.specs.Blends.{anchored}
use Rattle.mesh.specs.Splits.{live_of, with_line, sound_with}
use Rattle.mesh.specs.Crossings.{Point, anchors}
use Rattle.mesh.specs.declared.Split.{Split}
use Rattle.mesh.specs.declared.Blend.{Blend}

-- the side that the split runs along
abbrev pub run : Layout → Split → ℕ
run P s = side (other (direction s.direction)) P.w P.h

-- the line at the split's position between two other ends
abbrev pub spanning : Split → ℕ → ℕ → Split
spanning s from to = record { direction = s.direction; position = s.position; from = from; to = to }

-- "all lines that contain the given one", "between 0 and the side": they begin at its start or lower, and reach its end and not past the side
unfoldable pub containing : Layout → Split → List Split
containing P s = each 0 (s.from + 1) (λ from. each s.to (run P s + 1 - s.to) (λ to. spanning s from to ∷ []))

-- The same as a statement; `containing_complete`: the list has exactly these lines.
pub record Contains (P : Layout) (s c : Split) : Type 0 where
  pub same_way : c.direction ≡ s.direction
  pub same_place : c.position ≡ s.position
  pub begins : c.from ≤ s.from
  pub ends : s.to ≤ c.to
  pub within : c.to ≤ run P s

-- those that "have both ends on crossing lines, overlap nothing at their position by more than a point and leave a sound map"
unfoldable pub candidate : Layout → Split → Bool
candidate P c = ended (mesh_of P) c && not (shares (mesh_of P) c) && sound_with P c

-- how many live blends a line adds; on a map that accepted splits build, a candidate takes none away (`adds_new_anchors`), so nothing is cut off
abbrev pub adds : Layout → Split → ℕ
adds P c = length (live_of (with_line P c)) - length (live_of P)

-- some of the blends has its anchor where this one has it
abbrev pub known : List Blend → Blend → Bool
known bs B = any (anchored B.across.m B.up.m) bs

-- "A new anchor is a point somebody has to go and measure": the anchors of the map with the line that are none of the present map
abbrev pub new_anchors : Layout → Split → List Point
new_anchors P c = anchors (only (λ B. not (known (live_of P) B)) (live_of (with_line P c)))

-- how many unit steps a line has; its ends rise, so nothing is cut off
abbrev pub steps_of : Split → ℕ
steps_of c = c.to - c.from

-- Document 02, L4: of some lines "the one that adds the fewest live blends, then the shortest, then the one that starts lowest".
abbrev pub least_of : Layout → List Split → List Split
least_of P cs = least (λ c. c.from) (least steps_of (least (adds P) cs))

-- document 02, L7: "whose length is at most the given line's plus the allowance"
abbrev pub within : Split → ℕ → Split → Bool
within s allowance c = leb (steps_of c) (steps_of s + allowance)

-- The line that a split takes, if there is one: by that rule, of the candidates that are no longer. The given line is one of them if it leaves a sound map
-- (`given_line` of `Allowances`, specs/Ends).
unfoldable pub chosen : Layout → Split → ℕ → List Split
chosen P s allowance = least_of P (only (candidate P) (only (within s allowance) (containing P s)))

-- a line that contains the given one and is a candidate; and one within the allowance
abbrev pub Candidate : Layout → Split → Split → Type 0
Candidate P s c = Contains P s c × (candidate P c ≡ true)

abbrev pub Allowed : Layout → Split → ℕ → Split → Type 0
Allowed P s allowance c = Candidate P s c × (steps_of c ≤ steps_of s + allowance)

-- What `chosen_least` shows of it: the line taken is a candidate within the allowance; every other one adds at least as many; of those that add as few
-- none is shorter; of those as short none starts lower. It is one line, and there is none exactly where there is no such candidate.
pub record Least (P : Layout) (s : Split) (a : ℕ) : Type 0 where
  pub taken : (c : Split) → Memᴰ c (chosen P s a) → Allowed P s a c
  pub fewest : (b c : Split) → Memᴰ c (chosen P s a) → Allowed P s a b → adds P c ≤ adds P b
  pub shortest : (b c : Split) → Memᴰ c (chosen P s a) → Allowed P s a b → adds P b ≡ adds P c → steps_of c ≤ steps_of b
  pub lowest : (b c : Split) → Memᴰ c (chosen P s a) → Allowed P s a b → adds P b ≡ adds P c → steps_of b ≡ steps_of c → c.from ≤ b.from
  pub one : (b : Split) → Allowed P s a b → (c : Split) × (chosen P s a ≡ c ∷ [])
  pub none : chosen P s a ≡ [] ↔ ((b : Split) → Allowed P s a b → ⊥)
