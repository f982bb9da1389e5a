-- Which ends a split may have: what refusal 8 comes to (document 01, "When a call says no"), and which line a split takes within an allowance.
use Rattle.std.specs.Prelude.{ℕ, ◌+◌, ◌-◌, ◌≤◌, ◌<◌, ◌≡◌, ◌↔◌, ◌⊎◌, Bool, true, cond, ◌&&◌, ◌||◌, [], ◌∷◌, eqb, length}
use Rattle.axis.specs.Limits.{most_allowance}
use Rattle.axis.specs.Range.{any, only}
use Rattle.axis.specs.Triple.{knot_in}
use Rattle.axis.specs.declared.Side.{Side}
use Rattle.axis.specs.declared.Side.TheVariants.{Lower as lower, Upper as upper}
use Rattle.axis.specs.Nearest.{below, above}
use Rattle.axis.specs.declared.Triple.{Triple}
use Rattle.mesh.specs.Lines.{direction, other, side, Layout, mesh_of}
use Rattle.mesh.specs.declared.Direction.{Direction}
use Rattle.mesh.specs.Blends.{crossed, along}
use Rattle.mesh.specs.Splits.{live_of, with_line, sound_with, exact_number}
use Rattle.mesh.specs.Lengthening.{run, spanning, Contains, candidate, adds, new_anchors, steps_of, containing, least_of, within, chosen, Candidate}
use Rattle.mesh.specs.declared.Split.{Split}
use Rattle.mesh.specs.declared.Blend.{Blend}

-- An end of a gap at position z: at knot k a line of the direction goes on, or the domain ends. `lower` is a gap's first knot, `upper` its last.
abbrev pub gap_ends : Layout → Direction → ℕ → Side → ℕ → Bool
gap_ends P d z lower k = eqb k 1 || mesh_of P d z (k - 1)
gap_ends P d z upper k = eqb k (side (other d) P.w P.h + 1) || mesh_of P d z k

-- how far a blend reaches back from the end of a line, along the line: it starts, or at a lower end it ends, there
abbrev pub back : Side → Triple → ℕ
back lower t = t.r
back upper t = t.l

-- Two blends over the end of a line at z, one with its anchor before the line and one with its anchor after it: both anchors are at the
-- level of the end, and both blends reach back along the line to the same level.
abbrev pub abreast : Direction → ℕ → Side → ℕ → Blend → Blend → Bool
abreast d z e k A B =
    knot_in upper z (crossed d A) && knot_in lower z (crossed d B) && eqb (along d A).m k && eqb (along d B).m k &&
    eqb (back e (along d A)) (back e (along d B))

-- A good end: the gap's, or one at which two live blends of the present map are so.
unfoldable pub good_end : Layout → Direction → ℕ → Side → ℕ → Bool
good_end P d z e k = gap_ends P d z e k || any (λ A. any (abreast d z e k A) (live_of P)) (live_of P)

unfoldable pub good_ends : Layout → Split → Bool
good_ends P s =
    let good = good_end P (direction s.direction) (s.position + 1) in good lower (s.from + 1) && good upper (s.to + 1)

-- The line through a given one, between the nearest ends of a kind at or before its start and at or after its end: the last of the numbers 1 to `from`
-- that is one, else 0, and the first of the numbers `to` to the side that is one. (0 and the side are ends of every kind.)
abbrev pub between : (Side → ℕ → Bool) → Layout → Split → Split
between ends P s =
    spanning s (below (λ k. ends lower (k + 1)) 0 s.from) (above (λ k. ends upper (k + 1)) (run P s + 1) (run P s + 1 - s.to))

-- the whole gap at the position; and the line between the nearest good ends
unfoldable pub gap : Layout → Split → Split
gap P s = between (gap_ends P (direction s.direction) (s.position + 1)) P s

unfoldable pub nearest_good : Layout → Split → Split
nearest_good P s = between (good_end P (direction s.direction) (s.position + 1)) P s

-- What `two_looks` shows of a split that passes 3 to 7, of every map that a history can reach:
pub record TwoLooks (P : Layout) (s : Split) : Type 0 where
  -- "The exact split leaves a map that is not sound": exactly where an end is not good.
  pub exact : sound_with P s ≡ good_ends P s
  pub refused : exact_number P s ≡ cond (good_ends P s) 0 8
  -- The candidates are the lines through it that would be accepted as exact splits: those within the gap whose ends are both good. The whole gap is one.
  pub accepted : (c : Split) → Contains P s c → candidate P c ≡ true ↔ (exact_number P c ≡ 0)
  pub candidates : (c : Split) → Contains P s c → candidate P c ≡ true ↔ (Contains P c (gap P s) × (good_ends P c ≡ true))
  pub whole_gap : Candidate P s (gap P s)

-- The least sound line (document 02, L4). What `least_sound_line` shows of such a split:
pub record LeastSoundLine (P : Layout) (s : Split) : Type 0 where
  -- The line between the nearest good ends is a candidate that lies in all the others.
  pub is_candidate : Candidate P s (nearest_good P s)
  pub in_all : (c : Split) → Candidate P s c → Contains P (nearest_good P s) c
  -- A candidate adds as many live blends as it makes new anchors, and fewer than every other one that it lies in;
  pub counts_new_anchors : (c : Split) → Candidate P s c → length (live_of (with_line P c)) ≡ length (live_of P) + length (new_anchors P c)
  pub longer_adds : (b c : Split) → Candidate P s b → Candidate P s c → Contains P b c → (b ≡ c) ⊎ (adds P b < adds P c)
  -- so "the fewest" names that line alone, as "the shortest" does: within an allowance a split takes it or none.
  pub taken : (allowance : ℕ) → chosen P s allowance ≡ cond (within s allowance (nearest_good P s)) (nearest_good P s ∷ []) []
  pub fewest_alone : (c : Split) → Candidate P s c → (nearest_good P s ≡ c) ⊎ (adds P (nearest_good P s) < adds P c)
  pub shortest_alone : (c : Split) → Candidate P s c → (nearest_good P s ≡ c) ⊎ (steps_of (nearest_good P s) < steps_of c)

-- What an allowance comes to (document 02, L7). What `allowances` shows of such a split:
pub record Allowances (P : Layout) (s : Split) : Type 0 where
  -- "Allowance 0 is the exact split."
  pub none : chosen P s 0 ≡ cond (eqb (exact_number P s) 0) (s ∷ []) []
  -- The largest is L4's lengthened split: no candidate is too long, so there always is a line.
  pub largest : chosen P s most_allowance ≡ least_of P (only (candidate P) (containing P s))
  pub always : chosen P s most_allowance ≡ nearest_good P s ∷ []
  -- "the given line among them if it leaves a sound map", and then it is the one that lies in all the others
  pub given_line : sound_with P s ≡ true → Candidate P s s
  pub given_least : sound_with P s ≡ true → nearest_good P s ≡ s
  -- Where an allowance accepts, every larger one takes the same line.
  pub more : (a b : ℕ) (c : Split) → a ≤ b → chosen P s a ≡ c ∷ [] → chosen P s b ≡ c ∷ []
