-- Two looks at the notes tell whether an end is good; and the search of a split, which has not passed the line between the nearest good ends.
use Prim.Native.Nat.{ℕ, ◌+◌, ◌-◌, ◌≤◌, ◌<◌}
use native.Mathlib.Omega.{arith}
use mathlib.Core.Path.{◌≡◌, refl, sym, ap, subst, ◌∙◌}
use mathlib.Core.Logic.{◌⊎◌, inl, inr, ⊎_elim}
use mathlib.Core.Bool.{Bool, true, false, ◌&&◌, ◌||◌}
use mathlib.Core.List.{List}
use borrow.Author.Tests.{le-leb, lt-leb}
use lib.ListN.{length, get_or}
use Rattle.axis.specs.Range.{any}
use Rattle.axis.specs.declared.Side.{Side}
use Rattle.axis.specs.declared.Side.TheVariants.{Lower as lower, Upper as upper}
use Rattle.axis.proofs.Tests.{true_not_false, and_both, and_of, cond_true, cond_false}
use Rattle.axis.proofs.Runs.{if_at_most, if_equal}
use Rattle.mesh.specs.Lines.{direction, other, side, mesh, Layout, layout}
use Rattle.mesh.specs.declared.Direction.{Direction}
use Rattle.mesh.specs.Blends.{live}
use Rattle.mesh.specs.Lengthening.{spanning, steps_of}
use Rattle.mesh.specs.Ends.{gap_ends, abreast, good_end, good_ends, nearest_good}
use Rattle.mesh.specs.Replay.{Replays}
use Rattle.mesh.specs.Bytes.{Rows, bytes_mesh}
use Rattle.mesh.specs.Carried.{Noted, Searches, alike, looks_good, looks_sound, told_of, found_by}
use Rattle.mesh.specs.declared.Split.{Split}
use Rattle.mesh.proofs.Ranges.{side_most, in_range_small, in_range_rows}
use Rattle.mesh.proofs.Passing.{Given, given_says, ends_in}
use Rattle.mesh.proofs.GoodEnds.{gap_good}
use Rattle.mesh.proofs.TwoLooks.{low_end, high_end}
use Rattle.mesh.proofs.Accepted.{replays_sides, replays_stands, replays_sound}
use Rattle.mesh.proofs.Noting.{notes_long, alike_abreast}

-- the notes of a map's live blends for a split's position
module _ {w h : ℕ} {ss : List Split} (taken : Replays (layout w h ss)) (s : Split) {lows highs : List ℕ} (n : Noted w h ss s lows highs) where
  abbrev d : Direction
  d = direction s.direction

  abbrev z : ℕ
  z = s.position + 1

  pub noted_long : (length lows ≡ 131) × (length highs ≡ 131)
  noted_long =
      let a = replays_sides taken in
      let long = notes_long w h a.0 a.1 a.2 a.3 (mesh w h ss) (replays_sound taken) d z in
      (ap length n.is_low ∙ long upper, ap length n.is_high ∙ long lower)

  alike_any : (e : Side) (k : ℕ) →
      alike e d (get_or lows k 0) (get_or highs k 0) ≡ any (λ A. any (abreast d z e k A) (live w h (mesh w h ss))) (live w h (mesh w h ss))
  alike_any e k =
      let a = replays_sides taken in
      rw (n.is_low, n.is_high) (alike_abreast w h a.0 a.1 a.2 a.3 (mesh w h ss) (replays_sound taken) d z e k)

  pub looks_good_lem : (e : Side) (k : ℕ) →
      looks_good (mesh w h ss) (direction s.direction) (s.position + 1) (side (other (direction s.direction)) w h) lows highs e k ≡
      good_end (layout w h ss) (direction s.direction) (s.position + 1) e k
  unfolding good_end
  looks_good_lem lower k = ap (λ (b : Bool). gap_ends (layout w h ss) d z lower k || b) (alike_any lower k)
  looks_good_lem upper k = ap (λ (b : Bool). gap_ends (layout w h ss) d z upper k || b) (alike_any upper k)

  -- of a line at the split's position
  pub looks_sound_lem : (c : Split) → c.direction ≡ s.direction → c.position ≡ s.position →
      looks_sound (mesh w h ss) (side (other (direction s.direction)) w h) lows highs c ≡ good_ends (layout w h ss) c
  unfolding good_ends
  looks_sound_lem c way place = rw (way, place, looks_good_lem lower (c.from + 1), looks_good_lem upper (c.to + 1))

-- the lines of so many unit steps from a start on are not past a line, by length and then by start
abbrev pub Ahead : Split → ℕ → ℕ → Type 0
Ahead c steps from = (steps < steps_of c) ⊎ ((steps ≡ steps_of c) × (from ≤ c.from))

-- a split's search
module _ {uprights levels lows highs : List ℕ} {run : ℕ} {s : Split} (i : Searches uprights levels lows highs run s) where
  abbrev P : Layout
  P = layout i.w i.h i.splits

  abbrev pub nearest : Split
  nearest = nearest_good P s

  abbrev pub looks : Split → Bool
  looks = looks_sound (bytes_mesh uprights levels) run lows highs

  g : Given P s
  g = given_says P s i.passes

  pub search_sizes : (s.position < 128) × (s.from < s.to) × (s.to ≤ run) × (run ≤ 128)
  search_sizes =
      let a = replays_sides i.carried.taken in
      let small = in_range_small i.w i.h s g.fits a.1 a.3 in
      let ends = ends_in P s g.fits in
      let along = i.along in
      (small.position, ends.0, omega arith, omega (arith, side_most (other (direction s.direction)) a.1 a.3))

  pub search_rows : Rows (s.position + 2) uprights × Rows (s.position + 2) levels
  search_rows =
      let t = i.carried.tall in
      ((in_range_rows i.w i.h s uprights g.fits t.0).0, (in_range_rows i.w i.h s levels g.fits t.1).0)

  looks_is : (c : Split) → c.direction ≡ s.direction → c.position ≡ s.position → looks c ≡ good_ends P c
  looks_is c way place = rw (i.carried.lines.drawn, i.along) (looks_sound_lem i.carried.taken s i.noted c way place)

  abbrev good : Side → ℕ → Bool
  good = good_end P (direction s.direction) (s.position + 1)

  nearest_low : (nearest.from ≤ s.from) × (good lower (nearest.from + 1) ≡ true) ×
      ((k : ℕ) → nearest.from < k → k ≤ s.from → good lower (k + 1) ≡ false)
  unfolding nearest_good
  nearest_low = low_end P (replays_stands i.carried.taken).built s g.fits g.apart good (gap_good P _ _)

  nearest_high : (s.to ≤ nearest.to) × (nearest.to ≤ run) × (good upper (nearest.to + 1) ≡ true) ×
      ((k : ℕ) → s.to ≤ k → k < nearest.to → good upper (k + 1) ≡ false)
  unfolding nearest_good
  nearest_high =
      let f = high_end P (replays_stands i.carried.taken).built s g.fits g.apart good (gap_good P _ _) in
      (f.0, rw i.along f.1, f.2, f.3)

  is_nearest : (steps from : ℕ) → steps ≡ steps_of nearest → from ≡ nearest.from → spanning s from (from + steps) ≡ nearest
  unfolding nearest_good
  is_nearest steps from p q =
      let last : from + steps ≡ nearest.to = omega (arith, nearest_low.0, nearest_high.0, search_sizes.1) in
      λ j. record { direction = s.direction; position = s.position; from = q j; to = last j }

  nearest_looks : looks nearest ≡ true
  unfolding nearest_good good_ends
  nearest_looks = looks_is nearest refl refl ∙ and_of _ _ nearest_low.1 nearest_high.2

  -- a line through the split between good ends reaches the nearest ones
  reaches : (c : Split) → c.direction ≡ s.direction → c.position ≡ s.position → c.from ≤ s.from → s.to ≤ c.to → looks c ≡ true →
      (c.from ≤ nearest.from) × (nearest.to ≤ c.to)
  unfolding good_ends
  reaches c way place begins ends t =
      let f : (good lower (c.from + 1) && good upper (c.to + 1)) ≡ true = rw (way, place) at (sym (looks_is c way place) ∙ t) in
      let a = and_both _ _ f in (
        if_at_most _ _ (λ le. le) (λ gt. absurd (true_not_false _ a.0 (nearest_low.2 c.from gt begins))),
        if_at_most _ _ (λ le. le) (λ gt. absurd (true_not_false _ a.1 (nearest_high.3 c.to ends gt))),
      )

  -- the search begins with the split's own length, and at each length with the first start from which that reaches the split's end
  pub search_starts : s.to - s.from ≤ steps_of nearest
  search_starts = omega (arith, nearest_low.0, nearest_high.0)

  pub search_enters : (steps from : ℕ) → steps ≤ steps_of nearest → from ≤ s.to - steps → Ahead nearest steps from
  search_enters steps from le begins =
      if_equal steps (steps_of nearest) (λ e. inr (e, omega (arith, nearest_high.0))) (λ ne. inl (omega arith))

  -- it goes past a line that is none, or has an end that is not good,
  pub search_passes : (steps from : ℕ) → Ahead nearest steps from → (from + steps ≤ run → looks (spanning s from (from + steps)) ≡ true → ⊥) →
      Ahead nearest steps (from + 1)
  search_passes steps from ahead off =
      ⊎_elim inl
      (λ r. if_equal from nearest.from
      (λ e. let same = is_nearest steps from r.0 e in
      let within : from + steps ≤ run = omega (arith, ap (λ (c : Split). c.to) same, nearest_high.1) in
      absurd (off within (subst (λ (c : Split). looks c ≡ true) (sym same) nearest_looks)))
      (λ ne. inr (r.0, omega arith)))
      ahead

  -- and on to the next length past the split's start;
  pub search_leaves : (steps from : ℕ) → Ahead nearest steps from → s.from < from → steps + 1 ≤ steps_of nearest
  search_leaves steps from ahead past = ⊎_elim (λ lt. omega arith) (λ r. absurd (omega (arith, nearest_low.0))) ahead

  -- a line between good ends is the one, and where the search ends without it, it is too long
  is_found : (steps from : ℕ) → Ahead nearest steps from → from ≤ s.from → s.to ≤ from + steps → looks (spanning s from (from + steps)) ≡ true →
      spanning s from (from + steps) ≡ nearest
  is_found steps from ahead begins ends t =
      let r = reaches (spanning s from (from + steps)) refl refl begins ends t in
      let low = nearest_low.0 in
      let high = nearest_high.0 in
      let sizes = search_sizes in
      ⊎_elim (λ lt. absurd (omega arith)) (λ f. is_nearest steps from f.0 (omega arith)) ahead

  pub search_finds : (steps longest from : ℕ) → Ahead nearest steps from → from ≤ s.from → s.to ≤ from + steps → steps ≤ longest →
      looks (spanning s from (from + steps)) ≡ true → told_of 0 (spanning s from (from + steps)) ≡ found_by s longest nearest
  search_finds steps longest from ahead begins ends le t =
      let is = is_found steps from ahead begins ends t in
      ap (told_of 0) is ∙ sym (cond_true _ _ _ (le-leb (steps_of nearest) longest (omega (arith, ap steps_of is))))

  pub search_ends : (steps longest : ℕ) → steps ≤ steps_of nearest → longest < steps → told_of 8 s ≡ found_by s longest nearest
  search_ends steps longest le past = sym (cond_false _ _ _ (lt-leb (steps_of nearest) longest (omega arith)))
