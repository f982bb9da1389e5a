-- What an allowance comes to: with none the line is the given one, with the largest no candidate is too long, and more never changes the line.
use Prim.Native.Nat.{ℕ, ◌+◌, ◌≤◌}
use native.Mathlib.Omega.{arith}
use mathlib.Core.Path.{◌≡◌, refl, sym, ap, subst, ◌∙◌}
use mathlib.Core.Logic.{⊎_elim}
use mathlib.Core.Bool.{true, cond}
use mathlib.Core.List.{List, [], ◌∷◌}
use borrow.Author.Tests.{le-leb, lt-leb, eq-eqb, ne_eqb}
use lib.Dec.{eqb}
use lib.ListN.{length}
use Rattle.axis.specs.Limits.{most_allowance}
use Rattle.axis.specs.Range.{only}
use Rattle.axis.proofs.Tests.{either, cond_true, cond_false, only_all}
use Rattle.axis.proofs.Runs.{if_at_most}
use Rattle.mesh.specs.Lines.{direction, other, Layout}
use Rattle.mesh.specs.Splits.{sound_with, given, asked, exact_number}
use Rattle.mesh.specs.Lengthening.{containing, Contains, steps_of, candidate, least_of, within, chosen, Candidate}
use Rattle.mesh.specs.Ends.{good_ends, nearest_good, LeastSoundLine, Allowances}
use Rattle.mesh.specs.Replay.{Replays}
use Rattle.mesh.specs.declared.Split.{Split}
use Rattle.mesh.specs.Crossings.{Built}
use Rattle.mesh.proofs.Ranges.{side_most}
use Rattle.mesh.proofs.Containing.{contains_same, containing_complete}
use Rattle.mesh.proofs.Passing.{Given, given_says, asked_given, exact_passes, ends_in}
use Rattle.mesh.proofs.ChosenLine.{candidate_exact}
use Rattle.mesh.proofs.TwoLooks.{two_looks}
use Rattle.mesh.proofs.LeastLine.{least_sound_line}
use Rattle.mesh.proofs.Accepted.{replays_sides, replays_stands}

-- A split that passes 3 to 7, on a map that accepted splits build:
module _ (P : Layout) (replays : Replays P) (s : Split) (passes : given P s ≡ 0) where
  g : Given P s
  g = given_says P s passes

  built : Built P
  built = (replays_stands replays).built

  abbrev n : Split
  n = nearest_good P s

  pub least : LeastSoundLine P s
  least = least_sound_line P built s passes

  pub nearest_accepted : exact_number P (nearest_good P s) ≡ 0
  nearest_accepted = let i = least.is_candidate in (candidate_exact P built.wide built.high s (nearest_good P s) passes i.0).0 i.1

  -- it contains itself, and a line that contains it and is no longer is the same;
  itself : Contains P s s
  itself = record { same_way = refl; same_place = refl; begins = omega arith; ends = omega arith; within = (ends_in P s g.fits).1 }

  no_longer : steps_of n ≤ steps_of s → n ≡ s
  no_longer = contains_same P s n least.is_candidate.0 (omega (arith, ends_in P s g.fits))

  -- so the line taken is the given one exactly where that is accepted as an exact split.
  given_candidate : exact_number P s ≡ 0 → Candidate P s s
  given_candidate e = (itself, (candidate_exact P built.wide built.high s s passes itself).1 e)

  pub exact_nearest : exact_number P s ≡ 0 → n ≡ s
  exact_nearest e =
      let o = least.in_all s (given_candidate e) in
      no_longer (omega (arith, o.begins, o.ends))

  pub nearest_exact : steps_of n ≤ steps_of s → exact_number P s ≡ 0
  nearest_exact le =
      (candidate_exact P built.wide built.high s s passes itself).0
      (subst (λ (c : Split). Candidate P s c) (no_longer le) least.is_candidate).1

  -- One that is not is refused with 8.
  pub exact_unsound : (exact_number P s ≡ 0 → ⊥) → exact_number P s ≡ 8
  exact_unsound ne =
      let is = (two_looks P built s passes).refused in
      ⊎_elim (λ t. absurd (ne (is ∙ rw t))) (λ f. is ∙ rw f) (either (good_ends P s))

  none_taken : chosen P s 0 ≡ cond (eqb (exact_number P s) 0) (s ∷ []) []
  none_taken =
      if_at_most (steps_of n) (steps_of s)
      (λ le. least.taken 0 ∙ cond_true _ _ _ (le-leb (steps_of n) (steps_of s + 0) (omega arith)) ∙ ap (λ (c : Split). c ∷ []) (no_longer le) ∙
      sym (cond_true _ _ _ (eq-eqb _ _ (nearest_exact le))))
      (λ gt. least.taken 0 ∙ cond_false _ _ _ (lt-leb (steps_of n) (steps_of s + 0) (omega arith)) ∙
      sym (cond_false _ _ _ (ne_eqb _ 0 (λ e. omega (arith, ap steps_of (exact_nearest e))))))

  -- No line is longer than the side.
  in_side : (c : Split) → Contains P s c → steps_of c ≤ steps_of s + most_allowance
  in_side c i =
      let a = replays_sides replays in
      omega (arith, side_most (other (direction s.direction)) a.1 a.3, i.within)

  all_within : chosen P s most_allowance ≡ least_of P (only (candidate P) (containing P s))
  unfolding chosen
  all_within =
      ap (λ (cs : List Split). least_of P (only (candidate P) cs))
      (only_all (within s most_allowance) (containing P s) (λ c m. le-leb _ _ (in_side c ((containing_complete P s c).0 m))))

  always_taken : chosen P s most_allowance ≡ nearest_good P s ∷ []
  always_taken = least.taken most_allowance ∙ cond_true _ _ _ (le-leb _ _ (in_side n least.is_candidate.0))

  more_taken : (a b : ℕ) (c : Split) → a ≤ b → chosen P s a ≡ c ∷ [] → chosen P s b ≡ c ∷ []
  more_taken a b c le e =
      if_at_most (steps_of n) (steps_of s + a)
      (λ lo. least.taken b ∙ cond_true _ _ _ (le-leb (steps_of n) (steps_of s + b) (omega arith)) ∙
      sym (sym e ∙ least.taken a ∙ cond_true _ _ _ (le-leb _ _ lo)))
      (λ gt. absurd (omega (arith, ap length (sym e ∙ least.taken a ∙ cond_false _ _ _ (lt-leb _ _ gt)))))

  sound_exact : sound_with P s ≡ true → exact_number P s ≡ 0
  unfolding exact_number
  sound_exact t = rw (passes, t)

  pub allowances : Allowances P s
  allowances =
      record {
        none = none_taken;
        largest = all_within;
        always = always_taken;
        given_line = λ t. given_candidate (sound_exact t);
        given_least = λ t. exact_nearest (sound_exact t);
        more = more_taken;
      }

-- With no allowance the split call draws what is accepted as an exact split.
pub exact_taken : (P : Layout) → Replays P → (s : Split) → exact_number P s ≡ 0 → (asked P s 0 ≡ 0) × (chosen P s 0 ≡ s ∷ [])
exact_taken P replays s e =
    let passes = (exact_passes P s e).0 in
    (asked_given P s 0 (omega arith) ∙ passes, (allowances P replays s passes).none ∙ cond_true _ _ _ (eq-eqb _ _ e))
