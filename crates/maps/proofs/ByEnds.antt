-- A split on a map that was reached, by its ends: it draws between the nearest good ones, and is refused with 8 where that is too long.
use Prim.Native.Nat.{ℕ, ◌≤◌}
use native.Mathlib.Omega.{arith}
use mathlib.Core.Path.{◌≡◌, refl, sym, ap, subst, ◌∙◌}
use mathlib.Core.Logic.{⊎_elim}
use mathlib.Core.Bool.{Bool, true, false, cond}
use mathlib.Core.List.{[], ◌∷◌, ◌++◌}
use borrow.Author.Tests.{eqb-true, eqb-false}
use lib.Dec.{eqb}
use Rattle.axis.specs.Limits.{most_allowance}
use Rattle.axis.proofs.Tests.{either, cond_true}
use Rattle.mesh.specs.declared.Split.{Split}
use Rattle.mesh.specs.Splits.{given, asked, exact_number}
use Rattle.mesh.specs.Lengthening.{within, chosen}
use Rattle.mesh.specs.Ends.{good_ends, nearest_good, TwoLooks, LeastSoundLine, Allowances}
use Rattle.mesh.specs.Crossings.{Built}
use Rattle.mesh.proofs.Passing.{asked_given, asked_says}
use Rattle.mesh.proofs.TwoLooks.{two_looks}
use Rattle.mesh.proofs.Accepted.{replays_stands}
use Rattle.mesh.proofs.Allowance.{least, nearest_accepted, allowances}
use Rattle.maps.specs.declared.Map.{Map}
use Rattle.maps.specs.Plain.{Plain}
use Rattle.maps.specs.Values.{drawn}
use Rattle.maps.specs.Record.{record_of, plain}
use Rattle.maps.specs.Histories.{Call, split, number, Outcome, outcome, by_library, first_drawn, by_machine}
use Rattle.maps.specs.Demand.{recorded, ByEnds}
use Rattle.maps.proofs.GoodRecords.{record_good}
use Rattle.maps.proofs.Reached.{Reached, drawn_leads}
use Rattle.maps.proofs.Following.{step_follows}

-- a number that must be 0, and one of two lists of lines by a test
number_zero : (P : Plain) (n : ℕ) (x : Outcome Plain) → let o = cond (eqb n 0) x (outcome (number n) P) in o.answer ≡ number 0 → (n ≡ 0) × (o ≡ x)
number_zero P n x e =
    ⊎_elim (λ t. (eqb-true n 0 t, cond_true _ _ _ t)) (λ f. let q : number n ≡ number 0 = rw f at e in absurd (eqb-false n 0 f (cc)))
    (either (eqb n 0))

module _ (P : Plain) (c : Split) where
  first_says : (b : Bool) → (first_drawn P (cond b (c ∷ []) [])).answer ≡ number (cond b 0 8)
  first_says true = refl
  first_says false = refl

  first_draws : (b : Bool) → (first_drawn P (cond b (c ∷ []) [])).answer ≡ number 0 → first_drawn P (cond b (c ∷ []) []) ≡ outcome (number 0) (drawn P c)
  first_draws true e = refl
  first_draws false e = absurd (let z : ◌≡◌ {A = ℕ} 8 0 = cc in omega arith)

module _ (P : Plain) (at : Reached P) where
  pub built : Built P.lines
  built = (replays_stands at.holds.taken).built

  -- An accepted split has passed 3 to 7,
  pub accepted_given : (s : Split) (a : ℕ) → (by_machine P (split s a)).answer ≡ number 0 → given P.lines s ≡ 0
  accepted_given s a e = (asked_says P.lines s a (number_zero P (asked P.lines s a) (first_drawn P (chosen P.lines s a)) e).0).1

  -- and the plain machine, on one that has:
  module _ (s : Split) (e : given P.lines s ≡ 0) where
    abbrev n : Split
    n = nearest_good P.lines s

    sound_line : LeastSoundLine P.lines s
    sound_line = least P.lines at.holds.taken s e

    split_is : (a : ℕ) → a ≤ most_allowance → by_machine P (split s a) ≡ first_drawn P (cond (within s a n) (n ∷ []) [])
    split_is a few = rw (asked_given P.lines s a few, e, sound_line.taken a)

    pub split_draws : (a : ℕ) → (by_machine P (split s a)).answer ≡ number 0 → by_machine P (split s a) ≡ outcome (number 0) (drawn P n)
    split_draws a z =
        let few = (asked_says P.lines s a (number_zero P (asked P.lines s a) (first_drawn P (chosen P.lines s a)) z).0).0 in
        let is = split_is a few in
        is ∙ first_draws P n (within s a n) (sym (ap (λ (o : Outcome Plain). o.answer) is) ∙ z)

    says : (a : ℕ) → a ≤ most_allowance → (by_machine P (split s a)).answer ≡ number (cond (within s a n) 0 8)
    says a few = ap (λ (o : Outcome Plain). o.answer) (split_is a few) ∙ first_says P n (within s a n)

    -- with no allowance by its ends, with the largest always
    none_says : (by_machine P (split s 0)).answer ≡ number (cond (good_ends P.lines s) 0 8)
    none_says =
        ap (λ (o : Outcome Plain). o.answer) none_is ∙ first_says P s (eqb (exact_number P.lines s) 0) ∙
        ap (λ (k : ℕ). number (cond (eqb k 0) 0 8)) (two_looks P.lines built s e).refused ∙ by (good_ends P.lines s)
      where
        none_is : by_machine P (split s 0) ≡ first_drawn P (cond (eqb (exact_number P.lines s) 0) (s ∷ []) [])
        none_is = rw (asked_given P.lines s 0 (omega arith), e, (allowances P.lines at.holds.taken s e).none)

        by : (b : Bool) → number (cond (eqb (cond b 0 8) 0) 0 8) ≡ number (cond b 0 8)
        by true = refl
        by false = refl

    largest_says : (by_machine P (split s most_allowance)).answer ≡ number 0
    largest_says = rw (asked_given P.lines s most_allowance (omega arith), e, (allowances P.lines at.holds.taken s e).always)

    -- the line drawn is accepted, so the record holds it
    drawn_reached : Reached (drawn P n)
    drawn_reached = (drawn_leads P at n (nearest_accepted P.lines at.holds.taken s e)).reached

    drawn_splits : (drawn P n).lines.splits ≡ P.lines.splits ++ n ∷ []
    unfolding drawn
    drawn_splits = refl

  -- and so the library's calls on the record.
  pub ends_tell : (s : Split) → given (plain (record_of P)).lines s ≡ 0 → ByEnds (record_of P) s
  ends_tell s g =
      record {
        says = λ a few. answers (split s a) ∙ says s e a few ∙ ap (λ (Q : Plain). number (cond (within s a (nearest_good Q.lines s)) 0 8)) (sym held);
        drawn_line = λ a z.
            let leaves = step_follows P at (split s a) ∙ ap recorded (split_draws s e a (sym (answers (split s a)) ∙ z)) in
            ap (λ (o : Outcome Map). (plain o.next).lines.splits) leaves ∙
            ap (λ (Q : Plain). Q.lines.splits) (record_good (drawn_reached s e).holds).1 ∙ drawn_splits s e ∙
            ap (λ (Q : Plain). Q.lines.splits ++ nearest_good Q.lines s ∷ []) (sym held);
        none_says = answers (split s 0) ∙ none_says s e ∙ ap (λ (Q : Plain). number (cond (good_ends Q.lines s) 0 8)) (sym held);
        largest_says = answers (split s most_allowance) ∙ largest_says s e;
        looks = subst (λ (Q : Plain). TwoLooks Q.lines s) (sym held) (two_looks P.lines built s e);
        least = subst (λ (Q : Plain). LeastSoundLine Q.lines s) (sym held) (sound_line s e);
        allowances = subst (λ (Q : Plain). Allowances Q.lines s) (sym held) (allowances P.lines at.holds.taken s e);
      }
    where
      held : plain (record_of P) ≡ P
      held = (record_good at.holds).1

      e : given P.lines s ≡ 0
      e = ap (λ (Q : Plain). given Q.lines s) (sym held) ∙ g

      answers : (c : Call) → (by_library (record_of P) c).answer ≡ (by_machine P c).answer
      answers c = ap (λ (o : Outcome Map). o.answer) (step_follows P at c)
