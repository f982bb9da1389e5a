-- What an allowance comes to, of the whole outcome of the split call.
use Prim.Native.Nat.{ℕ, ◌+◌, ◌≤◌}
use native.Mathlib.Omega.{arith}
use mathlib.Core.Path.{◌≡◌, sym, ap, subst, ◌∙◌}
use mathlib.Core.Logic.{⊎_elim}
use mathlib.Core.Bool.{true, cond, not}
use borrow.Author.Tests.{le-leb, lt-leb, ne_eqb}
use lib.Dec.{eqb}
use Rattle.axis.specs.Limits.{most_allowance}
use Rattle.axis.specs.Range.{only}
use Rattle.axis.proofs.Tests.{either, cond_true, cond_false}
use Rattle.axis.proofs.Runs.{if_at_most, if_equal}
use Rattle.mesh.specs.declared.Split.{Split}
use Rattle.mesh.specs.Lines.{Layout}
use Rattle.mesh.specs.Splits.{given, asked, exact_number}
use Rattle.mesh.specs.Lengthening.{steps_of, containing, candidate, least_of, chosen}
use Rattle.mesh.specs.Ends.{nearest_good}
use Rattle.mesh.specs.Replay.{Replays}
use Rattle.mesh.proofs.Passing.{asked_given, exact_refused, given_most}
use Rattle.mesh.proofs.Allowance.{least, exact_unsound, allowances}
use Rattle.maps.specs.declared.Map.{Map}
use Rattle.maps.specs.Outcomes.{Changed}
use Rattle.maps.specs.Plain.{Plain}
use Rattle.maps.specs.Values.{drawn}
use Rattle.maps.specs.Record.{record_of, Full, plain, good}
use Rattle.maps.specs.Calls.{changed, drawn_first, split_within}
use Rattle.maps.specs.Allowance.{exact_split, lengthened_split, ByAllowance}
use Rattle.maps.proofs.GoodRecords.{record_good, good_facts}
use Rattle.maps.proofs.Reached.{Reached}

-- A record whose splits are all accepted, if it is good, and a split:
module _ (m : Map) (taken : good m ≡ true → Replays (plain m).lines) (s : Split) where
  abbrev P : Layout
  P = (plain m).lines

  -- what the call does on a good record,
  abbrev call : ℕ → Changed
  call a = let n = asked P s a in cond (eqb n 0) (drawn_first m (plain m) (chosen P s a)) (changed n m)

  -- by whether the split passes 3 to 7
  passing : (a : ℕ) → a ≤ most_allowance → given P s ≡ 0 → call a ≡ drawn_first m (plain m) (chosen P s a)
  passing a few e = rw (asked_given P s a few, e)

  refusing : (a : ℕ) → a ≤ most_allowance → (given P s ≡ 0 → ⊥) → call a ≡ changed (given P s) m
  refusing a few ne = rw (asked_given P s a few, ne_eqb _ 0 ne)

  -- two calls that agree on a good record agree
  if_good : (x y : Changed) → (good m ≡ true → x ≡ y) → cond (not (good m)) (changed 2 m) x ≡ cond (not (good m)) (changed 2 m) y
  if_good x y same = ⊎_elim (λ t. rw t (same t)) (λ f. rw f) (either (good m))

  none_is : good m ≡ true → call 0 ≡ cond (eqb (exact_number P s) 0) (changed 0 (record_of (drawn (plain m) s))) (changed (exact_number P s) m)
  none_is t =
      if_equal (given P s) 0
      (λ e. passing 0 (omega arith) e ∙ rw (allowances P (taken t) s e).none
      (if_equal (exact_number P s) 0 (λ z. rw z) (λ ne. rw (exact_unsound P (taken t) s e ne))))
      (λ ne. refusing 0 (omega arith) ne ∙ rw (exact_refused P s ne, ne_eqb _ 0 ne))

  largest_is : good m ≡ true →
      call most_allowance ≡ cond (eqb (given P s) 0) (drawn_first m (plain m) (least_of P (only (candidate P) (containing P s)))) (changed (given P s) m)
  largest_is t =
      if_equal (given P s) 0
      (λ e. passing most_allowance (omega arith) e ∙ rw (e, (allowances P (taken t) s e).largest))
      (λ ne. refusing most_allowance (omega arith) ne ∙ rw (ne_eqb _ 0 ne))

  never : good m ≡ true → (call most_allowance).number ≡ 8 → ⊥
  never t e8 =
      if_equal (given P s) 0
      (λ e. omega (
        arith,
        e8,
        ap (λ (c : Changed). c.number) (passing most_allowance (omega arith) e ∙ ap (drawn_first m (plain m)) (allowances P (taken t) s e).always),
      ))
      (λ ne. omega (arith, e8, given_most P s, ap (λ (c : Changed). c.number) (refusing most_allowance (omega arith) ne)))

  more_is : good m ≡ true → (a b : ℕ) → a ≤ b → b ≤ most_allowance → (call a).number ≡ 0 → call b ≡ call a
  more_is t a b le few z =
      if_equal (given P s) 0
      (λ e. let to_a = passing a (omega arith) e in
      let one = least P (taken t) s e in
      let l = allowances P (taken t) s e in
      if_at_most (steps_of (nearest_good P s)) (steps_of s + a)
      (λ lo. let here = one.taken a ∙ cond_true _ _ _ (le-leb _ _ lo) in
      passing b few e ∙ ap (drawn_first m (plain m)) (l.more a b (nearest_good P s) le here ∙ sym here) ∙ sym to_a)
      (λ gt. absurd (omega (arith, z, ap (λ (c : Changed). c.number) (to_a ∙ ap (drawn_first m (plain m)) (one.taken a ∙ cond_false _ _ _ (lt-leb _ _ gt)))))))
      (λ ne. absurd (ne (sym (ap (λ (c : Changed). c.number) (refusing a (omega arith) ne)) ∙ z)))

  allowance_tells : ByAllowance m s
  unfolding split_within exact_split lengthened_split
  allowance_tells =
      record {
        none = if_good _ _ none_is;
        largest = if_good _ _ largest_is;
        never_unsound = λ e8. ⊎_elim (λ t. never t (rw t at e8)) (λ f. omega (arith, rw f at e8)) (either (good m));
        more = λ a b le few z.
            ⊎_elim (λ t. if_good _ _ (λ g. more_is g a b le few (rw t at z))) (λ f. absurd (omega (arith, rw f at z))) (either (good m));
      }

-- so of every record with all the places of its arrays, and of that of a map that was reached
pub by_allowance : (m : Map) → Full m → (s : Split) → ByAllowance m s
by_allowance m full = allowance_tells m (λ g. (good_facts m full g).holds.taken)

pub reached_allowance : (P : Plain) → Reached P → (s : Split) → ByAllowance (record_of P) s
reached_allowance P at = allowance_tells (record_of P) (λ g. subst (λ (Q : Plain). Replays Q.lines) (sym (record_good at.holds).1) at.holds.taken)
