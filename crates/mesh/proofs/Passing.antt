-- What it says that a split passes the refusals, and that a line in range keeps to its ranges with other ends.
use Prim.Native.Nat.{ℕ, zero, suc, ◌≤◌, ◌<◌}
use native.Mathlib.Omega.{arith}
use mathlib.Core.Path.{◌≡◌, refl, ◌∙◌}
use mathlib.Core.Logic.{⊎_elim}
use mathlib.Core.Bool.{Bool, true, false, cond, ◌&&◌, not}
use lib.Dec.{leb, ltb, eqb}
use lib.ListN.{length}
use borrow.Author.Tests.{leb-false, le-leb, lt-ltb, le-ltb, ltb-false, ne_eqb, not-true, not-false}
use Rattle.axis.specs.Limits.{most_splits, most_allowance}
use Rattle.axis.specs.Range.{any}
use Rattle.mesh.specs.Lines.{Layout, mesh_of, fits, in_range, shares, ended}
use Rattle.mesh.specs.Blends.{is_cut}
use Rattle.mesh.specs.Splits.{live_of, with_line, sound_with, given, asked, exact_number}
use Rattle.mesh.specs.Lengthening.{candidate, run, spanning}
use Rattle.mesh.specs.declared.Split.{Split}
use Rattle.axis.proofs.Tests.{either, and_both, and_of, cond_true, cond_false}
use Rattle.mesh.proofs.OneLineMore.{ranged}

-- what it says that no refusal of 3 to 7 applies, and that an exact split is accepted
pub record Given (P : Layout) (s : Split) : Type 0 where
  pub fits : in_range P.w P.h s ≡ true
  pub room : length P.splits < 60
  pub apart : shares (mesh_of P) s ≡ false
  pub ends : ended (mesh_of P) s ≡ true
  pub cut : any (is_cut (mesh_of (with_line P s))) (live_of P) ≡ true

-- the first test of a chain that ends in 0
chain : (b : Bool) (n rest : ℕ) → 0 < n → cond b n rest ≡ 0 → (b ≡ false) × (rest ≡ 0)
chain true n rest lt e = absurd (omega arith)
chain false n rest lt e = (refl, e)

pub given_says : (P : Layout) (s : Split) → given P s ≡ 0 → Given P s
unfolding given
given_says P s e =
    let a = chain _ 3 _ (omega arith) e in
    let b = chain _ 4 _ (omega arith) a.1 in
    let c = chain _ 5 _ (omega arith) b.1 in
    let d = chain _ 6 _ (omega arith) c.1 in
    let f = chain _ 7 0 (omega arith) d.1 in
    record {
      fits = not-false _ a.0;
      room = leb-false 60 (length P.splits) b.0;
      apart = c.0;
      ends = not-false _ d.0;
      cut = not-false _ f.0;
    }

-- what it says that the split call passes them, with an allowance in range
pub asked_given : (P : Layout) (s : Split) (a : ℕ) → a ≤ most_allowance → asked P s a ≡ given P s
unfolding asked
asked_given P s a few = cond_false _ _ _ (le-ltb _ _ few)

pub asked_says : (P : Layout) (s : Split) (a : ℕ) → asked P s a ≡ 0 → (a ≤ most_allowance) × (given P s ≡ 0)
unfolding asked
asked_says P s a e = let f = chain _ 3 _ (omega arith) e in (ltb-false _ _ f.0, f.1)

pub exact_passes : (P : Layout) (s : Split) → exact_number P s ≡ 0 → (given P s ≡ 0) × (sound_with P s ≡ true)
unfolding exact_number
exact_passes P s e = both_pass (given P s) (sound_with P s) e
  where
    both_pass : (g : ℕ) (b : Bool) → cond (eqb g 0) (cond b 0 8) g ≡ 0 → (g ≡ 0) × (b ≡ true)
    both_pass zero true e = (refl, refl)
    both_pass zero false e = absurd (omega arith)
    both_pass (suc g) b e = absurd (omega (arith, rw (ne_eqb (suc g) 0 (omega arith)) at e))

pub exact_says : (P : Layout) (s : Split) → exact_number P s ≡ 0 → Given P s × (sound_with P s ≡ true)
exact_says P s e = let r = exact_passes P s e in (given_says P s r.0, r.1)

-- and that one of the checks refuses it
pub exact_refused : (P : Layout) (s : Split) → (given P s ≡ 0 → ⊥) → exact_number P s ≡ given P s
unfolding exact_number
exact_refused P s ne = cond_false _ _ _ (ne_eqb _ 0 ne)

pub given_most : (P : Layout) (s : Split) → given P s ≤ 7
unfolding given
given_most P s =
    most (not (in_range P.w P.h s)) 3 _ (omega arith)
    (most (leb most_splits (length P.splits)) 4 _ (omega arith)
    (most (shares (mesh_of P) s) 5 _ (omega arith)
    (most (not (ended (mesh_of P) s)) 6 _ (omega arith)
    (most (not (any (is_cut (mesh_of (with_line P s))) (live_of P))) 7 0 (omega arith) (omega arith)))))
  where
    most : (b : Bool) (n rest : ℕ) → n ≤ 7 → rest ≤ 7 → cond b n rest ≤ 7
    most true n rest le more = le
    most false n rest le more = more

-- and that a line is a candidate
pub record Drawable (P : Layout) (c : Split) : Type 0 where
  pub ends : ended (mesh_of P) c ≡ true
  pub apart : shares (mesh_of P) c ≡ false
  pub is_sound : sound_with P c ≡ true

pub candidate_says : (P : Layout) (c : Split) → candidate P c ≡ true → Drawable P c
unfolding candidate
candidate_says P c e =
    let a = and_both _ _ e in
    let f = and_both _ _ a.0 in
    record { ends = f.0; apart = not-true _ f.1; is_sound = a.1 }

-- a line in range keeps to its ranges with other ends within the side that it runs along
pub spanning_fits : (P : Layout) (s : Split) (from to : ℕ) → in_range P.w P.h s ≡ true → from < to → to ≤ run P s →
    in_range P.w P.h (spanning s from to) ≡ true
unfolding in_range
spanning_fits P s from to e lo hi =
    ⊎_elim
    (λ q. cond_true _ _ _ q ∙ ends_kept P.w P.h (rw q at e) (rw q at hi))
    (λ q. let r = and_both (eqb s.direction 1) (fits P.h P.w s) (rw q at e) in
    cond_false _ _ _ q ∙ and_of _ _ r.0 (ends_kept P.h P.w r.1 (rw q at hi)))
    (either (eqb s.direction 0))
  where
    ends_kept : (crossed along : ℕ) → fits crossed along s ≡ true → to ≤ along → fits crossed along (spanning s from to) ≡ true
    ends_kept crossed along f le =
        let p = and_both (ltb 0 s.position && ltb s.position crossed && ltb s.from s.to) (leb s.to along) f in
        let q = and_both (ltb 0 s.position && ltb s.position crossed) (ltb s.from s.to) p.0 in
        and_of _ _ (and_of _ _ q.0 (lt-ltb from to lo)) (le-leb to along le)

-- the ends of a split in range
pub ends_in : (P : Layout) (s : Split) → in_range P.w P.h s ≡ true → (s.from < s.to) × (s.to ≤ run P s)
ends_in P s e = let r = (ranged P.w P.h s e).range in (omega arith, omega arith)
