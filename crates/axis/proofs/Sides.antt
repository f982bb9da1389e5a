-- A triple part by part: steps and knots in its lower and its upper part, what a cut there leaves of it, and the triple seen from the other end
-- of its side. Nothing here knows how many axes there are.
use Prim.Native.Nat.{ℕ, ◌+◌, ◌-◌, ◌≤◌, ◌<◌, max}
use native.Mathlib.Omega.{arith}
use mathlib.Core.Path.{◌≡◌, refl, ◌∙◌}
use mathlib.Core.Logic.{inl, inr, ⊎_elim}
use mathlib.Core.Bool.{true, ◌||◌}
use lib.Dec.{ltb, eqb}
use borrow.Author.Tests.{eqb-true, eq-eqb, ltb-true, lt-ltb}
use Rattle.axis.specs.Triple.{triple, half, is_knot, knot_in, RisesIn, Rise, Knots, KnotOf, OnSide}
use Rattle.axis.specs.declared.Side.{Side}
use Rattle.axis.specs.declared.Side.TheVariants.{Lower as lower, Upper as upper}
use Rattle.axis.specs.declared.Triple.{Triple}
use Rattle.axis.proofs.Tests.{and_both, and_of, or_either, or_left, or_right, within_of, within_at}
use Rattle.axis.proofs.Triples.{Inside, keeps_middle, half_below, half_above}
use Rattle.axis.proofs.Parts.{lies}
use Rattle.axis.proofs.Runs.{if_below, neither}

-- the unit step from knot j lies in the lower or the upper part of a triple
abbrev pub StepIn : Side → ℕ → Triple → Type 0
StepIn lower j t = (t.l ≤ j) × (j < t.m)
StepIn upper j t = (t.m ≤ j) × (j < t.r)

-- knot z lies strictly inside it
abbrev pub KnotIn : Side → ℕ → Triple → Type 0
KnotIn lower z t = (t.l < z) × (z < t.m)
KnotIn upper z t = (t.m < z) × (z < t.r)

abbrev pub opposite : Side → Side
opposite lower = upper
opposite upper = lower

-- where a part begins and ends; a knot strictly inside it has its step there
abbrev pub from : Side → Triple → ℕ
from lower t = t.l
from upper t = t.m

abbrev pub to : Side → Triple → ℕ
to lower t = t.m
to upper t = t.r

pub knot_step : (x : Side) (z : ℕ) (t : Triple) → KnotIn x z t → StepIn x z t
knot_step lower z t p = (omega arith, omega arith)
knot_step upper z t p = (omega arith, omega arith)

-- the steps beside the knot lie there too
pub step_beside : (x : Side) (z j : ℕ) (t : Triple) → (j ≤ z) × (z ≤ j + 1) → KnotIn x z t → StepIn x j t
step_beside lower z j t b p = (omega arith, omega arith)
step_beside upper z j t b p = (omega arith, omega arith)

-- a step there that does not start where the part begins starts inside it; and what is known of a triple's knots is known of where a part begins
pub past_start : (x : Side) (z : ℕ) (t : Triple) → StepIn x z t → (from x t ≡ z → ⊥) → KnotIn x z t
past_start lower z t i ne = (omega arith, omega arith)
past_start upper z t i ne = (omega arith, omega arith)

pub knots_from : {P : ℕ → Type 0} {t : Triple} (x : Side) → Knots P t → P (from x t)
knots_from lower k = k.l
knots_from upper k = k.m

-- a part lies within its triple
pub part_within : (x : Side) (t : Triple) → Rise t → (t.l ≤ from x t) × (to x t ≤ t.r)
part_within lower t r = (omega arith, omega arith)
part_within upper t r = (omega arith, omega arith)

pub step_within : (x : Side) (j : ℕ) (t : Triple) → Rise t → StepIn x j t → (t.l ≤ j) × (j < t.r)
step_within lower j t r i = (omega arith, omega arith)
step_within upper j t r i = (omega arith, omega arith)

pub knot_between : (x : Side) (z : ℕ) (t : Triple) → KnotIn x z t → (from x t < z) × (z < to x t)
knot_between lower z t p = p
knot_between upper z t p = p

-- The column beside knot z in which a triple with the middle z has that part; and one over it without z for its middle has z inside the part.
abbrev pub column : Side → ℕ → ℕ
column lower z = z - 1
column upper z = z

pub own_column : (x : Side) (z : ℕ) (t : Triple) → Rise t → t.m ≡ z → StepIn x (column x z) t
own_column lower z t r e = (omega arith, omega arith)
own_column upper z t r e = (omega arith, omega arith)

pub past_column : (x : Side) (z : ℕ) (t : Triple) → 0 < z → StepIn x (column x z) t → (t.m ≡ z → ⊥) → KnotIn x z t
past_column lower z t pos i ne = (omega arith, omega arith)
past_column upper z t pos i ne = (omega arith, omega arith)

pub on_column : (x : Side) (z s : ℕ) → (1 < z) × (z ≤ s) → OnSide s (column x z)
on_column lower z s i = (omega arith, omega arith)
on_column upper z s i = (omega arith, omega arith)

-- the same as tests
pub part_says : (x : Side) (z : ℕ) (t : Triple) → knot_in x z t ≡ true → KnotIn x z t
part_says lower z t e = let b = and_both (ltb t.l z) (ltb z t.m) e in (ltb-true _ _ b.0, ltb-true _ _ b.1)
part_says upper z t e = let b = and_both (ltb t.m z) (ltb z t.r) e in (ltb-true _ _ b.0, ltb-true _ _ b.1)

pub part_test : (x : Side) (z : ℕ) (t : Triple) → KnotIn x z t → knot_in x z t ≡ true
part_test lower z t p = and_of _ _ (lt-ltb _ _ p.0) (lt-ltb _ _ p.1)
part_test upper z t p = and_of _ _ (lt-ltb _ _ p.0) (lt-ltb _ _ p.1)

pub lies_of : (p : Side) (x : ℕ) (t : Triple) → StepIn p x t → lies p x t ≡ true
lies_of lower x t i = within_of t.l t.m x i.0 i.1
lies_of upper x t i = within_of t.m t.r x i.0 i.1

pub lies_at : (p : Side) (x : ℕ) (t : Triple) → lies p x t ≡ true → StepIn p x t
lies_at lower x t e = within_at t.l t.m x e
lies_at upper x t e = within_at t.m t.r x e

-- the test of its three knots
pub knot_says : (z : ℕ) (t : Triple) → is_knot z t ≡ true → KnotOf z t
knot_says z t e =
    ⊎_elim (λ f. ⊎_elim (λ g. inl (eqb-true _ _ g)) (λ g. inr (inl (eqb-true _ _ g))) (or_either (eqb z t.l) (eqb z t.m) f))
    (λ f. inr (inr (eqb-true _ _ f))) (or_either (eqb z t.l || eqb z t.m) (eqb z t.r) e)

pub knot_of : (z : ℕ) (t : Triple) → KnotOf z t → is_knot z t ≡ true
knot_of z t (inl e) = or_left _ _ (or_left _ _ (eq-eqb _ _ e))
knot_of z t (inr (inl e)) = or_left _ _ (or_right (eqb z t.l) _ (eq-eqb _ _ e))
knot_of z t (inr (inr e)) = or_right (eqb z t.l || eqb z t.m) _ (eq-eqb _ _ e)

-- some half keeps each knot, and each step
pub half_knot : (z y : ℕ) (t : Triple) → KnotOf z t → (s : Side) × KnotOf z (half s y t)
unfolding half
half_knot z y t (inl e) = (lower, inl e)
half_knot z y t (inr (inl e)) = let k = keeps_middle y t in (k.0, inr (inl (e ∙ (omega arith))))
half_knot z y t (inr (inr e)) = (upper, inr (inr e))

pub half_step : (k y : ℕ) (t : Triple) → t.l ≤ k → k < t.r → (s : Side) × ((half s y t).l ≤ k) × (k < (half s y t).r)
unfolding half
half_step k y t lo hi = if_below k (max y t.m) (λ lt. (lower, lo, lt)) (λ le. (upper, omega arith, hi))

-- The halves of a triple by a line inside one of its parts: one has that part for its own, about the line; the other keeps the middle.
pub halves_of : (x : Side) (z : ℕ) (t : Triple) → KnotIn x z t → half x z t ≡ triple (from x t) z (to x t)
halves_of lower z t p = (half_below t z p.1).0
halves_of upper z t p = (half_above t z p.0).1

abbrev pub kept : Side → ℕ → Triple → Triple
kept lower z t = triple z t.m t.r
kept upper z t = triple t.l t.m z

pub kept_is : (x : Side) (z : ℕ) (t : Triple) → KnotIn x z t → half (opposite x) z t ≡ kept x z t
kept_is lower z t p = (half_below t z p.1).1
kept_is upper z t p = (half_above t z p.0).0

-- what keeps the middle has its steps in the same parts, and in the line's part none past the line
pub kept_in : (x : Side) (z : ℕ) (t : Triple) → KnotIn x z t → (p : Side) (j : ℕ) → StepIn p j (kept x z t) → StepIn p j t
kept_in lower z t a lower j i = (omega arith, omega arith)
kept_in lower z t a upper j i = i
kept_in upper z t a lower j i = i
kept_in upper z t a upper j i = (omega arith, omega arith)

pub kept_inside : (x : Side) (z y : ℕ) (t : Triple) → KnotIn x z t → Inside y (kept x z t) → Inside y t × (y ≡ z → ⊥)
kept_inside lower z y t p i = let lo = i.lo in let hi = i.hi in (record { lo = omega arith; hi = hi; off = i.off }, omega arith)
kept_inside upper z y t p i = let lo = i.lo in (record { lo = lo; hi = omega arith; off = i.off }, omega arith)

pub kept_rises : (x : Side) (z : ℕ) (t : Triple) → Rise t → KnotIn x z t → ((kept x z t).l < t.m) × (t.m < (kept x z t).r)
kept_rises lower z t r p = (omega arith, omega arith)
kept_rises upper z t r p = (omega arith, omega arith)

pub kept_away : (x : Side) (z : ℕ) (t : Triple) (f g j : ℕ) → StepIn x j (kept x z t) → StepIn x j (triple f z g) → ⊥
kept_away lower z t f g j i k = omega arith
kept_away upper z t f g j i k = omega arith

pub one_part : (x u : Side) (z : ℕ) (t : Triple) → KnotIn x z t → KnotIn u z t → x ≡ u
one_part lower lower z t p q = refl
one_part lower upper z t p q = absurd (omega arith)
one_part upper lower z t p q = absurd (omega arith)
one_part upper upper z t p q = refl

pub part_of : (z : ℕ) (t : Triple) → Inside z t → (x : Side) × KnotIn x z t
part_of z t i =
    let lo = i.lo in
    let hi = i.hi in
    if_below z t.m (λ lt. (lower, (lo, lt))) (λ le. (upper, (omega arith, hi)))

pub inside_of : (x : Side) (z : ℕ) (t : Triple) → Rise t → KnotIn x z t → Inside z t
inside_of lower z t r p = record { lo = omega arith; hi = omega arith; off = omega arith }
inside_of upper z t r p = record { lo = omega arith; hi = omega arith; off = omega arith }

-- No knot strictly inside a part: so it is of both halves by a cut there, and stays.
abbrev pub Clear : ℕ → Triple → Type 0
Clear z t = (x : Side) → KnotIn x z t → ⊥

pub half_clear : (w : Side) (z : ℕ) (t : Triple) → Inside z t → Clear z (half w z t)
unfolding half
half_clear lower z t i lower p = omega arith
half_clear lower z t i upper p = omega arith
half_clear upper z t i lower p = omega arith
half_clear upper z t i upper p = omega arith

pub still_clear : (s : Side) (y z : ℕ) (t : Triple) → Rise t → Inside y t → Clear z t → Clear z (half s y t)
unfolding half
still_clear s y z t r i c x p = by s x p
  where
    outside : (t.l < z) × (z < t.r) → z ≡ t.m
    outside o = neither z t.m (λ lt. c lower (o.0, lt)) (λ gt. c upper (gt, o.1))

    by : (s x : Side) → KnotIn x z (half s y t) → ⊥
    by lower lower p = let o = outside (omega arith, omega arith) in omega arith
    by lower upper p = let o = outside (omega arith, omega arith) in omega arith
    by upper lower p = let o = outside (omega arith, omega arith) in omega arith
    by upper upper p = let o = outside (omega arith, omega arith) in omega arith

-- The triple, and a knot and a step, seen from the other end of the side.
abbrev pub mirror : ℕ → Triple → Triple
mirror s t = triple (s + 2 - t.r) (s + 2 - t.m) (s + 2 - t.l)

pub in_mirror : (s : ℕ) (y : Side) (k : ℕ) (t : Triple) → RisesIn s t → OnSide s k → StepIn y k t → StepIn (opposite y) (s + 1 - k) (mirror s t)
in_mirror s lower k t r on i = (omega arith, omega arith)
in_mirror s upper k t r on i = (omega arith, omega arith)

pub mirror_in : (s : ℕ) (y : Side) (k : ℕ) (t : Triple) → RisesIn s t → OnSide s k → StepIn y k (mirror s t) → StepIn (opposite y) (s + 1 - k) t
mirror_in s lower k t r on i = (omega arith, omega arith)
mirror_in s upper k t r on i = (omega arith, omega arith)
