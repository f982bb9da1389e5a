-- The middle of a triple parts it in two. A cut keeps each unit step in the same part of one of the halves, and a middle strictly inside another
-- triple has a step beside it in the same part of both.
use Prim.Native.Nat.{ℕ, ◌+◌, ◌-◌, ◌≤◌, ◌<◌}
use native.Mathlib.Omega.{arith}
use mathlib.Core.Path.{◌≡◌}
use mathlib.Core.Logic.{⊎_elim}
use mathlib.Core.Bool.{Bool, true, false}
use lib.Dec.{leb, ltb, eqb}
use borrow.Author.Tests.{leb-true, leb-false, ltb-true, ltb-false, eqb-true, eqb-false, le-leb, lt-leb, lt-ltb}
use Rattle.axis.specs.Triple.{half, low, high, spans, RisesIn, Rise, OnSide}
use Rattle.axis.specs.declared.Side.{Side}
use Rattle.axis.specs.declared.Side.TheVariants.{Lower as lower, Upper as upper}
use Rattle.axis.specs.declared.Triple.{Triple}
use Rattle.axis.proofs.Tests.{either, within, within_of, within_at}
use Rattle.axis.proofs.Counts.{ones}
use Rattle.axis.proofs.Triples.{Inside}

-- the unit step from knot x lies in l to m, the lower part of a triple, or in m to r, its upper part
abbrev pub lies : Side → ℕ → Triple → Bool
lies lower x t = within t.l t.m x
lies upper x t = within t.m t.r x

-- a step of the support lies in one part
within_below : (a b x : ℕ) → a ≤ b → ones (within a b x) + ones (ltb x a) ≡ ones (ltb x b)
within_below a b x le =
    ⊎_elim (λ (e : ltb x a ≡ true). let lt = ltb-true x a e in rw (e, lt-leb a x lt, lt-ltb x b (omega arith)))
    (λ (e : ltb x a ≡ false). rw (e, le-leb a x (ltb-false x a e)) (omega arith))
    (either (ltb x a))

pub spans_lies : (x : ℕ) (t : Triple) → Rise t → ones (spans x t) ≡ ones (lies lower x t) + ones (lies upper x t)
spans_lies x t h =
    let a = within_below t.l t.r x (omega arith) in
    let b = within_below t.l t.m x (omega arith) in
    let c = within_below t.m t.r x (omega arith) in
    omega arith

-- A cut keeps a step in the same part of one of the halves.
pub half_lies : (p : Side) (x z : ℕ) (t : Triple) → lies p x t ≡ true → (s : Side) × (lies p x (half s z t) ≡ true)
unfolding half
half_lies p x z t e =
    ⊎_elim (λ c. (upper, onto_upper p (leb-true z x c) e)) (λ c. (lower, onto_lower p (leb-false z x c) e)) (either (leb z x))
  where
    onto_upper : (p : Side) → z ≤ x → lies p x t ≡ true → lies p x (half upper z t) ≡ true
    onto_upper lower c e = let i = within_at t.l t.m x e in within_of _ _ x (omega arith) (omega arith)
    onto_upper upper c e = let i = within_at t.m t.r x e in within_of _ _ x (omega arith) (omega arith)

    onto_lower : (p : Side) → x < z → lies p x t ≡ true → lies p x (half lower z t) ≡ true
    onto_lower lower c e = let i = within_at t.l t.m x e in within_of _ _ x (omega arith) (omega arith)
    onto_lower upper c e = let i = within_at t.m t.r x e in within_of _ _ x (omega arith) (omega arith)

-- the first triple that has all unit steps of a side in its lower, or in its upper, part
abbrev pub first : Side → ℕ → Triple
first lower s = high s
first upper s = low s

pub first_lies : (p : Side) (s x : ℕ) → OnSide s x → lies p x (first p s) ≡ true
first_lies lower s x on = within_of 1 (s + 1) x on.0 (omega arith)
first_lies upper s x on = within_of 1 (s + 1) x on.0 (omega arith)

-- a knot that cannot cut and lies strictly between the ends is the middle
middle_at : (z : ℕ) (t : Triple) → (Inside z t → ⊥) → t.l < z → z < t.r → z ≡ t.m
middle_at z t clear lo hi =
    ⊎_elim (λ e. eqb-true z t.m e) (λ e. absurd (clear (record { lo = lo; hi = hi; off = eqb-false z t.m e }))) (either (eqb z t.m))

-- Where the middle of t lies strictly inside u, one of the steps beside it lies in the same part of both. It is a step of the side where
-- the lines at its two ends do not cut u.
module _ (s : ℕ) (t u : Triple) (pos : 1 ≤ s) (rt : RisesIn s t) (ru : RisesIn s u) (lo : u.l < t.m) (hi : t.m < u.r) where
  abbrev pub Beside : Type 0
  Beside = (p : Side) × (x : ℕ) × OnSide s x × (lies p x t ≡ true) × (lies p x u ≡ true)

  just_below : t.m ≤ u.m → 2 ≤ t.m → Beside
  just_below le two = (
    lower,
    t.m - 1,
    (omega arith, omega arith),
    within_of t.l t.m (t.m - 1) (omega arith) (omega arith),
    within_of u.l u.m (t.m - 1) (omega arith) (omega arith),
  )

  just_above : u.m ≤ t.m → t.m ≤ s → Beside
  just_above le most = (
    upper,
    t.m,
    (omega arith, omega arith),
    within_of t.m t.r t.m (omega arith) (omega arith),
    within_of u.m u.r t.m (omega arith) (omega arith),
  )

  pub beside : (Inside 1 u → ⊥) → (Inside (s + 1) u → ⊥) → Beside
  beside near far =
      ⊎_elim
      (λ a.
      let le = leb-true t.m u.m a in
      ⊎_elim (λ b. just_below le (leb-true 2 t.m b))
      (λ b. let one = leb-false 2 t.m b in
      let e = middle_at 1 u near (omega arith) (omega arith) in
      just_above (omega arith) (omega arith))
      (either (leb 2 t.m)))
      (λ a.
      let lt = leb-false t.m u.m a in
      ⊎_elim (λ b. just_above (omega arith) (leb-true t.m s b))
      (λ b. let end = leb-false t.m s b in
      let e = middle_at (s + 1) u far (omega arith) (omega arith) in
      absurd (omega arith))
      (either (leb t.m s)))
      (either (leb t.m u.m))
