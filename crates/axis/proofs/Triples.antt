-- One triple and positions on its axis: when it rises, what a cut does, that the order of two cuts does not matter, and the first triples
-- of a side. Nothing here knows how many axes there are.
use Prim.Native.Nat.{ℕ, ◌+◌, ◌-◌, ◌≤◌, ◌<◌, min, max}
use native.Mathlib.Omega.{arith}
use mathlib.Core.Path.{◌≡◌, refl, sym, subst}
use mathlib.Core.Logic.{◌⊎◌, inl, inr, ⊎_elim}
use mathlib.Core.Bool.{true, false, ◌&&◌, not}
use borrow.Author.Tests.{ltb-true, ltb-false, leb-true, eqb-true, eqb-false, not-true, lt-ltb, le-leb, eq-eqb, ne_eqb}
use lib.Dec.{leb, ltb, eqb}
use Rattle.axis.specs.Triple.{triple, half, inside, between, spans, rising, low, high, same_triple, RisesIn, Rise, Knots}
use Rattle.axis.specs.declared.Side.{Side}
use Rattle.axis.specs.declared.Side.TheVariants.{Lower as lower, Upper as upper}
use Rattle.axis.specs.declared.Triple.{Triple}
use Rattle.axis.proofs.Runs.{if_at_most}
use Rattle.axis.proofs.Tests.{and_both, and_of, and_fails, within_of}

-- it rises within the knots of a side: what the test says; and so within those of a longer side
pub rising_facts : (side : ℕ) (t : Triple) → rising side t ≡ true → RisesIn side t
rising_facts side t e =
    let a = and_both (ltb t.l t.m && ltb t.m t.r) (leb t.r (side + 2)) e in
    let b = and_both (ltb t.l t.m) (ltb t.m t.r) a.0 in
    record { low = ltb-true _ _ b.0; high = ltb-true _ _ b.1; most = leb-true _ _ a.1 }

pub rising_of : (side : ℕ) (t : Triple) → RisesIn side t → rising side t ≡ true
rising_of side t r = and_of _ _ (and_of _ _ (lt-ltb _ _ r.low) (lt-ltb _ _ r.high)) (le-leb _ _ r.most)

pub rise_of : {side : ℕ} {t : Triple} → RisesIn side t → Rise t
rise_of r = omega arith

pub rises_wider : {side more : ℕ} {t : Triple} → side ≤ more → RisesIn side t → RisesIn more t
rises_wider le r = omega arith

-- strictly between the ends
pub between_fact : (z : ℕ) (t : Triple) → between z t ≡ true → (t.l < z) × (z < t.r)
between_fact z t e = let b = and_both (ltb t.l z) (ltb z t.r) e in (ltb-true _ _ b.0, ltb-true _ _ b.1)

pub not_between : (z : ℕ) (t : Triple) → between z t ≡ false → (z ≤ t.l) ⊎ (t.r ≤ z)
not_between z t e =
    ⊎_elim (λ s. inl (ltb-false _ _ s)) (λ s. inr (ltb-false _ _ s)) (and_fails (ltb t.l z) (ltb z t.r) e)

-- a line at z can cut
pub record Inside (z : ℕ) (t : Triple) : Type 0 where
  pub lo : t.l < z
  pub hi : z < t.r
  pub off : z ≡ t.m → ⊥

pub inside_fact : (z : ℕ) (t : Triple) → inside z t ≡ true → Inside z t
inside_fact z t e =
    let p = and_both (between z t) (not (eqb z t.m)) e in
    let q = between_fact z t p.0 in
    record { lo = q.0; hi = q.1; off = eqb-false _ _ (not-true _ p.1) }

pub inside_test : (z : ℕ) (t : Triple) → Inside z t → inside z t ≡ true
inside_test z t i = rw (lt-ltb t.l z i.lo, lt-ltb z t.r i.hi, ne_eqb z t.m i.off)

-- u lies within t
pub record Within (t u : Triple) : Type 0 where
  pub lo : t.l ≤ u.l
  pub hi : u.r ≤ t.r

pub within_refl : (t : Triple) → Within t t
within_refl t = omega arith

pub within_trans : {t u v : Triple} → Within t u → Within u v → Within t v
within_trans p q = omega arith

pub rises_within : {side : ℕ} {t u : Triple} → RisesIn side t → Rise u → Within t u → RisesIn side u
rises_within r h w = omega arith

pub triple_eq : {t u : Triple} → t.l ≡ u.l → t.m ≡ u.m → t.r ≡ u.r → t ≡ u
triple_eq p q r = λ i. record { l = p i; m = q i; r = r i }

-- the test of equal triples is equality
pub same_triple_lem : (s t : Triple) → same_triple s t ≡ true → s ≡ t
same_triple_lem s t e =
    let a = and_both (eqb s.l t.l && eqb s.m t.m) (eqb s.r t.r) e in
    let b = and_both (eqb s.l t.l) (eqb s.m t.m) a.0 in
    triple_eq (eqb-true _ _ b.0) (eqb-true _ _ b.1) (eqb-true _ _ a.1)

pub triple_same : (t : Triple) → same_triple t t ≡ true
triple_same t = rw (eq-eqb t.l t.l refl, eq-eqb t.m t.m refl, eq-eqb t.r t.r refl)

-- A half rises, lies within the triple, and is narrower.
pub half_rises : (s : Side) (z : ℕ) (t : Triple) → Rise t → Inside z t → Rise (half s z t)
unfolding half
half_rises lower z t h i = let off = i.off in omega arith
half_rises upper z t h i = let off = i.off in omega arith

pub half_within : (s : Side) (z : ℕ) (t : Triple) → Rise t → Inside z t → Within t (half s z t)
unfolding half
half_within lower z t h i = omega arith
half_within upper z t h i = omega arith

pub half_narrower : (s : Side) (z : ℕ) (t : Triple) → Rise t → Inside z t → (half s z t).r - (half s z t).l < t.r - t.l
unfolding half
half_narrower lower z t h i = let off = i.off in omega arith
half_narrower upper z t h i = let off = i.off in omega arith

-- the halves on either side of the middle, without `min` and `max`
pub half_below : (t : Triple) (z : ℕ) → z < t.m → (half lower z t ≡ triple t.l z t.m) × (half upper z t ≡ triple z t.m t.r)
unfolding half
half_below t z h =
    let e : min z t.m ≡ z = omega arith in
    let f : max z t.m ≡ t.m = omega arith in
    (rw (e, f), rw (e, f))

pub half_above : (t : Triple) (z : ℕ) → t.m < z → (half lower z t ≡ triple t.l t.m z) × (half upper z t ≡ triple t.m z t.r)
unfolding half
half_above t z h =
    let e : min z t.m ≡ t.m = omega arith in
    let f : max z t.m ≡ z = omega arith in
    (rw (e, f), rw (e, f))

-- two positions, one way round or the other
either_way : (a b : ℕ) → (a ≤ b) ⊎ (b ≤ a)
either_way a b = if_at_most a b inl (λ h. inr (omega arith))

-- one of the halves keeps the middle
pub keeps_middle : (z : ℕ) (t : Triple) → (s : Side) × ((half s z t).m ≡ t.m)
unfolding half
keeps_middle z t = ⊎_elim (λ p. (upper, omega arith)) (λ p. (lower, omega arith)) (either_way z t.m)

-- what is true of each of a triple's knots is true of those of a half, if it is true of the cut's
min_is : (P : ℕ → Type 0) (a b : ℕ) → P a → P b → P (min a b)
min_is P a b p q =
    ⊎_elim (λ h. let e : a ≡ min a b = omega arith in subst P e p) (λ h. let e : b ≡ min a b = omega arith in subst P e q) (either_way a b)

max_is : (P : ℕ → Type 0) (a b : ℕ) → P a → P b → P (max a b)
max_is P a b p q =
    ⊎_elim (λ h. let e : b ≡ max a b = omega arith in subst P e q) (λ h. let e : a ≡ max a b = omega arith in subst P e p) (either_way a b)

pub half_knots : (P : ℕ → Type 0) (s : Side) (z : ℕ) (t : Triple) → Knots P t → P z → Knots P (half s z t)
unfolding half
half_knots P lower z t k p =
    record { l = k.l; m = min_is P z t.m p k.m; r = max_is P z t.m p k.m }
half_knots P upper z t k p =
    record { l = min_is P z t.m p k.m; m = max_is P z t.m p k.m; r = k.r }

-- The order of two cuts, at y and at z: halves of halves, by where one cut lies against the middle and the other.
module _ (y z : ℕ) (t : Triple) where
  lower_lower : y ≤ max z t.m → z ≤ max y t.m → half lower z (half lower y t) ≡ half lower y (half lower z t)
  unfolding half
  lower_lower p q = triple_eq refl (omega arith) (omega arith)

  upper_upper : min z t.m ≤ y → min y t.m ≤ z → half upper z (half upper y t) ≡ half upper y (half upper z t)
  unfolding half
  upper_upper p q = triple_eq (omega arith) (omega arith) refl

  lower_upper : min z t.m ≤ y → z ≤ max y t.m → half upper z (half lower y t) ≡ half lower y (half upper z t)
  unfolding half
  lower_upper p q = triple_eq (omega arith) (omega arith) (omega arith)

  both_below : y ≤ min z t.m → z ≤ max y t.m → half upper z (half lower y t) ≡ half upper y (half lower z t)
  unfolding half
  both_below p q = triple_eq (omega arith) (omega arith) (omega arith)

  both_above : min z t.m ≤ y → min y t.m ≤ z → half lower z (half upper y t) ≡ half lower y (half upper z t)
  unfolding half
  both_above p q = triple_eq (omega arith) (omega arith) (omega arith)

  clear_above : max y t.m ≤ z → half lower y t ≡ half lower y (half lower z t)
  unfolding half
  clear_above p = triple_eq refl (omega arith) (omega arith)

  clear_below : z ≤ min y t.m → half upper y t ≡ half upper y (half upper z t)
  unfolding half
  clear_below p = triple_eq (omega arith) (omega arith) refl

  -- where a half by z can be cut at y
  in_lower : Inside y t → (y ≡ z → ⊥) → y ≤ max z t.m → Inside y (half lower z t)
  unfolding half
  in_lower i apart p = let off = i.off in record { lo = i.lo; hi = omega arith; off = omega arith }

  in_upper : Inside y t → (y ≡ z → ⊥) → min z t.m ≤ y → Inside y (half upper z t)
  unfolding half
  in_upper i apart p = let off = i.off in record { lo = omega arith; hi = i.hi; off = omega arith }

-- X is t, or a half of t by a cut at y.
pub data From (y : ℕ) (t : Triple) (X : Triple) : Type 0 where
  whole : X ≡ t → From y t X
  part : (v : Side) → Inside y t → X ≡ half v y t → From y t X

-- What y and then z leave of a triple is a half by z, or what y leaves of one; whether or not z cuts the half by y.
module _ (y z : ℕ) (t : Triple) (i : Inside y t) (j : Inside z t) (apart : y ≡ z → ⊥) where
  pub cut_again : (s u : Side) → Inside z (half s y t) → (w : Side) × From y (half w z t) (half u z (half s y t))
  unfolding half
  cut_again lower lower k =
      let q : z ≤ max y t.m = omega arith in
      ⊎_elim (λ p. (lower, part lower (in_lower y z t i apart p) (lower_lower y z t p q))) (λ p. (lower, whole (sym (clear_above z y t p))))
      (either_way y (max z t.m))
  cut_again lower upper k =
      let q : z ≤ max y t.m = omega arith in
      ⊎_elim (λ p. (lower, part upper (in_lower y z t i apart (omega arith)) (both_below y z t p q)))
      (λ p. (upper, part lower (in_upper y z t i apart p) (lower_upper y z t p q)))
      (either_way y (min z t.m))
  cut_again upper lower k =
      let q : min y t.m ≤ z = omega arith in
      ⊎_elim (λ p. (lower, part upper (in_lower y z t i apart (omega arith)) (sym (lower_upper z y t q (omega arith)))))
      (λ p. (upper, part lower (in_upper y z t i apart p) (both_above y z t p q)))
      (either_way y (min z t.m))
  cut_again upper upper k =
      let q : min y t.m ≤ z = omega arith in
      ⊎_elim (λ p. (upper, part upper (in_upper y z t i apart p) (upper_upper y z t p q))) (λ p. (upper, whole (sym (clear_below z y t p))))
      (either_way (min z t.m) y)

  pub cut_once : (s : Side) → (Inside z (half s y t) → ⊥) → (w : Side) × From y (half w z t) (half s y t)
  cut_once lower k =
      ⊎_elim (λ q. absurd (k (in_lower z y t j (λ e. apart (sym e)) q)))
      (λ q. (lower, part lower (in_lower y z t i apart (omega arith)) (clear_above y z t q)))
      (either_way z (max y t.m))
  cut_once upper k =
      ⊎_elim (λ q. absurd (k (in_upper z y t j (λ e. apart (sym e)) q)))
      (λ q. (upper, part upper (in_upper y z t i apart (omega arith)) (clear_below y z t q)))
      (either_way (min y t.m) z)

-- One of the first two triples of a side.
pub data First (s : ℕ) : Triple → Type 0 where
  is_low : First s (low s)
  is_high : First s (high s)

pub first_rises : (s : ℕ) → 1 ≤ s → (t : Triple) → First s t → RisesIn s t
first_rises s h t is_low = omega arith
first_rises s h t is_high = omega arith

-- it has each unit step of the domain
pub first_spans : (s : ℕ) (t : Triple) (x : ℕ) → First s t → 1 ≤ x → x < 1 + s → spans x t ≡ true
first_spans s t x is_low lo hi = within_of 0 (s + 1) x (omega arith) (omega arith)
first_spans s t x is_high lo hi = within_of 1 (s + 2) x (omega arith) (omega arith)

-- its ends and its middle are the fresh map's positions, none of which lies strictly inside but the middle
abbrev pub AtFresh : ℕ → ℕ → Type 0
AtFresh s z = (z ≡ 0) ⊎ ((z ≡ 1) ⊎ ((z ≡ s + 1) ⊎ (z ≡ s + 2)))

pub first_uncut : (s z : ℕ) (t : Triple) → First s t → AtFresh s z → Inside z t → ⊥
first_uncut s z t is_low (inl e) i = omega arith
first_uncut s z t is_low (inr (inl e)) i = i.off e
first_uncut s z t is_low (inr (inr (inl e))) i = omega arith
first_uncut s z t is_low (inr (inr (inr e))) i = omega arith
first_uncut s z t is_high (inl e) i = omega arith
first_uncut s z t is_high (inr (inl e)) i = omega arith
first_uncut s z t is_high (inr (inr (inl e))) i = i.off e
first_uncut s z t is_high (inr (inr (inr e))) i = omega arith

-- one's middle lies strictly inside another only if they are the same
pub first_apart : (s : ℕ) (t u : Triple) → First s t → First s u → u.l < t.m → t.m < u.r → t ≡ u
first_apart s t u is_low is_low lo hi = refl
first_apart s t u is_low is_high lo hi = absurd (omega arith)
first_apart s t u is_high is_low lo hi = absurd (omega arith)
first_apart s t u is_high is_high lo hi = refl
