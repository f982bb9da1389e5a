-- The hat of one triple, as it stands and multiplied out. Nothing here knows how many axes there are.
use Prim.Native.Nat.{ℕ, ◌+◌, ◌*◌, ◌-◌, ◌<◌, ◌≤◌, min}
use native.Mathlib.Omega.{arith}
use native.Mathlib.Nat.{mul-pos, mul-le-mul_left, mul-le-mul_right}
use mathlib.Core.Path.{◌≡◌, ap, ◌∙◌}
use mathlib.Core.Logic.{◌⊎◌, ◌↔◌, inl, inr, ⊎_elim}
use mathlib.Core.Bool.{true, false}
use borrow.Author.Tests.{ltb-true, ltb-false, leb-true, leb-false}
use lib.Dec.{ltb, leb}
use Rattle.axis.specs.Fraction.{Fraction}
use Rattle.axis.specs.Triple.{triple, ascent, descent, hat, half, low, high, spans, between, Rise}
use Rattle.axis.specs.declared.Side.TheVariants.{Lower as lower, Upper as upper}
use Rattle.axis.specs.declared.Triple.{Triple}
use Rattle.axis.proofs.Tests.{either, within_of, within_at, cond_true, cond_false}
use Rattle.axis.proofs.Triples.{Inside, not_between, rise_of, is_low, is_high, first_rises, half_below, half_above}
use Rattle.axis.proofs.Scale.{Multiple, Scaled}

-- the hat's two sides
hat_left : (t : Triple) (p d : ℕ) → leb p (t.m * d) ≡ true → hat t p d ≡ ascent t p d
unfolding hat
hat_left t p d e = cond_true _ _ _ e

hat_right : (t : Triple) (p d : ℕ) → leb p (t.m * d) ≡ false → hat t p d ≡ descent t p d
unfolding hat
hat_right t p d e = cond_false _ _ _ e

hat_cases : (t : Triple) (p d : ℕ) (P : Fraction → Type 0) →
    (p ≤ t.m * d → P (ascent t p d)) → (t.m * d < p → P (descent t p d)) → P (hat t p d)
hat_cases t p d P f g =
    ⊎_elim (λ e. rw (hat_left t p d e) (f (leb-true _ _ e))) (λ e. rw (hat_right t p d e) (g (leb-false _ _ e))) (either (leb p (t.m * d)))

pub hat_den : (t : Triple) → Rise t → (p d : ℕ) → 0 < d → 0 < (hat t p d).den
hat_den t rise p d pos = hat_cases t p d (λ x. 0 < x.den) (λ le. mul-pos (omega arith) pos) (λ gt. mul-pos (omega arith) pos)

-- one at the middle
pub hat_middle : (t : Triple) → (hat t t.m 1).num ≡ (hat t t.m 1).den
hat_middle t = hat_cases t t.m 1 (λ x. x.num ≡ x.den) (λ le. omega arith) (λ gt. absurd (omega arith))

-- a knot as the point z / 1
knot : (z : ℕ) (t : Triple) → (z ≤ t.l) ⊎ (t.r ≤ z) → (z ≤ t.l * 1) ⊎ (t.r * 1 ≤ z)
knot z t h = ⊎_elim (λ (le : z ≤ t.l). inl (omega arith)) (λ (le : t.r ≤ z). inr (omega arith)) h

-- 0 from the ends on, and above 0 between them
pub hat_outside : (t : Triple) → Rise t → (p d : ℕ) → 0 < d → (p ≤ t.l * d) ⊎ (t.r * d ≤ p) → (hat t p d).num ≡ 0
hat_outside t rise p d pos h =
    let a = mul-le-mul_right d rise.low in
    let b = mul-le-mul_right d rise.high in
    ⊎_elim
    (λ (far : p ≤ t.l * d). hat_cases t p d (λ x. x.num ≡ 0) (λ le. omega arith) (λ gt. omega arith))
    (λ (far : t.r * d ≤ p). hat_cases t p d (λ x. x.num ≡ 0) (λ le. omega arith) (λ gt. omega arith)) h

pub hat_off : (t : Triple) → Rise t → (z : ℕ) → between z t ≡ false → (hat t z 1).num ≡ 0
hat_off t rise z e = hat_outside t rise z 1 (omega arith) (knot z t (not_between z t e))

pub hat_positive : (t : Triple) (p d : ℕ) → t.l * d < p → p < t.r * d → 0 < (hat t p d).num
hat_positive t p d lo hi = hat_cases t p d (λ x. 0 < x.num) (λ le. omega arith) (λ gt. omega arith)

pub hat_between : (t : Triple) → Rise t → (p d : ℕ) → 0 < d → 0 < (hat t p d).num → (t.l * d < p) × (p < t.r * d)
hat_between t rise p d d_pos pos = (
  ⊎_elim (λ e. ltb-true _ _ e) (λ e. absurd (nothing (inl (ltb-false _ _ e)))) (either (ltb (t.l * d) p)),
  ⊎_elim (λ e. ltb-true _ _ e) (λ e. absurd (nothing (inr (ltb-false _ _ e)))) (either (ltb p (t.r * d))),
)
  where
    nothing : (p ≤ t.l * d) ⊎ (t.r * d ≤ p) → ⊥
    nothing h = omega (arith, hat_outside t rise p d d_pos h)

-- strictly inside a unit step the hat is above 0 exactly when the step lies in l to r
pub step_positive : (t : Triple) → Rise t → (x p d : ℕ) → x * d < p → p < (x + 1) * d → spans x t ≡ true ↔ 0 < (hat t p d).num
step_positive t rise x p d lo hi = (
  λ e. let s = within_at t.l t.r x e in
      hat_positive t p d (omega (arith, mul-le-mul_right d s.0)) (omega (arith, mul-le-mul_right d s.1)),
  λ pos. let h = hat_between t rise p d (omega arith) pos in
      within_of t.l t.r x (omega (arith, later t.l (x + 1) d (omega arith))) (later x t.r d (omega arith)),
)
  where
    later : (a b d : ℕ) → a * d < b * d → a < b
    later a b d lt = ⊎_elim (λ e. ltb-true _ _ e) (λ e. let le : b ≤ a = ltb-false _ _ e in absurd (omega (arith, mul-le-mul_right d le))) (either (ltb a b))

-- Multiplied by the common multiple and by d, the hat at p / d is the lesser of two slopes, both cut off at 0.
abbrev pub scaled_hat : {n : ℕ} → Multiple n → Triple → ℕ → ℕ → ℕ
scaled_hat K t p d = min (K.part (t.m - t.l) * (p - t.l * d)) (K.part (t.r - t.m) * (t.r * d - p))

-- a slope c = K / g over a run u, against its height over the whole gap g, K * d
slope : (c g K d u : ℕ) → c * g ≡ K → (u ≤ g * d → c * u ≤ K * d) × (g * d ≤ u → K * d ≤ c * u)
slope c g K d u e = (
  λ le. omega (arith, mul-le-mul_left c le, ap (λ (x : ℕ). x * d) e),
  λ ge. omega (arith, mul-le-mul_left c ge, ap (λ (x : ℕ). x * d) e),
)

-- the runs from a up to p and from p up to b, against the gap
run_up : (a g b p d : ℕ) → a + g ≡ b → (p ≤ b * d → p - a * d ≤ g * d) × (b * d ≤ p → g * d ≤ p - a * d)
run_up a g b p d e = omega (arith, ap (λ (x : ℕ). x * d) e)

run_down : (a g b p d : ℕ) → a + g ≡ b → (a * d ≤ p → b * d - p ≤ g * d) × (p ≤ a * d → g * d ≤ b * d - p)
run_down a g b p d e = omega (arith, ap (λ (x : ℕ). x * d) e)

lesser : (u v w : ℕ) → u ≤ w → w ≤ v → (min u v ≡ u) × (min v u ≡ u)
lesser u v w a b = omega arith

-- left of the middle the second ramp is 0; right of it the first is full
flat : (c c' p ld md rd : ℕ) → p ≤ md → c * (p - ld) + c' * ((p - md) - (p - rd)) ≡ c * ((p - ld) - (p - md))
flat c c' p ld md rd le =
    let e : (p - md) - (p - rd) ≡ 0 = omega arith in
    let f : (p - ld) - (p - md) ≡ p - ld = omega arith in
    rw (e, f) (omega arith)

full : (c c' K l g m g' r p d : ℕ) → c * g ≡ K → c' * g' ≡ K → l + g ≡ m → m + g' ≡ r → m * d ≤ p →
    c' * (r * d - p) + c' * ((p - m * d) - (p - r * d)) ≡ c * ((p - l * d) - (p - m * d))
full c c' K l g m g' r p d e e' f f' le =
    let u : (p - l * d) - (p - m * d) ≡ g * d = omega (arith, ap (λ (x : ℕ). x * d) f) in
    let v : (r * d - p) + ((p - m * d) - (p - r * d)) ≡ g' * d = omega (arith, ap (λ (x : ℕ). x * d) f') in
    joined (r * d - p) ((p - m * d) - (p - r * d)) ((p - l * d) - (p - m * d)) v u
  where
    joined : (x y z : ℕ) → x + y ≡ g' * d → z ≡ g * d → c' * x + c' * y ≡ c * z
    joined x y z v u =
        omega (arith, ap (λ (i : ℕ). c' * i) v, ap (λ (i : ℕ). c * i) u, ap (λ (i : ℕ). i * d) e, ap (λ (i : ℕ). i * d) e')

-- Ramps over neighbouring gaps, multiplied by them, telescope: ra, rb and rc are how far p is past the knots.
telescope : (x y z K g g' g'' ra rb rc : ℕ) → x * g ≡ K → y * g' ≡ K → z * g'' ≡ K → rc ≤ rb → rb ≤ ra →
    g'' * (z * (ra - rc)) ≡ g * (x * (ra - rb)) + g' * (y * (rb - rc))
telescope x y z K g g' g'' ra rb rc e e' e'' le le' =
    let s : ra - rc ≡ (ra - rb) + (rb - rc) = omega arith in
    joined (ra - rc) (ra - rb) (rb - rc) s
  where
    joined : (u v w : ℕ) → u ≡ v + w → g'' * (z * u) ≡ g * (x * v) + g' * (y * w)
    joined u v w s =
        omega (arith, ap (λ (i : ℕ). g'' * (z * i)) s, ap (λ (i : ℕ). i * v) e, ap (λ (i : ℕ). i * w) e', ap (λ (i : ℕ). i * v) e'', ap (λ (i : ℕ). i * w) e'')

-- the two_scale laws from the ramps: f is the hat, x and y its halves, r the ramps
law_below : (g g' g'' f x y rlz rzm rlm rmr : ℕ) → g'' ≡ g + g' → f + rmr ≡ rlm → x + rzm ≡ rlz → y + rmr ≡ rzm →
    g'' * rlm ≡ g * rlz + g' * rzm → g'' * f ≡ g * x + g'' * y
law_below g g' g'' f x y rlz rzm rlm rmr e ef ex ey t =
    omega (arith, ap (λ (i : ℕ). g'' * i) ef, ap (λ (i : ℕ). g * i) ex, ap (λ (i : ℕ). g'' * i) ey, ap (λ (i : ℕ). i * rzm) e)

law_above : (g g' g'' f x y rlm rmz rzr rmr : ℕ) → g'' ≡ g + g' → f + rmr ≡ rlm → x + rmz ≡ rlm → y + rzr ≡ rmz →
    g'' * rmr ≡ g * rmz + g' * rzr → g'' * f ≡ g'' * x + g' * y
law_above g g' g'' f x y rlm rmz rzr rmr e ef ex ey t =
    omega (arith, ap (λ (i : ℕ). g'' * i) ef, ap (λ (i : ℕ). g'' * i) ex, ap (λ (i : ℕ). g' * i) ey, ap (λ (i : ℕ). i * rmz) e)

module _ {n : ℕ} (K : Multiple n) where
  -- the gaps of a triple divide the common multiple
  part_low : (t : Triple) → Rise t → t.r ≤ n → K.part (t.m - t.l) * (t.m - t.l) ≡ K.all
  part_low t rise within = K.parts _ (omega arith) (omega arith)

  part_high : (t : Triple) → Rise t → t.r ≤ n → K.part (t.r - t.m) * (t.r - t.m) ≡ K.all
  part_high t rise within = K.parts _ (omega arith) (omega arith)

  -- left of the middle the hat rises, right of it falls
  pub hat_rises : (t : Triple) → Rise t → t.r ≤ n → (p d : ℕ) → p ≤ t.m * d → scaled_hat K t p d ≡ K.part (t.m - t.l) * (p - t.l * d)
  hat_rises t rise within p d le =
      (lesser _ _ _ ((slope _ _ _ d _ (part_low t rise within)).0 ((run_up t.l _ t.m p d (omega arith)).0 le))
      ((slope _ _ _ d _ (part_high t rise within)).1 ((run_down t.m _ t.r p d (omega arith)).1 le))).0

  pub hat_falls : (t : Triple) → Rise t → t.r ≤ n → (p d : ℕ) → t.m * d ≤ p → scaled_hat K t p d ≡ K.part (t.r - t.m) * (t.r * d - p)
  hat_falls t rise within p d le =
      (lesser _ _ _ ((slope _ _ _ d _ (part_high t rise within)).0 ((run_down t.m _ t.r p d (omega arith)).0 le))
      ((slope _ _ _ d _ (part_low t rise within)).1 ((run_up t.l _ t.m p d (omega arith)).1 le))).1

  -- the multiplied hat is the hat
  pub scaled_hat_lem : (t : Triple) → Rise t → t.r ≤ n → (p d : ℕ) → Scaled (K.all * d) (hat t p d) (scaled_hat K t p d)
  scaled_hat_lem t rise within p d =
      ⊎_elim
      (λ e. rw (hat_left t p d e, hat_rises t rise within p d (leb-true _ _ e)) (turned _ _ _ _ d (part_low t rise within)))
      (λ e. let le : t.m * d < p = leb-false _ _ e in
      rw (hat_right t p d e, hat_falls t rise within p d (omega arith)) (turned _ _ _ _ d (part_high t rise within)))
      (either (leb p (t.m * d)))
    where
      turned : (c g K u d : ℕ) → c * g ≡ K → c * u * (g * d) ≡ u * (K * d)
      turned c g K u d e = omega (arith, ap (λ (x : ℕ). x * (u * d)) e)

  -- The ramp from 0 at a to all * d at b, flat outside. A hat is a ramp up less the next one, and ramps that follow on each other add up by their gaps.
  ramp : ℕ → ℕ → ℕ → ℕ → ℕ
  ramp a b p d = K.part (b - a) * ((p - a * d) - (p - b * d))

  hat_ramps : (t : Triple) → Rise t → t.r ≤ n → (p d : ℕ) → scaled_hat K t p d + ramp t.m t.r p d ≡ ramp t.l t.m p d
  unfolding ramp
  hat_ramps t rise within p d =
      ⊎_elim
      (λ e. let le : p ≤ t.m * d = leb-true _ _ e in
      rw (hat_rises t rise within p d le) (flat _ _ _ _ _ _ le))
      (λ e. let le : t.m * d < p = leb-false _ _ e in
      let le' : t.m * d ≤ p = omega arith in
      rw (hat_falls t rise within p d le') (full _ _ K.all t.l _ t.m _ t.r p d (part_low t rise within) (part_high t rise within) (omega arith) (omega arith) le'))
      (either (leb p (t.m * d)))

  ramps_join : (a b c : ℕ) → a < b → b < c → c ≤ n → (p d : ℕ) →
      (c - a) * ramp a c p d ≡ (b - a) * ramp a b p d + (c - b) * ramp b c p d
  unfolding ramp
  ramps_join a b c ab bc within p d =
      telescope _ _ _ K.all _ _ _ _ _ _ (K.parts _ (omega arith) (omega arith)) (K.parts _ (omega arith) (omega arith)) (K.parts _ (omega arith) (omega arith))
      (further b c (omega arith)) (further a b (omega arith))
    where
      further : (i j : ℕ) → i ≤ j → p - j * d ≤ p - i * d
      further i j le = omega (arith, mul-le-mul_right d le)

  -- "(m - l) hat(l, m, r) = (z - l) hat(l, z, m) + (m - l) hat(z, m, r)" for l < z < m, and mirrored
  pub two_scale_below : (t : Triple) (z : ℕ) → Rise t → t.r ≤ n → t.l < z → z < t.m → (p d : ℕ) →
      (t.m - t.l) * scaled_hat K t p d ≡
      (z - t.l) * scaled_hat K (half lower z t) p d + (t.m - t.l) * scaled_hat K (half upper z t) p d
  two_scale_below t z rise within lz zm p d =
      let e = half_below t z zm in
      rw (e.0, e.1)
      (law_below (z - t.l) (t.m - z) (t.m - t.l) _ _ _ (ramp t.l z p d) (ramp z t.m p d) (ramp t.l t.m p d) (ramp t.m t.r p d)
      (omega arith) (hat_ramps t rise within p d)
      (hat_ramps (triple t.l z t.m) (record { low = lz; high = zm }) (omega arith) p d)
      (hat_ramps (triple z t.m t.r) (record { low = zm; high = rise.high }) within p d)
      (ramps_join t.l z t.m lz zm (omega arith) p d))

  pub two_scale_above : (t : Triple) (z : ℕ) → Rise t → t.r ≤ n → t.m < z → z < t.r → (p d : ℕ) →
      (t.r - t.m) * scaled_hat K t p d ≡
      (t.r - t.m) * scaled_hat K (half lower z t) p d + (t.r - z) * scaled_hat K (half upper z t) p d
  two_scale_above t z rise within mz zr p d =
      let e = half_above t z mz in
      rw (e.0, e.1)
      (law_above (z - t.m) (t.r - z) (t.r - t.m) _ _ _ (ramp t.l t.m p d) (ramp t.m z p d) (ramp z t.r p d) (ramp t.m t.r p d)
      (omega arith) (hat_ramps t rise within p d)
      (hat_ramps (triple t.l t.m z) (record { low = rise.low; high = mz }) (omega arith) p d)
      (hat_ramps (triple t.m z t.r) (record { low = mz; high = zr }) within p d)
      (ramps_join t.m z t.r mz zr (omega arith) p d))

  -- on either side: a multiple of the hat is a sum of multiples of its halves
  pub two_scale : (t : Triple) (z : ℕ) → Rise t → t.r ≤ n → Inside z t →
      (a b c : ℕ) × (0 < a) × ((p d : ℕ) → a * scaled_hat K t p d ≡ b * scaled_hat K (half lower z t) p d + c * scaled_hat K (half upper z t) p d)
  two_scale t z rise within ins =
      ⊎_elim
      (λ e. let h : z < t.m = ltb-true _ _ e in
      (t.m - t.l, z - t.l, t.m - t.l, omega arith, two_scale_below t z rise within ins.lo h))
      (λ e. let h : t.m ≤ z = ltb-false _ _ e in
      let off : z ≡ t.m → ⊥ = ins.off in
      (t.r - t.m, t.r - t.m, t.r - z, omega arith, two_scale_above t z rise within (omega arith) ins.hi))
      (either (ltb z t.m))

  -- all at the middle, 0 from the ends on
  pub scaled_middle : (t : Triple) → Rise t → t.r ≤ n → scaled_hat K t t.m 1 ≡ K.all
  scaled_middle t rise within =
      let e : t.m - t.l * 1 ≡ t.m - t.l = omega arith in
      hat_rises t rise within t.m 1 (omega arith) ∙ rw e (part_low t rise within)

  pub scaled_outside : (t : Triple) (p d : ℕ) → (p ≤ t.l * d) ⊎ (t.r * d ≤ p) → scaled_hat K t p d ≡ 0
  scaled_outside t p d h =
      ⊎_elim
      (λ (le : p ≤ t.l * d). let e : p - t.l * d ≡ 0 = omega arith in rw e (omega arith))
      (λ (le : t.r * d ≤ p). let e : t.r * d - p ≡ 0 = omega arith in rw e (omega arith)) h

  pub scaled_off : (t : Triple) (z : ℕ) → between z t ≡ false → scaled_hat K t z 1 ≡ 0
  scaled_off t z e = scaled_outside t z 1 (knot z t (not_between z t e))

  -- On the domain of side w the first two hats, times what a straight line a + b x is at the two ends, add up to it; without a slope, to a.
  pub first_straight : (w : ℕ) → 1 ≤ w → w + 2 ≤ n → (p d : ℕ) → d ≤ p → p ≤ (w + 1) * d → (a b : ℕ) →
      a * scaled_hat K (low w) p d + (a + b * w) * scaled_hat K (high w) p d ≡ K.all * (a * d + b * (p - d))
  first_straight w side within p d le ge a b =
      let f = hat_falls (low w) (rise_of (first_rises w side (low w) is_low)) (omega arith) p d (omega arith) in
      let r = hat_rises (high w) (rise_of (first_rises w side (high w) is_high)) within p d ge in
      let one : w + 1 - 1 ≡ w = omega arith in
      let start : p - 1 * d ≡ p - d = omega arith in
      rw (f, r, one, start)
      (both (K.part w) w K.all ((w + 1) * d - p) (p - d) (K.parts w (omega arith) (omega arith)) (omega arith))
    where
      both : (c g K u v : ℕ) → c * g ≡ K → u + v ≡ g * d → a * (c * u) + (a + b * g) * (c * v) ≡ K * (a * d + b * v)
      both c g K u v e s = omega (arith, ap (λ (x : ℕ). a * c * x) s, ap (λ (x : ℕ). x * (a * d + b * v)) e)
