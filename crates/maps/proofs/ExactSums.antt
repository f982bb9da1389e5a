-- Exact readings: sums of values times weights, multiplied out to whole numbers.
use Prim.Native.Nat.{ℕ, zero, suc, ◌+◌, ◌*◌, ◌≤◌, ◌<◌}
use native.Mathlib.Omega.{arith}
use native.Mathlib.Nat.{mul-pos, mul-le-mul_right}
use mathlib.Core.Path.{◌≡◌, refl, sym, ap, subst}
use mathlib.Core.Bool.{true}
use mathlib.Core.Logic.{⊎_elim}
use mathlib.Core.List.Memᴰ
use mathlib.Core.List.{List, [], ◌∷◌, map, Memᴰ}
use lib.ListN.{length, get_or}
use Rattle.mesh.specs.declared.Blend.{Blend}
use Rattle.axis.specs.Fraction.{total}
use Rattle.mesh.specs.Lines.{Mesh}
use Rattle.mesh.specs.Blends.{live}
use Rattle.mesh.specs.Sound.{none, proper, four_everywhere, none_nested, sound, AllProperIn}
use Rattle.mesh.specs.Weight.{Term, weight, value}
use Rattle.mesh.specs.Order.{CoveredBy}
use Rattle.axis.proofs.Tests.{and_both}
use Rattle.axis.specs.Range.{Distinct}
use Rattle.mesh.proofs.Order.{cut_or_not}
use Rattle.axis.proofs.Scale.{Multiple, common, Scaled, scaled_total, sum, scaled_nothing, scaled_whole}
use Rattle.mesh.proofs.Cuts.{proper_rises}
use Rattle.mesh.proofs.Weights.{scaled_weight, scaled_weight_lem, scaled_value_lem, weight_den, multiples_den, terms_reproduced}
use Rattle.mesh.proofs.SoundMaps.{live_proper, live_distinct, weights_add_up, one_at_anchor, none_at_anchor}
use Rattle.maps.specs.Values.{paired, sum_at, reading_at}
use Rattle.axis.proofs.Members.{entry}
use Rattle.maps.proofs.Rounding.{nearest, rounded_same}

-- sums over blends with their values, each value times some measure of its blend
module _ (g : Blend → ℕ) where
  abbrev pub weighed : List Term → ℕ
  weighed ts = sum (λ (t : Term). t.multiple * g t.of) ts

  paired_none : (bs : List Blend) (vs : List ℕ) → ((C : Blend) → Memᴰ C bs → g C ≡ 0) → weighed (paired bs vs) ≡ 0
  paired_none [] vs zeros = refl
  paired_none (B ∷ bs) [] zeros = refl
  paired_none (B ∷ bs) (v ∷ vs) zeros =
      omega (arith, ap (λ (n : ℕ). v * n) (zeros B (Memᴰ.head refl)), paired_none bs vs (λ C m. zeros C (Memᴰ.tail m)))

  -- where all blends but one measure 0, the sum is that one's
  pub paired_single : (bs : List Blend) (vs : List ℕ) → Distinct bs → length vs ≡ length bs → (i : ℕ) → i < length bs →
      ((C : Blend) → Memᴰ C bs → (get_or bs i none ≡ C → ⊥) → g C ≡ 0) → weighed (paired bs vs) ≡ get_or vs i 0 * g (get_or bs i none)
  paired_single [] vs dist long i lt zeros = absurd (omega arith)
  paired_single (B ∷ bs) [] dist long i lt zeros = absurd (omega arith)
  paired_single (B ∷ bs) (v ∷ vs) dist long zero lt zeros =
      omega (arith, paired_none bs vs (λ C m. zeros C (Memᴰ.tail m) (λ q. dist.0 (subst (λ (X : Blend). Memᴰ X bs) (sym q) m))))
  paired_single (B ∷ bs) (v ∷ vs) dist long (suc i) lt zeros =
      let first = zeros B (Memᴰ.head refl) (λ q. dist.0 (subst (λ (X : Blend). Memᴰ X bs) q (entry bs i none (omega arith)))) in
      omega (
        arith,
        ap (λ (n : ℕ). v * n) first,
        paired_single bs vs dist.1 (omega arith) i (omega arith) (λ C m. zeros C (Memᴰ.tail m)),
      )

  -- values of at most k come to at most k times the blends' sum
  pub paired_most : (k : ℕ) (bs : List Blend) (vs : List ℕ) → ((v : ℕ) → Memᴰ v vs → v ≤ k) → weighed (paired bs vs) ≤ k * sum g bs
  paired_most k [] vs most = omega arith
  paired_most k (B ∷ bs) [] most = omega arith
  paired_most k (B ∷ bs) (v ∷ vs) most =
      omega (
        arith,
        mul-le-mul_right (g B) (most v (Memᴰ.head refl)),
        paired_most k bs vs (λ u m. most u (Memᴰ.tail m)),
      )

  -- values that the blends determine
  pub paired_map : (f : Blend → ℕ) (bs : List Blend) → weighed (paired bs (map f bs)) ≡ sum (λ (C : Blend). f C * g C) bs
  paired_map f [] = refl
  paired_map f (B ∷ bs) = ap (λ (n : ℕ). f B * g B + n) (paired_map f bs)

-- the blends of the terms are those of the table
pub paired_of : (bs : List Blend) (vs : List ℕ) (t : Term) → Memᴰ t (paired bs vs) → Memᴰ t.of bs
paired_of [] vs t m = elim m [ ]
paired_of (B ∷ bs) [] t m = elim m [ ]
paired_of (B ∷ bs) (v ∷ vs) t m =
    ⊎_elim (λ q. Memᴰ.head (ap (λ (t : Term). t.of) q)) (λ m. Memᴰ.tail (paired_of bs vs t m)) (Memᴰ.cases_cons m)

-- a sum over proper blends has a denominator
pub value_positive : (w h : ℕ) (bs : List Blend) (vs : List ℕ) → AllProperIn w h bs → (p q d : ℕ) → 0 < d →
    0 < (value (paired bs vs) p q d).den
value_positive w h bs vs ok p q d pos =
    multiples_den w h (paired bs vs) (λ t m. ok t.of (paired_of bs vs t m)) p q d pos

-- A reading, multiplied out.
module _ (w h : ℕ) where
  -- a number that every gap between knots divides; weights are multiplied by its square
  abbrev K : Multiple (w + h + 2)
  K = common (w + h + 2)

  pub scale : ℕ
  scale = K.all * 1 * (K.all * 1)

  pub scale_positive : 0 < scale
  unfolding scale
  scale_positive =
      let once : 0 < K.all * 1 = omega (arith, K.positive) in
      mul-pos once once

  -- a blend's weight at the point of knots (p, q), and the sum of value times weight there, both so multiplied
  pub part : ℕ → ℕ → Blend → ℕ
  part p q B = scaled_weight K B p q 1

  abbrev pub exact : List Blend → List ℕ → ℕ → ℕ → ℕ
  exact bs vs p q = weighed (part p q) (paired bs vs)

  part_scaled : (B : Blend) → proper w h B ≡ true → (p q : ℕ) → Scaled scale (weight B p q 1) (part p q B)
  unfolding scale part
  part_scaled B ok p q = scaled_weight_lem K w h (omega arith) (omega arith) B ok p q 1

  -- "exact, then rounded"
  pub reading_rounds : (bs : List Blend) (vs : List ℕ) → AllProperIn w h bs → (u v : ℕ) →
      reading_at bs vs u v ≡ nearest scale (exact bs vs (u + 1) (v + 1))
  unfolding reading_at sum_at scale part
  reading_rounds bs vs ok u v =
      rounded_same (value (paired bs vs) (u + 1) (v + 1) 1) (record { num = exact bs vs (u + 1) (v + 1); den = scale })
      (value_positive w h bs vs ok (u + 1) (v + 1) 1 (omega arith)) scale_positive
      (sym (scaled_value_lem K w h (omega arith) (omega arith) (paired bs vs) (λ t m. ok t.of (paired_of bs vs t m)) (u + 1) (v + 1) 1))

  -- The live blends of a sound map:
  module _ (hw : 1 ≤ w) (hh : 1 ≤ h) (M : Mesh) (s : sound w h (live w h M) ≡ true) where
    ok : AllProperIn w h (live w h M)
    ok = live_proper w h hw hh M

    -- at an anchor its own blend is the whole of the scale, and every other nothing;
    pub part_own : (B : Blend) → Memᴰ B (live w h M) → part B.across.m B.up.m B ≡ scale
    part_own B m =
        let one = one_at_anchor w h hw hh M s B m in
        scaled_whole scale (weight B B.across.m B.up.m 1) _ one.1 one.0 (part_scaled B (ok B m) B.across.m B.up.m)

    pub part_other : (B C : Blend) → Memᴰ B (live w h M) → Memᴰ C (live w h M) → (B ≡ C → ⊥) → part B.across.m B.up.m C ≡ 0
    part_other B C mB mC differ =
        scaled_nothing scale (weight C B.across.m B.up.m 1) _
        (weight_den w h C (ok C mC) B.across.m B.up.m 1 (omega arith))
        (none_at_anchor w h hw hh M s B C mB mC differ) (part_scaled C (ok C mC) B.across.m B.up.m)

    -- at each whole point of the domain they add up to the scale;
    pub parts_one : (u v : ℕ) → u ≤ w → v ≤ h → sum (part (u + 1) (v + 1)) (live w h M) ≡ scale
    parts_one u v u_in v_in =
        let one = weights_add_up w h hw hh M s u v 1 (omega arith) (omega arith) (omega arith) in
        scaled_whole scale (total (map (λ (C : Blend). weight C (u + 1) (v + 1) 1) (live w h M))) _ one.1 one.0
        (scaled_total scale (λ (C : Blend). weight C (u + 1) (v + 1) 1) (part (u + 1) (v + 1)) (live w h M)
        (λ C m. part_scaled C (ok C m) (u + 1) (v + 1)))

    -- and a sum over blends that come before them is the sum of its values at the anchors times them.
    pub exact_reproduced : (bs : List Blend) (vs : List ℕ) →
        ((B : Blend) → Memᴰ B bs → (proper w h B ≡ true) × CoveredBy M (live w h M) B) →
        (p q : ℕ) → scale * exact bs vs p q ≡ sum (λ (C : Blend). exact bs vs C.across.m C.up.m * part p q C) (live w h M)
    unfolding sound scale part
    exact_reproduced bs vs cov p q =
        at_one K.all _ _
        (terms_reproduced M w h (live w h M) (λ B p. cut_or_not M B (proper_rises w h B p)) (live_distinct w h hw hh M)
        (and_both (four_everywhere w h (live w h M)) (none_nested (live w h M)) s).1 ok K (omega arith) (omega arith)
        (paired bs vs) (λ t m. cov t.of (paired_of bs vs t m)) p q 1)
      where
        at_one : (k f r : ℕ) → k * k * f ≡ r → k * 1 * (k * 1) * f ≡ r
        at_one k f r e = omega arith
