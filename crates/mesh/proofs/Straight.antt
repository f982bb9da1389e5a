-- Straight flows: on the domain the first four blends, each times the flow at its anchor, add up to the flow, and so does all that is left of them. Of the flow
-- that is 1 everywhere this says that the weights add up to one.
use Prim.Native.Nat.{ℕ, ◌+◌, ◌-◌, ◌*◌, ◌<◌, ◌≤◌}
use native.Mathlib.Omega.{arith}
use native.Mathlib.Nat.{mul-pos, eq_of_mul-eq-mul_left}
use mathlib.Core.Path.{◌≡◌, refl, ap, subst, ◌∙◌}
use mathlib.Core.Logic.{◌⊎◌}
use mathlib.Core.Bool.{true}
use mathlib.Core.List.{List, map, Memᴰ}
use Rattle.axis.specs.Fraction.{Fraction, times, whole, total, Equal, SameNumber}
use Rattle.axis.specs.Range.{Distinct}
use Rattle.mesh.specs.declared.Blend.{Blend}
use Rattle.mesh.specs.Lines.{Mesh}
use Rattle.mesh.specs.declared.Direction.{Direction}
use Rattle.mesh.specs.Blends.{cuts, first_four}
use Rattle.mesh.specs.Order.{Uncut, CoveredBy}
use Rattle.mesh.specs.Sound.{proper, none_nested}
use Rattle.mesh.specs.Weight.{weight, Flow, flow_at, at_anchor}
use Rattle.axis.proofs.Scale.{Multiple, common, Scaled, scaled_total, scaled_multiple, scaled_one, total_positive, sum, sum_same}
use Rattle.axis.proofs.Hats.{first_straight}
use Rattle.mesh.proofs.Cuts.{proper_facts}
use Rattle.mesh.proofs.Fresh.{first_proper}
use Rattle.mesh.proofs.Weights.{weight_den, scale_positive, scaled_weight, scaled_weight_lem, reproduced_values, sum_reproduced}

-- Sums over the first four blends: over the two corners at u, which is 0 or the side; over these pairs; and across from the one pair to the other.
module _ (F : Flow) where
  pair : (u h u' h' s t m : ℕ) → u' ≡ u → h' ≡ h → (F.a + F.b * u) * s + (F.a + F.b * u + (F.c + F.e * u) * h) * t ≡ m →
      flow_at F u' 0 1 * s + flow_at F u' h' 1 * t ≡ m
  pair u h u' h' s t m x y r = rw (x, y) (omega (arith, r))

  across : (d w q l r m : ℕ) → (F.a * d + F.c * q) * l + (F.a * d + F.c * q + (F.b * d + F.e * q) * w) * r ≡ m →
      ((F.a + F.b * 0) * d + (F.c + F.e * 0) * q) * l + ((F.a + F.b * w) * d + (F.c + F.e * w) * q) * r ≡ m
  across d w q l r m x = omega (arith, x)

  gathered : (k p q d : ℕ) → k * (k * ((F.a * d + F.c * q) * d + (F.b * d + F.e * q) * p)) ≡ k * k * flow_at F p q d
  gathered k p q d = omega arith

pairs : (l r s t i j i' j' k f g : ℕ) → i * s + j * t ≡ k * f → i' * s + j' * t ≡ k * g →
    i * (l * s) + (j * (l * t) + (i' * (r * s) + (j' * (r * t) + 0))) ≡ k * (f * l + g * r)
pairs l r s t i j i' j' k f g x y = omega (arith, ap (λ (n : ℕ). l * n) x, ap (λ (n : ℕ). r * n) y)

module _ {n : ℕ} (K : Multiple n) (w h : ℕ) (hw : 1 ≤ w) (hh : 1 ≤ h) (wide : w + 2 ≤ n) (tall : h + 2 ≤ n) (F : Flow) where
  first_flow : (p q d : ℕ) → d ≤ p → p ≤ (w + 1) * d → d ≤ q → q ≤ (h + 1) * d →
      sum (λ (B : Blend). at_anchor F B * scaled_weight K B p q d) (first_four w h) ≡ K.all * K.all * flow_at F (p - d) (q - d) d
  first_flow p q d p_low p_high q_low q_high =
      let x : w + 1 - 1 ≡ w = omega arith in
      let y : h + 1 - 1 ≡ h = omega arith in
      let level = first_straight K w hw wide p d p_low p_high (F.a * d + F.c * (q - d)) (F.b * d + F.e * (q - d)) in
      let upright : (u : ℕ) → _ = λ u. first_straight K h hh tall q d q_low q_high (F.a + F.b * u) (F.c + F.e * u) in
      pairs _ _ _ _ _ _ _ _ K.all _ _ (pair F 0 h 0 (h + 1 - 1) _ _ _ refl y (upright 0)) (pair F w h (w + 1 - 1) (h + 1 - 1) _ _ _ x y (upright w)) ∙
      ap (λ (m : ℕ). K.all * m) (across F d w (q - d) _ _ _ level) ∙ gathered F K.all (p - d) (q - d) d

module _ (M : Mesh) (w h : ℕ) (L : List Blend)
    (decide : (B : Blend) → proper w h B ≡ true → Uncut M B ⊎ ((d : Direction) × (z : ℕ) × (cuts M d z B ≡ true)))
    (distinct : Distinct L) (apart : none_nested L ≡ true) (rise : (C : Blend) → Memᴰ C L → proper w h C ≡ true)
    (full : (B : Blend) → Memᴰ B (first_four w h) → CoveredBy M L B) (hw : 1 ≤ w) (hh : 1 ≤ h) where
  abbrev K : Multiple (w + h + 2)
  K = common (w + h + 2)

  module _ (F : Flow) where
    -- a list that has all that is left of the first four: multiplied out, at knots,
    scaled_flow : (p q d : ℕ) → d ≤ p → p ≤ (w + 1) * d → d ≤ q → q ≤ (h + 1) * d →
        sum (λ (C : Blend). at_anchor F C * scaled_weight K C p q d) L ≡ K.all * K.all * flow_at F (p - d) (q - d) d
    scaled_flow p q d p_low p_high q_low q_high =
        reproduced_values K L first (at_anchor F)
        (sum_reproduced M w h L decide distinct apart rise K (omega arith) (omega arith) (at_anchor F) (λ (B : Blend). B) (first_four w h)
        (λ B m. (first_proper w h hw hh B m, full B m)))
        (λ C m.
        let x = (proper_facts w h C (rise C m)).across in
        let y = (proper_facts w h C (rise C m)).up in
        flow C.across.m C.up.m 1 (omega arith) (omega arith) (omega arith) (omega arith))
        p q d ∙ flow p q d p_low p_high q_low q_high
      where
        first : ℕ → ℕ → ℕ → ℕ
        first p q d = sum (λ (B : Blend). at_anchor F B * scaled_weight K B p q d) (first_four w h)

        flow : (p q d : ℕ) → d ≤ p → p ≤ (w + 1) * d → d ≤ q → q ≤ (h + 1) * d → first p q d ≡ K.all * K.all * flow_at F (p - d) (q - d) d
        flow = first_flow K w h hw hh (omega arith) (omega arith) F

    -- and at each point of the domain, in document 01's own coordinates
    flow_equal : (p q d : ℕ) → 0 < d → p ≤ w * d → q ≤ h * d →
        Equal (total (map (λ (C : Blend). times (whole (at_anchor F C)) (weight C (p + d) (q + d) d)) L))
        (record { num = flow_at F p q d; den = d * d })
    flow_equal p q d pos p_in q_in =
        let x : p + d - d ≡ p = omega arith in
        let y : q + d - d ≡ q = omega arith in
        let known = rw (x, y) at (scaled_flow (p + d) (q + d) d (omega arith) (omega arith) (omega arith) (omega arith)) in
        unscaled K.all (flow_at F p q d) _ _ _ K.positive known
        (scaled_total (K.all * d * (K.all * d)) _ (λ (C : Blend). at_anchor F C * scaled_weight K C (p + d) (q + d) d) L
        (λ C m.
        scaled_multiple (at_anchor F C) _ (weight C (p + d) (q + d) d) _ (scaled_weight_lem K w h (omega arith) (omega arith) C (rise C m) (p + d) (q + d) d)))
      where
        unscaled : (k f s n m : ℕ) → 0 < k → s ≡ k * k * f → s * m ≡ n * (k * d * (k * d)) → n * (d * d) ≡ f * m
        unscaled k f s n m k_pos e scaled =
            eq_of_mul-eq-mul_left (k * k) (mul-pos k_pos k_pos) _ _ (omega (arith, ap (λ (x : ℕ). x * m) e))

    pub flow_kept : (p q d : ℕ) → 0 < d → p ≤ w * d → q ≤ h * d →
        SameNumber (total (map (λ (C : Blend). times (whole (at_anchor F C)) (weight C (p + d) (q + d) d)) L))
        (record { num = flow_at F p q d; den = d * d })
    flow_kept p q d pos p_in q_in =
        record {
          equal = flow_equal p q d pos p_in q_in;
          defined =
              total_positive (λ (C : Blend). times (whole (at_anchor F C)) (weight C (p + d) (q + d) d)) L
              (λ C m. mul-pos (omega arith) (weight_den w h C (rise C m) (p + d) (q + d) d pos));
          also_defined = mul-pos pos pos;
        }

  -- the weights alone add up to one
  pub adds_up : (p q d : ℕ) → 0 < d → p ≤ w * d → q ≤ h * d →
      let s = total (map (λ (C : Blend). weight C (p + d) (q + d) d) L) in (s.num ≡ s.den) × (0 < s.den)
  adds_up p q d pos p_in q_in = (
    scaled_one S s (scale_positive K.all d K.positive pos)
        (subst (λ (x : ℕ). Scaled S s x)
        (sum_same _ _ L (λ C m. alone _ _ _) ∙
        scaled_flow one (p + d) (q + d) d (omega arith) (omega arith) (omega arith) (omega arith) ∙ squared K.all _ _)
        (scaled_total S f (λ (C : Blend). scaled_weight K C (p + d) (q + d) d) L
        (λ C m. scaled_weight_lem K w h (omega arith) (omega arith) C (rise C m) (p + d) (q + d) d))),
    total_positive f L (λ C m. weight_den w h C (rise C m) (p + d) (q + d) d pos),
  )
    where
      f : Blend → Fraction
      f C = weight C (p + d) (q + d) d

      s : Fraction
      s = total (map f L)

      S : ℕ
      S = K.all * d * (K.all * d)

      one : Flow
      one = record { a = 1; b = 0; c = 0; e = 0 }

      alone : (m n x : ℕ) → x ≡ flow_at one m n 1 * x
      alone m n x = omega arith

      squared : (k m n : ℕ) → k * k * flow_at one m n d ≡ k * d * (k * d)
      squared k m n = omega arith
