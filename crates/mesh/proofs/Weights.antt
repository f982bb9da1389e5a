-- Weights of blends: what they are at anchors and over unit squares; blends are reproduced by what is left of them.
use Prim.Native.Nat.{ℕ, zero, suc, ◌+◌, ◌*◌, ◌<◌, ◌≤◌}
use native.Mathlib.Omega.{arith}
use native.Mathlib.Nat.{mul-pos, eq_of_mul-eq-mul_left}
use mathlib.Core.Path.{◌≡◌, refl, sym, ap, ◌∙◌}
use mathlib.Core.Logic.{◌⊎◌, ◌↔◌, inl, inr, ⊎_elim}
use mathlib.Core.Bool.{true, false, ◌&&◌, not}
use mathlib.Core.List.{List, [], ◌∷◌, Memᴰ}
use borrow.Author.Tests.{not-false}
use Rattle.axis.specs.Fraction.{times, whole, Equal, SameNumber}
use Rattle.axis.specs.Triple.{hat, spans, between}
use Rattle.axis.specs.declared.Side.{Side}
use Rattle.axis.specs.declared.Side.TheVariants.{Lower as lower, Upper as upper}
use Rattle.mesh.specs.Lines.{Mesh}
use Rattle.mesh.specs.declared.Direction.{Direction}
use Rattle.mesh.specs.declared.Direction.TheVariants.{Upright as upright, Level as level}
use Rattle.mesh.specs.Blends.{crossed, cuts, halve, size, same}
use Rattle.mesh.specs.Order.{Uncut, CoveredBy}
use Rattle.mesh.specs.Sound.{proper, over_square, none_nested}
use Rattle.mesh.specs.Weight.{weight, Term, value, interpolated, CoveredTerms}
use Rattle.mesh.specs.declared.Blend.{Blend}
use Rattle.axis.proofs.Tests.{and_both, and_of, and_fails}
use Rattle.axis.specs.Range.{Distinct}
use Rattle.axis.proofs.Scale.{Multiple, common, Scaled, scaled_times, scaled_total, total_positive, scaled_more, scaled_multiple, scaled_equal, sum, sum_zero, sum_multiple, sum_linear, sum_single}
use Rattle.axis.proofs.Hats.{hat_den, hat_middle, hat_off, step_positive, scaled_hat, scaled_hat_lem, two_scale, scaled_middle, scaled_off}
use Rattle.axis.proofs.Triples.{Inside, rise_of}
use Rattle.mesh.proofs.Cuts.{proper_facts, proper_of, proper_rises, halve_proper, halve_smaller, size_positive, cut_fact, same_blend}
use Rattle.mesh.proofs.Order.{left_front, left_itself}
use Rattle.mesh.proofs.Places.{unnested}

-- a proper blend
module _ (w h : ℕ) (B : Blend) (ok : proper w h B ≡ true) where
  pub weight_den : (p q d : ℕ) → 0 < d → 0 < (weight B p q d).den
  weight_den p q d pos =
      let r = proper_rises w h B ok in
      mul-pos (hat_den B.across r.across p d pos) (hat_den B.up r.up q d pos)

  -- strictly inside a unit square the weight is above 0 exactly when the square lies in the support
  pub square_positive : (x y p q d : ℕ) → x * d < p → p < (x + 1) * d → y * d < q → q < (y + 1) * d → over_square x y B ≡ true ↔ 0 < (weight B p q d).num
  square_positive x y p q d x_low x_high y_low y_high =
      let r = proper_rises w h B ok in
      let a = step_positive B.across r.across x p d x_low x_high in
      let b = step_positive B.up r.up y q d y_low y_high in (
        λ e. let s = and_both (spans x B.across) (spans y B.up) e in mul-pos (a.0 s.0) (b.0 s.1),
        λ pos. let f = factors (hat B.across p d).num (hat B.up q d).num pos in and_of _ _ (a.1 f.0) (b.1 f.1),
      )
    where
      factors : (i j : ℕ) → 0 < i * j → (0 < i) × (0 < j)
      factors zero j pos = absurd (omega arith)
      factors (suc i) zero pos = absurd (omega arith)
      factors (suc i) (suc j) pos = omega arith

-- so a sum of multiples of proper blends has a denominator, and so has the one over the anchors
module _ (w h : ℕ) (ts : List Term) (ok : (t : Term) → Memᴰ t ts → proper w h t.of ≡ true) where
  pub multiples_den : (p q d : ℕ) → 0 < d → 0 < (value ts p q d).den
  multiples_den p q d pos =
      total_positive (λ (t : Term). times (whole t.multiple) (weight t.of p q d)) ts
      (λ t m. mul-pos (omega arith) (weight_den w h t.of (ok t m) p q d pos))

  interpolated_den : (L : List Blend) → ((C : Blend) → Memᴰ C L → proper w h C ≡ true) → (p q d : ℕ) → 0 < d →
      0 < (interpolated ts L p q d).den
  interpolated_den L rise p q d pos =
      total_positive (λ (C : Blend). times (value ts C.across.m C.up.m 1) (weight C p q d)) L
      (λ C m. mul-pos (multiples_den C.across.m C.up.m 1 (omega arith)) (weight_den w h C (rise C m) p q d pos))

-- where no anchor is strictly inside another's support, it is off that support on one axis at least
clear : (L : List Blend) → none_nested L ≡ true → (B C : Blend) → Memᴰ B L → Memᴰ C L → (B ≡ C → ⊥) →
    (between B.across.m C.across ≡ false) ⊎ (between B.up.m C.up ≡ false)
clear L apart B C mB mC differ =
    ⊎_elim
    (λ e. ⊎_elim (λ s. absurd (differ (same_blend B C (not-false _ s)))) (λ s. inl s)
    (and_fails (not (same B C)) (between B.across.m C.across) e))
    (λ e. inr e)
    (and_fails (not (same B C) && between B.across.m C.across) (between B.up.m C.up) (unnested L apart B C mB mC))

-- a product is 0 where a factor is
zero_left : (a b : ℕ) → a ≡ 0 → a * b ≡ 0
zero_left a b e = omega (arith, ap (λ (x : ℕ). x * b) e)

zero_right : (a b : ℕ) → b ≡ 0 → a * b ≡ 0
zero_right a b e = omega (arith, ap (λ (x : ℕ). a * x) e)

module _ (w h : ℕ) (L : List Blend) (apart : none_nested L ≡ true) (rise : (C : Blend) → Memᴰ C L → proper w h C ≡ true) where
  -- at its own anchor a blend weighs one, at every other anchor 0
  pub own_anchor : (C : Blend) → Memᴰ C L →
      ((weight C C.across.m C.up.m 1).num ≡ (weight C C.across.m C.up.m 1).den) × (0 < (weight C C.across.m C.up.m 1).den)
  own_anchor C m = (rw (hat_middle C.across, hat_middle C.up), weight_den w h C (rise C m) C.across.m C.up.m 1 (omega arith))

  pub other_anchor : (B C : Blend) → Memᴰ B L → Memᴰ C L → (B ≡ C → ⊥) → (weight C B.across.m B.up.m 1).num ≡ 0
  other_anchor B C mB mC differ =
      ⊎_elim (λ o. zero_left _ _ (hat_off C.across (proper_rises w h C (rise C mC)).across B.across.m o))
      (λ o. zero_right _ _ (hat_off C.up (proper_rises w h C (rise C mC)).up B.up.m o))
      (clear L apart B C mB mC differ)

-- a sum of multiples, times one more factor
times_right : (a b c f g k v : ℕ) → a * f ≡ b * g + c * k → a * (f * v) ≡ b * (g * v) + c * (k * v)
times_right a b c f g k v e = omega (arith, ap (λ (x : ℕ). x * v) e)

times_left : (a b c f g k u : ℕ) → a * f ≡ b * g + c * k → a * (u * f) ≡ b * (u * g) + c * (u * k)
times_left a b c f g k u e = omega (arith, ap (λ (x : ℕ). u * x) e)

-- the scale of a weight: at the anchors, where d is 1, and in general
at_one : (k : ℕ) → k * 1 * (k * 1) ≡ k * k
at_one k = omega arith

pub scale_positive : (k d : ℕ) → 0 < k → 0 < d → 0 < k * d * (k * d)
scale_positive k d k_pos d_pos = mul-pos (mul-pos k_pos d_pos) (mul-pos k_pos d_pos)

-- A blend's weight, multiplied by (all * d) * (all * d); and a sum of multiples of weights.
abbrev pub scaled_weight : {n : ℕ} → Multiple n → Blend → ℕ → ℕ → ℕ → ℕ
scaled_weight K B p q d = scaled_hat K B.across p d * scaled_hat K B.up q d

abbrev pub scaled_value : {n : ℕ} → Multiple n → List Term → ℕ → ℕ → ℕ → ℕ
scaled_value K ts p q d = sum (λ (t : Term). t.multiple * scaled_weight K t.of p q d) ts

-- A function on the points is reproduced by L when it is the sum over L of its values at the anchors times the blends.
-- Here it and the weights of L are multiplied out alike, so each product on the right holds the multiple once more than f does.
abbrev pub Reproduced : {n : ℕ} → Multiple n → List Blend → (ℕ → ℕ → ℕ → ℕ) → Type 0
Reproduced K L f =
    (p q d : ℕ) → K.all * K.all * f p q d ≡ sum (λ (C : Blend). f C.across.m C.up.m 1 * scaled_weight K C p q d) L

module _ {n : ℕ} (K : Multiple n) (L : List Blend) where
  pub reproduced_none : Reproduced K L (λ p q d. 0)
  reproduced_none p q d = omega (arith, sum_zero (λ (C : Blend). 0 * scaled_weight K C p q d) L (λ C m. omega arith))

  -- a function some multiple of which is a sum of multiples of reproduced ones
  pub reproduced_sum : (a b c : ℕ) (f g k : ℕ → ℕ → ℕ → ℕ) → 0 < a → ((p q d : ℕ) → a * f p q d ≡ b * g p q d + c * k p q d) →
      Reproduced K L g → Reproduced K L k → Reproduced K L f
  reproduced_sum a b c f g k pos law rg rk p q d =
      eq_of_mul-eq-mul_left a pos _ _
      (join _ _ _ _ _ _ _ (law p q d) (rg p q d) (rk p q d)
      (sum_linear a b c (at f) (at g) (at k) L (λ C m. times_right _ _ _ _ _ _ _ (law C.across.m C.up.m 1))))
    where
      at : (ℕ → ℕ → ℕ → ℕ) → Blend → ℕ
      at f C = f C.across.m C.up.m 1 * scaled_weight K C p q d

      join : (K f g k sf sg sk : ℕ) → a * f ≡ b * g + c * k → K * g ≡ sg → K * k ≡ sk → a * sf ≡ b * sg + c * sk → a * (K * f) ≡ a * sf
      join K f g k sf sg sk e eg ek es = omega (arith, ap (λ (x : ℕ). K * x) e, ap (λ (x : ℕ). b * x) eg, ap (λ (x : ℕ). c * x) ek)

  -- a reproduced function is the sum of what it is at the anchors, there before multiplying out, times the weights
  pub reproduced_values : (f : ℕ → ℕ → ℕ → ℕ) (v : Blend → ℕ) → Reproduced K L f →
      ((C : Blend) → Memᴰ C L → f C.across.m C.up.m 1 ≡ K.all * K.all * v C) →
      (p q d : ℕ) → sum (λ (C : Blend). v C * scaled_weight K C p q d) L ≡ f p q d
  reproduced_values f v r known p q d =
      eq_of_mul-eq-mul_left (K.all * K.all) (mul-pos K.positive K.positive) _ _
      (sum_multiple (K.all * K.all) (λ (C : Blend). v C * scaled_weight K C p q d) (λ (C : Blend). f C.across.m C.up.m 1 * scaled_weight K C p q d) L
      (λ C m. moved _ _ _ _ (known C m)) ∙ sym (r p q d))
    where
      moved : (k v x f : ℕ) → f ≡ k * v → k * (v * x) ≡ f * x
      moved k v x f e = omega (arith, ap (λ (y : ℕ). y * x) e)

module _ {n : ℕ} (K : Multiple n) (w h : ℕ) (wide : w + 2 ≤ n) (tall : h + 2 ≤ n) where
  pub scaled_weight_lem : (B : Blend) → proper w h B ≡ true → (p q d : ℕ) → Scaled (K.all * d * (K.all * d)) (weight B p q d) (scaled_weight K B p q d)
  scaled_weight_lem B ok p q d =
      let a = (proper_facts w h B ok).across in
      let b = (proper_facts w h B ok).up in
      scaled_times (K.all * d) (K.all * d) (hat B.across p d) (hat B.up q d) (scaled_hat K B.across p d) (scaled_hat K B.up q d)
      (scaled_hat_lem K B.across (rise_of a) (omega arith) p d) (scaled_hat_lem K B.up (rise_of b) (omega arith) q d)

  pub scaled_value_lem : (ts : List Term) → ((t : Term) → Memᴰ t ts → proper w h t.of ≡ true) → (p q d : ℕ) →
      Scaled (K.all * d * (K.all * d)) (value ts p q d) (scaled_value K ts p q d)
  scaled_value_lem ts ok p q d =
      scaled_total (K.all * d * (K.all * d)) (λ (t : Term). times (whole t.multiple) (weight t.of p q d))
      (λ (t : Term). t.multiple * scaled_weight K t.of p q d) ts
      (λ t m. scaled_multiple t.multiple _ (weight t.of p q d) _ (scaled_weight_lem t.of (ok t m) p q d))

  pub scaled_interpolated : (ts : List Term) (L : List Blend) → ((t : Term) → Memᴰ t ts → proper w h t.of ≡ true) →
      ((C : Blend) → Memᴰ C L → proper w h C ≡ true) → (p q d : ℕ) →
      Scaled (K.all * K.all * (K.all * d * (K.all * d))) (interpolated ts L p q d)
      (sum (λ (C : Blend). scaled_value K ts C.across.m C.up.m 1 * scaled_weight K C p q d) L)
  scaled_interpolated ts L ok rise p q d =
      scaled_total _ (λ (C : Blend). times (value ts C.across.m C.up.m 1) (weight C p q d))
      (λ (C : Blend). scaled_value K ts C.across.m C.up.m 1 * scaled_weight K C p q d) L
      (λ C m. scaled_times _ _ (value ts C.across.m C.up.m 1) (weight C p q d) _ _
      (rw (at_one K.all) at (scaled_value_lem ts ok C.across.m C.up.m 1)) (scaled_weight_lem C (rise C m) p q d))

  -- the two_scale law of a cut: a multiple of the blend is a sum of multiples of its halves
  pub cut_law : (B : Blend) → proper w h B ≡ true → (d : Direction) (z : ℕ) → Inside z (crossed d B) →
      (a b c : ℕ) × (0 < a) × ((p q e : ℕ) → a * scaled_weight K B p q e ≡
      b * scaled_weight K (halve d lower z B) p q e + c * scaled_weight K (halve d upper z B) p q e)
  unfolding halve
  cut_law B ok upright z i =
      let a = (proper_facts w h B ok).across in
      let t = two_scale K B.across z (rise_of a) (omega arith) i in
      (t.0, t.1, t.2, t.3, λ p q e. times_right _ _ _ _ _ _ (scaled_hat K B.up q e) (t.4 p e))
  cut_law B ok level z i =
      let b = (proper_facts w h B ok).up in
      let t = two_scale K B.up z (rise_of b) (omega arith) i in
      (t.0, t.1, t.2, t.3, λ p q e. times_left _ _ _ _ _ _ (scaled_hat K B.across p e) (t.4 q e))

  -- a blend whose halves are reproduced is
  cut_reproduced : (L : List Blend) (B : Blend) → proper w h B ≡ true → (d : Direction) (z : ℕ) → Inside z (crossed d B) →
      ((s : Side) → Reproduced K L (scaled_weight K (halve d s z B))) → Reproduced K L (scaled_weight K B)
  cut_reproduced L B ok d z i halves =
      let law = cut_law B ok d z i in
      reproduced_sum K L law.0 law.1 law.2 (scaled_weight K B) (scaled_weight K (halve d lower z B)) (scaled_weight K (halve d upper z B))
      law.3 law.4 (halves lower) (halves upper)

module _ (w h : ℕ) (L : List Blend) (distinct : Distinct L) (apart : none_nested L ≡ true) (rise : (C : Blend) → Memᴰ C L → proper w h C ≡ true)
    {n : ℕ} (K : Multiple n) (wide : w + 2 ≤ n) (tall : h + 2 ≤ n) where
  scaled_own : (C : Blend) → Memᴰ C L → scaled_weight K C C.across.m C.up.m 1 ≡ K.all * K.all
  scaled_own C m =
      let a = (proper_facts w h C (rise C m)).across in
      let b = (proper_facts w h C (rise C m)).up in
      rw (scaled_middle K C.across (rise_of a) (omega arith), scaled_middle K C.up (rise_of b) (omega arith))

  scaled_other : (B C : Blend) → Memᴰ B L → Memᴰ C L → (B ≡ C → ⊥) → scaled_weight K C B.across.m B.up.m 1 ≡ 0
  scaled_other B C mB mC differ =
      ⊎_elim (λ o. zero_left _ _ (scaled_off K C.across B.across.m o))
      (λ o. zero_right _ _ (scaled_off K C.up B.up.m o))
      (clear L apart B C mB mC differ)

  pub member_reproduced : (B : Blend) → Memᴰ B L → Reproduced K L (scaled_weight K B)
  member_reproduced B m p q d =
      ap (λ (x : ℕ). x * scaled_weight K B p q d) (sym (scaled_own B m)) ∙
      sym (sum_single (λ (C : Blend). scaled_weight K B C.across.m C.up.m 1 * scaled_weight K C p q d) L distinct B m
      (λ C mC differ. zero_left _ _ (scaled_other C B mC m differ)))

-- a half of a covered blend is covered
half_covered : (M : Mesh) (L : List Blend) (B : Blend) (d : Direction) (s : Side) (z : ℕ) → cuts M d z B ≡ true →
    CoveredBy M L B → CoveredBy M L (halve d s z B)
half_covered M L B d s z e cov C left = cov C (left_front d z s e left)

module _ (M : Mesh) (w h : ℕ) (L : List Blend)
    (decide : (B : Blend) → proper w h B ≡ true → Uncut M B ⊎ ((d : Direction) × (z : ℕ) × (cuts M d z B ≡ true)))
    (distinct : Distinct L) (apart : none_nested L ≡ true) (rise : (C : Blend) → Memᴰ C L → proper w h C ≡ true) where
  module _ {n : ℕ} (K : Multiple n) (wide : w + 2 ≤ n) (tall : h + 2 ≤ n) where
    -- A covered blend is in L, or is cut, and then its halves are covered too: by induction on its size it is reproduced.
    covered_within : (f : ℕ) (B : Blend) → size B ≤ f → proper w h B ≡ true → CoveredBy M L B →
        Reproduced K L (scaled_weight K B)
    covered_within zero B le ok cov = absurd (omega (arith, size_positive B (proper_rises w h B ok)))
    covered_within (suc f) B le ok cov =
        ⊎_elim (λ u. member_reproduced w h L distinct apart rise K wide tall B (cov B (left_itself u)))
        (λ c. let i = (cut_fact M c.0 c.1 B c.2).inside in
        cut_reproduced K w h wide tall L B ok c.0 c.1 i
        (λ s. covered_within f (halve c.0 s c.1 B) (omega (arith, halve_smaller c.0 s c.1 B (proper_rises w h B ok) i))
        (proper_of w h _ (halve_proper c.0 s c.1 B (proper_facts w h B ok) i)) (half_covered M L B c.0 s c.1 c.2 cov)))
        (decide B ok)

    pub covered_reproduced : (B : Blend) → proper w h B ≡ true → CoveredBy M L B → Reproduced K L (scaled_weight K B)
    covered_reproduced B ok cov = covered_within (size B) B (omega arith) ok cov

    -- and so is a sum of multiples of such blends
    pub sum_reproduced : {A : Type 0} (c : A → ℕ) (b : A → Blend) (xs : List A) →
        ((x : A) → Memᴰ x xs → (proper w h (b x) ≡ true) × CoveredBy M L (b x)) →
        Reproduced K L (λ p q d. sum (λ x. c x * scaled_weight K (b x) p q d) xs)
    sum_reproduced c b [] cov = reproduced_none K L
    sum_reproduced c b (x ∷ xs) cov =
        let head = cov x (Memᴰ.head refl) in
        reproduced_sum K L 1 (c x) 1 _ (scaled_weight K (b x)) (λ p q d. sum (λ y. c y * scaled_weight K (b y) p q d) xs)
        (omega arith) (λ p q d. one_more _ _)
        (covered_reproduced (b x) head.0 head.1)
        (sum_reproduced c b xs (λ y m. cov y (Memᴰ.tail m)))
      where
        one_more : (a s : ℕ) → 1 * (a + s) ≡ a + 1 * s
        one_more a s = omega arith

    pub terms_reproduced : (ts : List Term) → CoveredTerms M w h L ts → Reproduced K L (scaled_value K ts)
    terms_reproduced ts cov = sum_reproduced (λ (t : Term). t.multiple) (λ (t : Term). t.of) ts cov

    reproduced_with : (ts : List Term) → CoveredTerms M w h L ts → (p q d : ℕ) → 0 < d → Equal (value ts p q d) (interpolated ts L p q d)
    reproduced_with ts cov p q d pos =
        scaled_equal _ (value ts p q d) (interpolated ts L p q d) _ (mul-pos (mul-pos K.positive K.positive) (scale_positive K.all d K.positive pos))
        (rw (terms_reproduced ts cov p q d) at (scaled_more (K.all * K.all) _ (value ts p q d) _ (scaled_value_lem K w h wide tall ts (λ t m. (cov t m).0) p q d)))
        (scaled_interpolated K w h wide tall ts L (λ t m. (cov t m).0) rise p q d)

  -- what is reproduced, in fractions: at every point, inside the domain or not
  pub reproduced : (ts : List Term) → CoveredTerms M w h L ts → (p q d : ℕ) → 0 < d →
      SameNumber (value ts p q d) (interpolated ts L p q d)
  reproduced ts cov p q d pos =
      record {
        equal = reproduced_with (common (w + h + 2)) (omega arith) (omega arith) ts cov p q d pos;
        defined = multiples_den w h ts (λ t m. (cov t m).0) p q d pos;
        also_defined = interpolated_den w h ts (λ t m. (cov t m).0) L rise p q d pos;
      }
