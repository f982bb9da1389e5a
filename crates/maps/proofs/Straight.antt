-- Document 02, L1: where the values are a straight flow at the anchors, the map reads it everywhere.
use Prim.Native.Nat.{ℕ, suc, ◌+◌, ◌-◌, ◌*◌, ◌≤◌, ◌<◌}
use native.Mathlib.Omega.{arith}
use native.Mathlib.Nat.{le_of_mul-le-mul_right}
use mathlib.Core.Path.{◌≡◌, refl, ap, ◌∙◌}
use mathlib.Core.Logic.{◌↔◌}
use mathlib.Core.List.{List, [], ◌∷◌, map}
use lib.IntN.{ℤ, pos, ◌*ℤ◌}
use lib.ListN.{length, get_or}
use Rattle.axis.specs.Fraction.{Fraction, times, whole, total}
use Rattle.axis.proofs.Members.{entry}
use Rattle.mesh.specs.declared.Split.{Split}
use Rattle.mesh.specs.declared.Blend.{Blend}
use Rattle.mesh.specs.Splits.{exact_number}
use Rattle.mesh.specs.Lines.{mesh_of}
use Rattle.mesh.specs.Sound.{none}
use Rattle.mesh.specs.Weight.{Term, weight, value, Flow, flow_at, at_anchor}
use Rattle.mesh.proofs.SoundMaps.{live_straight}
use Rattle.maps.specs.declared.Map.{Map}
use Rattle.maps.specs.Outcomes.{Placed}
use Rattle.maps.specs.Plain.{Plain, blends}
use Rattle.maps.specs.Values.{paired, sum_at, reading_at, drawn}
use Rattle.maps.specs.Record.{record_of}
use Rattle.maps.specs.Straight.{flow, ValuesStraight, ReadsStraight}
use Rattle.maps.proofs.Integers.{Difference, as_whole, is_whole, apart}
use Rattle.maps.proofs.Integers as Integers
use Rattle.maps.proofs.Answers.{place_listed, answers_listed, table_values_lem, anchor_shown, anchor_in, point_answers}
use Rattle.maps.proofs.Rounding.{nearest, nearest_whole}
use Rattle.maps.proofs.ExactSums.{value_positive}
use Rattle.mesh.proofs.Passing.{exact_says}
use Rattle.maps.proofs.Readings.{blends_proper, drawn_value}
use Rattle.maps.proofs.Reached.{Reached, drawn_leads}

-- The flow as what it has above 0 less what it has below, two flows whose numbers are from 0.
module _ (A B C D : ℤ) where
  abbrev above : Flow
  above = record { a = (apart A).from; b = (apart B).from; c = (apart C).from; e = (apart D).from }

  abbrev below : Flow
  below = record { a = (apart A).less; b = (apart B).less; c = (apart C).less; e = (apart D).less }

-- as a difference, at a whole point
abbrev difference : {A B C D : ℤ} → Difference A → Difference B → Difference C → Difference D → (u v : ℕ) →
    Difference (flow A B C D (pos u) (pos v))
difference a b c e u v = Integers.plus (Integers.plus (Integers.plus a (Integers.times b u)) (Integers.times c v)) (Integers.times (Integers.times e u) v)

module _ (A B C D : ℤ) where
  -- a number from 0 is the flow at a whole point exactly where it is that difference;
  flow_whole : (x u v : ℕ) → pos x ≡ flow A B C D (pos u) (pos v) ↔ x + flow_at (below A B C D) u v 1 ≡ flow_at (above A B C D) u v 1
  flow_whole x u v = (λ r. told.0 (as_whole d x r), λ r. is_whole d x (told.1 r))
    where
      d : Difference (flow A B C D (pos u) (pos v))
      d = difference (apart A) (apart B) (apart C) (apart D) u v

      spread : (F G : Flow) →
          x + (G.a + G.b * u + G.c * v + G.e * u * v) ≡ F.a + F.b * u + F.c * v + F.e * u * v ↔ x + flow_at G u v 1 ≡ flow_at F u v 1
      spread F G = (λ r. omega (arith, r), λ r. omega (arith, r))

      told : x + d.less ≡ d.from ↔ x + flow_at (below A B C D) u v 1 ≡ flow_at (above A B C D) u v 1
      told = spread (above A B C D) (below A B C D)

  -- at any point, over n, by multiplying out.
  flow_point : (x n p q d : ℕ) → x + flow_at (below A B C D) p q d * n ≡ flow_at (above A B C D) p q d * n →
      pos x ≡ flow (A *ℤ pos (d * d)) (B *ℤ pos d) (C *ℤ pos d) D (pos p) (pos q) *ℤ pos n
  flow_point x n p q d r =
      let scaled = difference (Integers.times (apart A) (d * d)) (Integers.times (apart B) d) (Integers.times (apart C) d) (apart D) p q in
      is_whole (Integers.times scaled n) x (rw (spread (above A B C D), spread (below A B C D)) r)
    where
      spread : (F : Flow) → F.a * (d * d) + F.b * d * p + F.c * d * q + F.e * p * q ≡ flow_at F p q d
      spread F = omega arith

-- Sums over blends whose values and others come to those of a third: the sums do so too, over the same denominator.
module _ (x : Blend → Fraction) (g k : Blend → ℕ) where
  abbrev termed : List Term → Fraction
  termed ts = total (map (λ (t : Term). times (whole t.multiple) (x t.of)) ts)

  abbrev summed : (Blend → ℕ) → List Blend → Fraction
  summed f bs = total (map (λ (B : Blend). times (whole (f B)) (x B)) bs)

  record Joins (bs : List Blend) (vs : List ℕ) : Type 0 where
    den : (termed (paired bs vs)).den ≡ (summed g bs).den
    den' : (summed k bs).den ≡ (summed g bs).den
    num : (termed (paired bs vs)).num + (summed g bs).num ≡ (summed k bs).num

  sums_join : (bs : List Blend) (vs : List ℕ) → length vs ≡ length bs →
      ((i : ℕ) → i < length bs → get_or vs i 0 + g (get_or bs i none) ≡ k (get_or bs i none)) → Joins bs vs
  sums_join [] vs long each = record { den = refl; den' = refl; num = refl }
  sums_join (B ∷ bs) [] long each = absurd (omega arith)
  sums_join (B ∷ bs) (v ∷ vs) long each =
      let r = sums_join bs vs (omega arith) (λ i lt. each (suc i) (omega arith)) in
      record {
        den = ap (λ (n : ℕ). 1 * (x B).den * n) r.den;
        den' = ap (λ (n : ℕ). 1 * (x B).den * n) r.den';
        num = added v (g B) (k B) (x B).num (x B).den _ _ _ _ _ _ (each 0 (omega arith)) r.den r.den' r.num;
      }
    where
      added : (v g k n d a b c D E F : ℕ) → v + g ≡ k → D ≡ E → F ≡ E → a + b ≡ c →
          v * n * D + a * (1 * d) + (g * n * E + b * (1 * d)) ≡ k * n * F + c * (1 * d)
      added v g k n d a b c D E F e f f' h = rw (f, f') (omega (arith, ap (λ (i : ℕ). i * (n * E)) e, ap (λ (i : ℕ). i * d) h))

-- a fraction that is a whole number is rounded to it
quotient : (s n f g : ℕ) → 0 < n → s * (1 * 1) + g * n ≡ f * n → nearest n s + g ≡ f
quotient s n f g positive e =
    let le : g ≤ f = le_of_mul-le-mul_right (omega (arith, e)) positive in
    let is : s ≡ (f - g) * n = rest (f - g) (omega arith) in
    rw is (omega (arith, nearest_whole n positive (f - g)))
  where
    rest : (r : ℕ) → r + g ≡ f → s ≡ r * n
    rest r q = omega (arith, e, ap (λ (i : ℕ). i * n) q)

module _ (P : Plain) (at : Reached P) (A B C D : ℤ) (given : ValuesStraight (record_of P) A B C D) where
  at_place : (i : ℕ) → i < length (blends P) → let X = get_or (blends P) i none in
      get_or P.values i 0 + at_anchor (below A B C D) X ≡ at_anchor (above A B C D) X
  at_place i lt =
      let X = get_or (blends P) i none in
      let listed = place_listed P at.holds i lt in
      let shown = anchor_shown P at.holds X (entry (blends P) i none lt) in
      (flow_whole A B C D _ (X.across.m - 1) (X.up.m - 1)).0
      (rw (listed, shown.0, shown.1) at (given i (ap (λ (r : Placed). r.number) listed)))

  -- the sum of value times weight at a point of the domain
  module _ (p q d : ℕ) (positive : 0 < d) (p_in : p ≤ P.lines.w * d) (q_in : q ≤ P.lines.h * d) where
    abbrev sum : Fraction
    sum = value (paired (blends P) P.values) (p + d) (q + d) d

    sum_positive : 0 < sum.den
    sum_positive = value_positive P.lines.w P.lines.h (blends P) P.values (blends_proper P at.valued) (p + d) (q + d) d positive

    sum_flows : sum.num * (d * d) + flow_at (below A B C D) p q d * sum.den ≡ flow_at (above A B C D) p q d * sum.den
    sum_flows =
        let v = at.valued in
        let kept : (F : Flow) → _ = λ F.
        (live_straight P.lines.w P.lines.h v.wide.0 v.tall.0 (mesh_of P.lines) v.is_sound
        F p q d positive p_in q_in).equal in
        let weighs : Blend → Fraction = λ X. weight X (p + d) (q + d) d in
        let j = sums_join weighs (at_anchor (below A B C D)) (at_anchor (above A B C D)) (blends P) P.values v.counted at_place in
        moved _ _ _ _ _ _ _ _ _ j.num j.den j.den' (kept (below A B C D)) (kept (above A B C D))
      where
        moved : (s g k x y z f h dd : ℕ) → s + g ≡ k → x ≡ y → z ≡ y → g * dd ≡ f * y → k * dd ≡ h * z → s * dd + f * x ≡ h * x
        moved s g k x y z f h dd e i j l m =
            let m' : k * dd ≡ h * y = m ∙ ap (λ (n : ℕ). h * n) j in
            rw i (omega (arith, ap (λ (n : ℕ). n * dd) e, l, m'))

  -- at a whole point, rounded
  reading_flows : (u v : ℕ) → u ≤ P.lines.w → v ≤ P.lines.h → pos (reading_at (blends P) P.values u v) ≡ flow A B C D (pos u) (pos v)
  unfolding reading_at sum_at
  reading_flows u v uw vh =
      (flow_whole A B C D _ u v).1
      (quotient _ _ _ _ (sum_positive u v 1 (omega arith) (omega arith) (omega arith)) (sum_flows u v 1 (omega arith) (omega arith) (omega arith)))

  reads : ReadsStraight (record_of P) (blends P) P.lines.w P.lines.h A B C D
  reads =
      record {
        readings = λ u v uw vh. rw (point_answers P at.holds u v uw vh) (refl, reading_flows u v uw vh);
        sums = λ p q d positive p_in q_in.
            rw (table_values_lem P at.holds)
            (flow_point A B C D _ _ p q d (sum_flows p q d positive p_in q_in), sum_positive p q d positive p_in q_in);
      }

-- of a map that was reached, however it is told
pub reads_straight : (P : Plain) → Reached P → (m : Map) (w h : ℕ) → m ≡ record_of P → P.lines.w ≡ w → P.lines.h ≡ h →
    (A B C D : ℤ) → ValuesStraight m A B C D → ReadsStraight m (blends P) w h A B C D
reads_straight P at m w h is wide tall A B C D = rw (is, ← wide, ← tall) (reads P at A B C D)

-- The values that a split carries to new anchors are readings, so they are the flow's again.
pub carried_straight : (P : Plain) → Reached P → (s : Split) → exact_number P.lines s ≡ 0 →
    (A B C D : ℤ) → ValuesStraight (record_of P) A B C D → ValuesStraight (record_of (drawn P s)) A B C D
carried_straight P at s accepted A B C D given i e =
    let after = drawn_leads P at s accepted in
    let lt = answers_listed (drawn P s) after.reached.holds i e in
    let X = get_or (blends (drawn P s)) i none in
    let m = entry (blends (drawn P s)) i none lt in
    let shown = anchor_shown (drawn P s) after.reached.holds X m in
    let d = anchor_in (drawn P s) after.reached.holds X m in
    rw (place_listed (drawn P s) after.reached.holds i lt, shown.0, shown.1, drawn_value P at.valued s (exact_says P.lines s accepted).1 i lt)
    (reading_flows P at A B C D given _ _ (omega (arith, d.0, after.wide)) (omega (arith, d.1, after.tall)))
