-- A reading as it is added up: a sum with one fraction more, and the sum over all blends by those over a square.
use Prim.Native.Nat.{ℕ, suc, ◌+◌, ◌*◌, ◌/◌, ◌%◌, ◌<◌, ◌≤◌}
use native.Mathlib.Omega.{arith}
use native.Mathlib.Nat.{mul-pos, mul-le-mul, mul-le-mul_right, div-le_self, mod-lt, le_of_lt, div-add-mod', pow-suc}
use native.Mathlib.Numerals.{add-one}
use mathlib.Core.Path.{◌≡◌, refl, sym, ap, subst, ◌∙◌}
use mathlib.Core.Logic.{⊎_elim}
use mathlib.Core.Bool.{true}
use mathlib.Core.List.{List, [], ◌∷◌}
use lib.ListN.{length, get_or, take}
use lib.Seq.{length-take-le, get_or-take}
use Rattle.axis.specs.Fraction.{Equal, plus, times, whole, total}
use Rattle.axis.specs.Range.{all}
use Rattle.axis.proofs.Tests.{either, and_both, all_at, cond_true, cond_false}
use Rattle.axis.proofs.Scale.{total_positive}
use Rattle.axis.proofs.Sums.{multiple_equal, plus_equal, plus_nothing}
use Rattle.axis.specs.Gap.{corner, End}
use Rattle.axis.proofs.Gaps.{corner_end}
use Rattle.mesh.specs.declared.Blend.{Blend}
use Rattle.mesh.specs.declared.Table.{Table}
use Rattle.mesh.specs.Weight.{weight, value}
use Rattle.mesh.specs.Sound.{over_square, proper, blends_of}
use Rattle.mesh.proofs.Cuts.{proper_facts}
use Rattle.mesh.proofs.BlendTables.{proper_most}
use Rattle.maps.specs.declared.values.Entry.{Entry}
use Rattle.maps.specs.declared.values.Sum.{Sum}
use Rattle.maps.specs.Rounding.{rounded}
use Rattle.maps.specs.Values.{paired, sum_at, reading_at, weight_at}
use Rattle.maps.specs.Inner.{AtPoint, entries_over, portion, portions, fraction_of, SumOf}
use Rattle.maps.proofs.Rounding.{rounded_same}
use Rattle.maps.proofs.ExactSums.{value_positive}
use Rattle.maps.proofs.OverSquare.{weight_shares, weight_outside, denominator_positive, entry_in}

-- a sum with one fraction more is exact, and stays small
module _ (s : Sum) (p d : ℕ) where
  abbrev pub more : Sum
  more = record { whole = s.whole + p / d; top = s.top * d + p % d * s.bottom; bottom = s.bottom * d }

  pub more_exact : fraction_of more ≡ plus (record { num = p; den = d }) (fraction_of s)
  more_exact =
      let n : more.whole * more.bottom + more.top ≡ p * s.bottom + (s.whole * s.bottom + s.top) * d =
      omega (arith, ap (λ (n : ℕ). n * s.bottom) (div-add-mod' p d)) in
      let b : s.bottom * d ≡ d * s.bottom = omega arith in
      λ i. record { num = n i; den = b i }

  pub more_small : 0 < d → d ≤ 16641 → p ≤ 16641 * 65535 → (n : ℕ) → SumOf n s → SumOf (n + 1) more
  more_small positive low most n sum =
      record {
        positive = mul-pos sum.positive positive;
        low = rw (add-one, pow-suc) (mul-le-mul sum.low low);
        rest = omega (arith, mul-le-mul_right d sum.rest, mul-le-mul_right s.bottom (le_of_lt (mod-lt p positive)));
        most = omega (arith, sum.most, div-le_self p d);
      }

-- At a corner (u, v) of the square from (x, y) the sum over all blends is that over the blends over the square, since the others weigh 0 there.
module _ (x y u v : ℕ) (e : End x u) (f : End y v) (values : List ℕ) where
  pub value_over : (bs : List Blend) (vs : List ℕ) (i : ℕ) → all (proper 128 128) bs ≡ true → length bs ≡ length vs →
      ((k : ℕ) → k < length vs → get_or vs k 0 ≡ get_or values (i + k) 0) →
      Equal (value (paired bs vs) u v 1) (total (portions x y u v values (entries_over (over_square x y) bs i)))
  unfolding weight_at
  value_over [] vs i ok long same = refl
  value_over (B ∷ bs) [] i ok long same = absurd (omega arith)
  value_over (B ∷ bs) (c ∷ vs) i ok long same =
      let p = and_both (proper 128 128 B) (all (proper 128 128) bs) ok in
      let facts = proper_facts 128 128 B p.0 in
      let here : c ≡ get_or values i 0 = same 0 (omega arith) ∙ ap (λ (n : ℕ). get_or values n 0) (omega arith) in
      let rest = value_over bs vs (i + 1) p.1 (omega arith) (λ k lt. same (suc k) (omega arith) ∙ ap (λ (n : ℕ). get_or values n 0) (omega arith)) in
      let as_one : List Entry → Type 0 = λ es. Equal (value (paired (B ∷ bs) (c ∷ vs)) u v 1) (total (portions x y u v values es)) in
      ⊎_elim
      (λ o. subst as_one (sym (cond_true _ _ _ o))
      (rw (← here) (plus_equal (times (whole c) (weight B u v 1)) (portion x y u v B c) _ _
      (multiple_equal c (weight B u v 1) _ _ (weight_shares B facts x y u v e f).equal) rest)))
      (λ o. subst as_one (sym (cond_false _ _ _ o))
      (plus_nothing (times (whole c) (weight B u v 1)) _ _ (rw (weight_outside B facts x y u v e f o) (omega arith)) rest))
      (either (over_square x y B))

  -- The portions have a denominator,
  pub portions_positive : (w h : ℕ) → w ≤ 128 → h ≤ 128 → (bs : List Blend) → all (proper w h) bs ≡ true →
      0 < (total (portions x y u v values (entries_over (over_square x y) bs 0))).den
  unfolding weight_at
  portions_positive w h hw hh bs ok =
      total_positive _ (entries_over (over_square x y) bs 0)
      (λ a m. let in_table = all_at (proper 128 128) bs (proper_most w h bs hw hh ok) a.blend (entry_in (over_square x y) bs 0 a m).1 in
      denominator_positive a.blend (proper_facts 128 128 a.blend in_table) x y)

  -- so those over the square make the reading,
  pub sum_over : (w h : ℕ) → w ≤ 128 → h ≤ 128 → (bs : List Blend) (vs : List ℕ) → all (proper w h) bs ≡ true → length bs ≡ length vs →
      ((k : ℕ) → k < length vs → get_or vs k 0 ≡ get_or values k 0) →
      rounded (value (paired bs vs) u v 1) ≡ rounded (total (portions x y u v values (entries_over (over_square x y) bs 0)))
  sum_over w h hw hh bs vs ok long same =
      rounded_same _ _ (value_positive w h bs vs (all_at (proper w h) bs ok) u v 1 (omega arith)) (portions_positive w h hw hh bs ok)
      (value_over bs vs 0 (proper_most w h bs hw hh ok) long (λ k lt. same k lt ∙ ap (λ (j : ℕ). get_or values j 0) (omega arith)))

-- At a point of the domain so do those of the four that are found in the table.
pub four_read : (w h : ℕ) (t : Table) (values : List ℕ) (u v : ℕ) → AtPoint w h t u v → length t.blends ≡ 1024 → length values ≡ 1024 →
    (x y : ℕ) → x ≡ corner w u + 1 → y ≡ corner h v + 1 → (four : List Entry) → four ≡ entries_over (over_square x y) (blends_of t) 0 →
    rounded (total (portions x y (u + 1) (v + 1) values four)) ≡ reading_at (blends_of t) (take t.count values) u v
unfolding reading_at sum_at
four_read w h t values u v p long full x y is_x is_y four found =
    let m = length-take-le t.count t.blends (omega (arith, p.0, long)) in
    let n = length-take-le t.count values (omega (arith, p.0, full)) in
    let e : End x (u + 1) = rw is_x (corner_end w u (corner w u) p.3 p.7 refl) in
    let f : End y (v + 1) = rw is_y (corner_end h v (corner h v) p.5 p.8 refl) in
    sym (sum_over x y (u + 1) (v + 1) e f values w h p.4 p.6 (blends_of t) (take t.count values) p.1 (omega arith)
    (λ k lt. get_or-take t.count values k 0 (omega arith)) ∙
    ap (λ (es : List Entry). rounded (total (portions x y (u + 1) (v + 1) values es))) (sym found))
