-- A reading is the sum of the values of the weights' four blends times their weights.
use Prim.Native.Nat.{ℕ, suc, ◌+◌, ◌*◌, ◌≤◌, ◌<◌}
use native.Mathlib.Omega.{arith}
use mathlib.Core.Path.{◌≡◌, refl, sym, ap, ap₂, subst, ◌∙◌}
use mathlib.Core.Logic.{⊎_elim}
use mathlib.Core.Bool.{Bool, true, false, ◌&&◌}
use mathlib.Core.List.Memᴰ
use mathlib.Core.List.{List, [], ◌∷◌, map, Memᴰ}
use native.Mathlib.Nat.{le_trans, mul-zero, mul-le-mul, mul-le-mul_right, eq_of_mul-eq-mul_left}
use borrow.Author.Tests.{le-leb, ltb-false}
use lib.Dec.{leb, ltb}
use lib.ListN.{length, get_or, length-map}
use Rattle.axis.specs.Fraction.{Fraction, total}
use Rattle.axis.specs.Gap.{corner, End}
use Rattle.axis.proofs.Tests.{either, and_of, all_at, all_of, only_mem}
use Rattle.axis.proofs.Scale.{total_positive}
use Rattle.axis.proofs.Sums.{total_only}
use Rattle.axis.specs.Range.{all, only, greatest, smallest}
use Rattle.axis.proofs.Extremes.{at_most_greatest, at_least_smallest}
use Rattle.axis.proofs.Gaps.{corner_end, corner_in, share_gap, gap_side}
use Rattle.axis.proofs.Members.{map_mem}
use Rattle.mesh.specs.declared.Blend.{Blend}
use Rattle.mesh.specs.Lines.{mesh_of}
use Rattle.mesh.specs.declared.Direction.TheVariants.{Upright as upright, Level as level}
use Rattle.mesh.specs.Sound.{none, proper, over_square, sound, ProperIn}
use Rattle.mesh.specs.Weight.{weight}
use Rattle.mesh.proofs.Cuts.{proper_facts}
use Rattle.mesh.proofs.BlendTables.{proper_most}
use Rattle.mesh.proofs.MapView.{one_way}
use Rattle.mesh.proofs.SoundMaps.{live_proper, weights_add_up}
use Rattle.maps.specs.declared.Map.{Map}
use Rattle.maps.specs.Outcomes.{Placed}
use Rattle.maps.specs.Outcomes.{Reading}
use Rattle.maps.specs.declared.Weight.{Weight}
use Rattle.maps.specs.declared.values.Entry.{Entry}
use Rattle.maps.specs.Plain.{Plain, blends}
use Rattle.maps.specs.Rounding.{rounded, Nearest}
use Rattle.maps.specs.Values.{sum_at, reading_at, weight_at}
use Rattle.maps.specs.Record.{record_of, Full, plain, good}
use Rattle.maps.specs.Calls.{shape, table_place, reading, weights, weight_over}
use Rattle.maps.specs.ByWeights.{fraction, products, weighing, values_at, ByWeights}
use Rattle.maps.specs.Inner.{entries_over, portions}
use Rattle.maps.specs.Holds.{Holds}
use Rattle.maps.proofs.OverSquare.{weight_shares, weight_outside, denominator_positive, entries_only, entries_length, entry_in, four_at}
use Rattle.maps.proofs.Rounding.{nearest_most, nearest_least, rounds_nearest}
use Rattle.maps.proofs.Adding.{portions_positive, sum_over}
use Rattle.maps.proofs.GoodRecords.{record_good, good_facts}
use Rattle.mesh.proofs.Accepted.{replays_sides, replays_sound}
use Rattle.maps.proofs.Answers.{place_listed, point_answers}

-- an entry's blend stands at its place
entry_blend : (test : Blend → Bool) (all bs : List Blend) (i : ℕ) → ((k : ℕ) → k < length bs → get_or all (i + k) none ≡ get_or bs k none) →
    (a : Entry) → Memᴰ a (entries_over test bs i) → get_or all a.place none ≡ a.blend
entry_blend test all [] i same a m = absurd (Memᴰ.not-nil m)
entry_blend test all (B ∷ bs) i same a m =
    let here : get_or all i none ≡ B = ap (λ (k : ℕ). get_or all k none) (omega arith) ∙ same 0 (omega arith) in
    let later = entry_blend test all bs (i + 1) (λ k lt. ap (λ (j : ℕ). get_or all j none) (omega arith) ∙ same (suc k) (omega arith)) a in
    ⊎_elim (λ t. ⊎_elim (λ q. rw q here) later (Memᴰ.cases_cons (rw t at m))) (λ t. later (rw t at m)) (either (test B))

-- entries whose blends and values the table call gives: the blends and the products of the weights answer are theirs
module _ (m : Map) (w h u v : ℕ) (values marks : List ℕ) where
  abbrev Told : Entry → Type 0
  Told a = table_place m a.place ≡ record { number = 0; blend = shape a.blend; value = get_or values a.place 0; mark = get_or marks a.place 0 }

  told_blends : (es : List Entry) → ((a : Entry) → Memᴰ a es → Told a) →
      map (λ i. (table_place m i).blend) (map (λ (a : Entry). a.place) es) ≡
      map (λ (e : Weight). e.blend) (map (weight_over w h u v) (map (λ (a : Entry). a.blend) es))
  told_blends [] told = refl
  told_blends (a ∷ es) told =
      ap₂ ◌∷◌ (ap (λ (p : Placed). p.blend) (told a (Memᴰ.head refl))) (told_blends es (λ b n. told b (Memᴰ.tail n)))

  told_products : (es : List Entry) → ((a : Entry) → Memᴰ a es → Told a) →
      products (map (λ i. (table_place m i).value) (map (λ (a : Entry). a.place) es)) (map (weight_over w h u v) (map (λ (a : Entry). a.blend) es)) ≡
      portions (corner w u + 1) (corner h v + 1) (u + 1) (v + 1) values es
  told_products [] told = refl
  told_products (a ∷ es) told =
      let f = weight_at (corner w u + 1) (corner h v + 1) (u + 1) (v + 1) a.blend in
      ap₂ ◌∷◌
      (ap (λ (p : Placed). record { num = f.num * p.value; den = f.den }) (told a (Memᴰ.head refl)))
      (told_products es (λ b n. told b (Memᴰ.tail n)))

-- Sums of values times weights have the denominator of the sum of the weights,
products_den : (vs : List ℕ) (es : List Weight) → length vs ≡ length es →
    (total (products vs es)).den ≡ (total (map fraction es)).den
products_den [] [] long = refl
products_den [] (e ∷ es) long = absurd (omega arith)
products_den (v ∷ vs) [] long = absurd (omega arith)
products_den (v ∷ vs) (e ∷ es) long = ap (λ (n : ℕ). e.denominator * n) (products_den vs es (omega arith))

-- and where each value whose blend weighs more than 0 is at most k, or each is at least k, so is
-- the sum to k times the sum of the weights: the order goes through sums and multiples, either way.
record Order (Less : ℕ → ℕ → Type 0) : Type 0 where
  same : (n : ℕ) → Less n n
  sums : {a b c d : ℕ} → Less a b → Less c d → Less (a + c) (b + d)
  multiples : {a b : ℕ} (c : ℕ) → Less a b → Less (a * c) (b * c)

at_most : Order (λ a b. a ≤ b)
at_most = record { same = λ n. omega arith; sums = λ p q. omega arith; multiples = λ c p. mul-le-mul_right c p }

at_least : Order (λ a b. b ≤ a)
at_least = record { same = λ n. omega arith; sums = λ p q. omega arith; multiples = λ c p. mul-le-mul_right c p }

module _ (k : ℕ) {Less : ℕ → ℕ → Type 0} (order : Order Less) where
  -- a value times its weight, by the test whether the blend weighs more than 0; and what is known
  -- of the rest
  heavy : (v : ℕ) (vs : List ℕ) (e : Weight) (es : List Weight) →
      ((x : ℕ) → Memᴰ x (weighing (v ∷ vs) (e ∷ es)) → Less x k) →
      Less (v * e.numerator) (k * e.numerator) × ((x : ℕ) → Memᴰ x (weighing vs es) → Less x k)
  heavy v vs e es fits =
      ⊎_elim
      (λ (t : ltb 0 e.numerator ≡ true).
      let f = rw t at fits in
      (order.multiples e.numerator (f v (Memᴰ.head refl)), λ x m. f x (Memᴰ.tail m)))
      (λ (t : ltb 0 e.numerator ≡ false).
      let le = ltb-false 0 e.numerator t in
      let none : e.numerator ≡ 0 = omega arith in
      (rw (none, mul-zero, mul-zero) (order.same 0), rw t at fits))
      (either (ltb 0 e.numerator))

  products_by : (vs : List ℕ) (es : List Weight) → length vs ≡ length es →
      ((x : ℕ) → Memᴰ x (weighing vs es) → Less x k) →
      Less (total (products vs es)).num (k * (total (map fraction es)).num)
  products_by [] [] long fits = rw mul-zero (order.same 0)
  products_by [] (e ∷ es) long fits = absurd (omega arith)
  products_by (v ∷ vs) [] long fits = absurd (omega arith)
  products_by (v ∷ vs) (e ∷ es) long fits =
      let h = heavy v vs e es fits in
      let D = (total (map fraction es)).den in
      let N = (total (map fraction es)).num in
      let left : v * e.numerator * D + (total (products vs es)).num * e.denominator ≡ (total
      (products (v ∷ vs) (e ∷ es))).num =
      rw (products_den vs es (omega arith)) (omega arith) in
      let right : k * e.numerator * D + k * N * e.denominator ≡ k * (total (map fraction (e ∷ es))).num =
      omega arith in
      subst (λ (n : ℕ). Less n (k * (total (map fraction (e ∷ es))).num)) left
      (subst (Less (v * e.numerator * D + (total (products vs es)).num * e.denominator)) right
      (order.sums (order.multiples D h.0)
      (order.multiples e.denominator (products_by vs es (omega arith) h.1))))

-- So where the weights add up to one, their sum, rounded, lies between the least and the greatest
-- of these values.
module _ (vs : List ℕ) (es : List Weight) (long : length vs ≡ length es)
    (one : (total (map fraction es)).num ≡ (total (map fraction es)).den)
    (some : 0 < (total (map fraction es)).den) where
  some_products : 0 < (total (products vs es)).den
  some_products = rw (products_den vs es long) some

  pub mean_most : rounded (total (products vs es)) ≤ greatest (weighing vs es)
  mean_most =
      let k = greatest (weighing vs es) in
      nearest_most (total (products vs es)).den some_products (total (products vs es)).num k
      (rw (products_den vs es long, ← one) (products_by k at_most vs es long (at_most_greatest (weighing vs es))))

  pub mean_least : smallest (weighing vs es) ≤ rounded (total (products vs es))
  mean_least =
      let k = smallest (weighing vs es) in
      nearest_least (total (products vs es)).den some_products (total (products vs es)).num k
      (rw (products_den vs es long, ← one) (products_by k at_least vs es long (at_least_smallest (weighing vs es))))

-- the record of a map that a good one holds, at a point of the domain
module _ {P : Plain} (holds : Holds P) (u v : ℕ) (uw : u ≤ P.lines.w) (vh : v ≤ P.lines.h) where
  abbrev w : ℕ
  w = P.lines.w

  abbrev h : ℕ
  h = P.lines.h

  abbrev test : Blend → Bool
  test = over_square (corner w u + 1) (corner h v + 1)

  abbrev found : List Entry
  found = entries_over test (blends P) 0

  told : (a : Entry) → Memᴰ a found → Told (record_of P) w h u v P.values P.marks a
  told a m =
      let r = entry_in test (blends P) 0 a m in
      place_listed P holds a.place (omega (arith, r.0)) ∙
      ap (λ (B : Blend). record { number = 0; blend = shape B; value = get_or P.values a.place 0; mark = get_or P.marks a.place 0 })
      (entry_blend test (blends P) (blends P) 0 (λ k lt. ap (λ (j : ℕ). get_or (blends P) j none) (omega arith)) a m)

  in_domain_lem : leb u w && leb v h ≡ true
  in_domain_lem = and_of _ _ (le-leb u w uw) (le-leb v h vh)

  weighed : (weights (record_of P) u v).number ≡ 0
  unfolding weights
  weighed = rw ((record_good holds).0, (record_good holds).1, in_domain_lem)

  the_weights : (weights (record_of P) u v).entries ≡ map (weight_over w h u v) (map (λ (a : Entry). a.blend) found)
  unfolding weights
  the_weights = rw ((record_good holds).0, (record_good holds).1, in_domain_lem, entries_only test (blends P) 0)

  abbrev sums : List Fraction
  sums = portions (corner w u + 1) (corner h v + 1) (u + 1) (v + 1) P.values found

  sides : (1 ≤ w) × (w ≤ 128) × (1 ≤ h) × (h ≤ 128)
  sides = replays_sides holds.taken

  all_proper : all (proper w h) (blends P) ≡ true
  all_proper = all_of (proper w h) (blends P) (live_proper w h sides.0 sides.2 (mesh_of P.lines))

  -- the point is a corner of its square
  across : End (corner w u + 1) (u + 1)
  across = corner_end w u (corner w u) sides.0 uw refl

  up : End (corner h v + 1) (v + 1)
  up = corner_end h v (corner h v) sides.2 vh refl

  summed : reading_at (blends P) P.values u v ≡ rounded (total sums)
  unfolding reading_at sum_at
  summed =
      sum_over (corner w u + 1) (corner h v + 1) (u + 1) (v + 1) across up P.values w h sides.1 sides.3 (blends P) P.values all_proper
      (sym holds.counted) (λ k lt. refl)

  positive : 0 < (total sums).den
  positive = portions_positive (corner w u + 1) (corner h v + 1) (u + 1) (v + 1) across up P.values w h sides.1 sides.3 (blends P) all_proper

  -- the products of the two calls' answers
  abbrev told_values : List ℕ
  told_values = values_at (record_of P) (map (λ (a : Entry). a.place) found)

  as_many : length told_values ≡ length (weights (record_of P) u v).entries
  as_many =
      length-map (map (λ (a : Entry). a.place) found) (λ i. (table_place (record_of P) i).value) ∙
      length-map found (λ (a : Entry). a.place) ∙
      sym (ap length the_weights ∙ length-map (map (λ (a : Entry). a.blend) found) (weight_over w h u v) ∙
      length-map found (λ (a : Entry). a.blend))

  abbrev told_sums : List Fraction
  told_sums = products told_values (weights (record_of P) u v).entries

  same_sums : sums ≡ told_sums
  same_sums =
      sym (ap (products told_values) the_weights ∙
      told_products (record_of P) w h u v P.values P.marks found told)

  answered : reading (record_of P) u v ≡ record { number = 0; litres = rounded (total told_sums) }
  answered =
      point_answers P holds u v uw vh ∙
      ap (λ (n : ℕ). record { number = 0; litres = n }) (summed ∙ ap (λ (fs : List Fraction). rounded (total fs)) same_sums)

  -- the weights of the four blends over the square add up to one, since all others weigh nothing at
  -- the point
  is_sound : sound w h (blends P) ≡ true
  is_sound = replays_sound holds.taken

  abbrev weight_here : Blend → Fraction
  weight_here B = weight_at (corner w u + 1) (corner h v + 1) (u + 1) (v + 1) B

  the_fractions : map fraction (weights (record_of P) u v).entries ≡ map weight_here (only test (blends P))
  the_fractions = ap (map fraction) the_weights ∙ as_fractions (map (λ (a : Entry). a.blend) found) ∙
      ap (map weight_here) (entries_only test (blends P) 0)
    where
      as_fractions : (bs : List Blend) → map fraction (map (weight_over w h u v) bs) ≡ map weight_here bs
      as_fractions [] = refl
      as_fractions (B ∷ bs) = ap (λ (l : List Fraction). weight_here B ∷ l) (as_fractions bs)

  in_knots : (B : Blend) → Memᴰ B (blends P) → ProperIn 128 128 B
  in_knots B m = proper_facts 128 128 B
      (all_at (proper 128 128) (blends P) (proper_most w h (blends P) sides.1 sides.3 all_proper) B m)

  weights_one : let sum = total (map fraction (weights (record_of P) u v).entries) in (sum.num ≡ sum.den) ×
      (0 < sum.den)
  unfolding weight_at
  weights_one =
      let x = corner w u + 1 in
      let y = corner h v + 1 in
      let whole = weights_add_up w h sides.0 sides.2 (mesh_of P.lines) is_sound u v 1 (omega arith)
      (omega arith) (omega arith) in
      let same =
      total_only test (λ (C : Blend). weight C (u + 1) (v + 1) 1) weight_here (blends P)
      (λ B m t. (weight_shares B (in_knots B m) x y (u + 1) (v + 1) across up).equal)
      (λ B m t. weight_outside B (in_knots B m) x y (u + 1) (v + 1) across up t) in
      let some = total_positive weight_here (only test (blends P))
      (λ B m. denominator_positive B (in_knots B (only_mem test (blends P) B m).0) x y) in
      subst (λ (fs : List Fraction). ((total fs).num ≡ (total fs).den) × (0 < (total fs).den)) (sym the_fractions) (
        eq_of_mul-eq-mul_left _ whole.1 _ _
            (omega (arith, same, ap (λ (n : ℕ). n * (total (map weight_here (only test (blends P)))).den) whole.0)),
        some,
      )

  -- a weight is at most one, and over the square of the point no gap is longer than its side
  weight_small : (B : Blend) → Memᴰ B (blends P) → ((weight_here B).num ≤ (weight_here B).den) ×
      ((weight_here B).den ≤ 16384)
  unfolding weight_at
  weight_small B m =
      let x = corner w u + 1 in
      let y = corner h v + 1 in
      let i = corner_in w u (corner w u) sides.0 uw refl in
      let j = corner_in h v (corner h v) sides.2 vh refl in
      let one = one_way w h sides.0 sides.2 P.lines.splits in
      let a = (one upright).rises B m in
      let b = (one level).rises B m in
      let wide = gap_side B.across x w i.0 i.1 (omega arith) (omega arith) (omega arith)
      ((one upright).near B m) ((one upright).far B m) in
      let tall = gap_side B.up y h j.0 j.1 (omega arith) (omega arith) (omega arith) ((one level).near B m)
      ((one level).far B m) in (
        mul-le-mul (share_gap B.across x (u + 1) across) (share_gap B.up y (v + 1) up),
        mul-le-mul
            (le_trans wide sides.1) (le_trans tall sides.3),
      )

  pub record_weights : ByWeights (record_of P) u v
  record_weights =
      record {
        accepted = weighed;
        places = map (λ (a : Entry). a.place) found;
        four = length-map found (λ (a : Entry). a.place) ∙ entries_length test (blends P) 0 ∙
            four_at w h (blends P) is_sound u v sides.0 sides.2 uw vh;
        add_up = weights_one;
        at_most_one = λ e m.
            let r = map_mem (weight_over w h u v) _ e (subst (Memᴰ e) the_weights m) in
            let b = map_mem (λ (a : Entry). a.blend) found r.0 r.1 in
            let in_table = (entry_in test (blends P) 0 b.0 b.1).1 in
            rw (r.2, b.2) (weight_small b.0.blend in_table);
        not_below = subst (λ (r : Reading). smallest
            (weighing told_values (weights (record_of P) u v).entries) ≤ r.litres) (sym answered)
            (mean_least told_values (weights (record_of P) u v).entries as_many weights_one.0 weights_one.1);
        not_above = subst (λ (r : Reading). r.litres ≤ greatest
            (weighing told_values (weights (record_of P) u v).entries)) (sym answered)
            (mean_most told_values (weights (record_of P) u v).entries as_many weights_one.0 weights_one.1);
        taken = λ i m.
            let r = map_mem (λ (a : Entry). a.place) found i m in
            rw r.2 (ap (λ (p : Placed). p.number) (told r.0 r.1));
        same_blends = told_blends (record_of P) w h u v P.values P.marks found told ∙ sym (ap (map (λ (e : Weight). e.blend)) the_weights);
        is_sum = answered;
        is_nearest = subst (Nearest (total told_sums)) (sym (ap (λ (r : Reading). r.litres) answered)) (rounds_nearest (total told_sums)
            (subst (λ (fs : List Fraction). 0 < (total fs).den) same_sums positive));
      }

-- of every good record
pub by_weights : (m : Map) → Full m → good m ≡ true → (u v : ℕ) → u ≤ m.lines.w → v ≤ m.lines.h → ByWeights m u v
unfolding plain
by_weights m full e u v uw vh =
    let g = good_facts m full e in
    subst (λ (r : Map). ByWeights r u v) g.is_record (record_weights g.holds u v uw vh)
