-- Blends over a unit square: their gaps and shares there, the weight that they make at the square's corners, and the four entries of a table.
use Prim.Native.Nat.{ℕ, zero, suc, ◌+◌, ◌*◌, ◌-◌, ◌<◌, ◌≤◌}
use native.Mathlib.Omega.{arith}
use native.Mathlib.Nat.{mul-pos, mul-le-mul, zero-mul, mul-zero}
use mathlib.Core.Path.{◌≡◌, refl, sym, ap, ◌∙◌}
use mathlib.Core.Logic.{⊎_elim}
use mathlib.Core.Bool.{Bool, true, false}
use borrow.Author.Tests.{eqb-true}
use lib.Dec.{eqb}
use lib.ListN.{length, get_or, take, drop, drop_of_length-le, length-map, length-append, length-drop, length-take}
use mathlib.Core.List.{List, [], ◌∷◌, ◌++◌, map, append-nil, Memᴰ}
use Rattle.axis.specs.Triple.{hat, spans}
use Rattle.axis.specs.Fraction.{SameNumber}
use Rattle.mesh.specs.Weight.{weight}
use Rattle.axis.specs.Range.{every, all, only}
use Rattle.mesh.specs.Sound.{over_square, proper, blends_of, sound, four_everywhere, none_nested, ProperIn}
use Rattle.mesh.specs.declared.Table.{Table}
use Rattle.mesh.specs.declared.Blend.{Blend}
use Rattle.axis.proofs.Tests.{either, and_both, and_fails, every_at, all_at}
use Rattle.mesh.proofs.BlendTables.{proper_most}
use Rattle.mesh.proofs.Cuts.{proper_of}
use Rattle.mesh.proofs.Weights.{weight_den}
use Rattle.axis.specs.Gap.{gap, share, corner, End}
use Rattle.axis.proofs.Sums.{times_equal}
use Rattle.axis.proofs.Triples.{rise_of}
use Rattle.maps.specs.declared.values.Entry.{Entry}
use Rattle.maps.specs.Inner.{AtPoint, entries_over, AllListed}
use Rattle.axis.proofs.Gaps.{corner_in, gap_most, gap_positive, hat_outside_step, hat_share, share_most}

-- the weight of a blend at a corner of a square, over the gaps in which the square lies: both numbers are small
module _ (B : Blend) (ok : ProperIn 128 128 B) (x y : ℕ) where
  pub denominator_positive : 0 < gap B.across x * gap B.up y
  denominator_positive = mul-pos (gap_positive B.across x (rise_of ok.across)) (gap_positive B.up y (rise_of ok.up))

  pub denominator_most : gap B.across x * gap B.up y ≤ 16641
  denominator_most = mul-le-mul (gap_most B.across x ok.across) (gap_most B.up y ok.up)

  module _ (u v : ℕ) (e : End x u) (f : End y v) where
    pub numerator_most : share B.across x u * share B.up y v ≤ 16641
    numerator_most = mul-le-mul (share_most B.across x u ok.across e) (share_most B.up y v ok.up f)

    pub weight_shares :
        SameNumber (weight B u v 1)
        (record { num = share B.across x u * share B.up y v; den = gap B.across x * gap B.up y })
    weight_shares =
        record {
          equal =
              times_equal (hat B.across u 1) (record { num = share B.across x u; den = gap B.across x })
              (hat B.up v 1) (record { num = share B.up y v; den = gap B.up y })
              (hat_share B.across x u e) (hat_share B.up y v f);
          defined = weight_den 128 128 B (proper_of 128 128 B ok) u v 1 (omega arith);
          also_defined = denominator_positive;
        }

    pub weight_outside : over_square x y B ≡ false → (weight B u v 1).num ≡ 0
    weight_outside o =
        ⊎_elim
        (λ s. rw (hat_outside_step B.across x u (rise_of ok.across) e s) (zero-mul _))
        (λ s. rw (hat_outside_step B.up y v (rise_of ok.up) f s) (mul-zero _))
        (and_fails (spans x B.across) (spans y B.up) o)

-- exactly four blends of a sound map lie over each square of the domain
pub four_over : (w h : ℕ) (bs : List Blend) → sound w h bs ≡ true → (x y : ℕ) → 1 ≤ x → x ≤ w → 1 ≤ y → y ≤ h →
    length (only (over_square x y) bs) ≡ 4
unfolding sound four_everywhere
four_over w h bs e x y x1 xw y1 yh =
    let four = (and_both (four_everywhere w h bs) (none_nested bs) e).0 in
    let row = every_at 1 w (λ a. every 1 h (λ b. eqb (length (only (over_square a b) bs)) 4)) four x x1 (omega arith) in
    eqb-true _ _ (every_at 1 h (λ b. eqb (length (only (over_square x b) bs)) 4) row y y1 (omega arith))

pub four_at : (w h : ℕ) (bs : List Blend) → sound w h bs ≡ true → (u v : ℕ) → 1 ≤ w → 1 ≤ h → u ≤ w → v ≤ h →
    length (only (over_square (corner w u + 1) (corner h v + 1)) bs) ≡ 4
four_at w h bs e u v w1 h1 uw vh =
    let i = corner_in w u (corner w u) w1 uw refl in
    let j = corner_in h v (corner h v) h1 vh refl in
    four_over w h bs e _ _ i.0 i.1 j.0 j.1

-- the entries that pass a test: their blends are those that do, and each has its place
module _ (test : Blend → Bool) where
  pub entries_only : (bs : List Blend) (i : ℕ) → map (λ (e : Entry). e.blend) (entries_over test bs i) ≡ only test bs
  entries_only [] i = refl
  entries_only (B ∷ bs) i =
      let rest = entries_only bs (i + 1) in ⊎_elim (λ t. rw t (ap (λ (l : List Blend). B ∷ l) rest)) (λ t. rw t rest) (either (test B))

  pub entries_length : (bs : List Blend) (i : ℕ) → length (entries_over test bs i) ≡ length (only test bs)
  entries_length bs i = sym (length-map (entries_over test bs i) (λ (e : Entry). e.blend)) ∙ ap length (entries_only bs i)

  pub entry_in : (bs : List Blend) (i : ℕ) (e : Entry) → Memᴰ e (entries_over test bs i) →
      (e.place < i + length bs) × Memᴰ e.blend bs
  entry_in [] i e m = absurd (mathlib.Core.List.Memᴰ.not-nil m)
  entry_in (B ∷ bs) i e m =
      let later : Memᴰ e (entries_over test bs (i + 1)) → (e.place < i + length (B ∷ bs)) × Memᴰ e.blend (B ∷ bs) =
      λ k. let r = entry_in bs (i + 1) e k in (omega (arith, r.0), mathlib.Core.List.Memᴰ.tail r.1) in
      ⊎_elim
      (λ t. ⊎_elim (λ q. rw q (omega arith, mathlib.Core.List.Memᴰ.head refl)) later (mathlib.Core.List.Memᴰ.cases_cons (rw t at m)))
      (λ t. later (rw t at m))
      (either (test B))

-- the entries before a place, and those from it on
module _ (test : Blend → Bool) where
  entries_apart : (bs : List Blend) (i k : ℕ) → entries_over test bs i ≡ entries_over test (take k bs) i ++ entries_over test (drop k bs) (i + k)
  entries_apart bs i zero = ap (entries_over test bs) (omega arith)
  entries_apart [] i (suc k) = refl
  entries_apart (B ∷ bs) i (suc k) =
      let e : i + 1 + k ≡ i + suc k = omega arith in
      let rest = rw e at (entries_apart bs (i + 1) k) in
      ⊎_elim (λ (t : test B ≡ true). rw t (ap (λ (es : List Entry). record { blend = B; place = i } ∷ es) rest)) (λ (t : test B ≡ false). rw t rest) (either (test B))

  entries_behind : (bs : List Blend) (k : ℕ) → entries_over test bs 0 ≡ entries_over test (take k bs) 0 ++ entries_over test (drop k bs) k
  entries_behind bs k = let z : 0 + k ≡ k = omega arith in rw z at (entries_apart bs 0 k)

-- The last n of four entries, with those that are left, are a whole list.
pub record Window (whole left : List Entry) (n : ℕ) (f : List Entry) : Type 0 where
  pub long : length f ≡ 4
  pub most : n ≤ 4
  pub joins : drop (4 - n) f ++ left ≡ whole

module _ {whole : List Entry} where
  pub window_left : {left : List Entry} {n : ℕ} {f : List Entry} → Window whole left n f → n + length left ≡ length whole
  window_left {left} {n} {f} w = omega (arith, w.most, w.long, simp (length-append, length-drop) at (ap length w.joins))

  pub window_none : {f : List Entry} → length f ≡ 4 → Window whole whole 0 f
  window_none {f} long = record { long = long; most = omega arith; joins = ap (λ (es : List Entry). es ++ whole) (drop_of_length-le f {i = 4} (omega arith)) }

  pub window_more : (d : Entry) {left f : List Entry} {n : ℕ} {e : Entry} → n < 4 → Window whole (e ∷ left) n f →
      Window whole left (n + 1) (get_or f 1 d ∷ get_or f 2 d ∷ get_or f 3 d ∷ e ∷ [])
  window_more d {left} {f} {n} {e} lt w = record { long = refl; most = omega arith; joins = shifted f n w.long lt ∙ w.joins }
    where
      shifted : (f : List Entry) (n : ℕ) → length f ≡ 4 → n < 4 →
          drop (4 - (n + 1)) (get_or f 1 d ∷ get_or f 2 d ∷ get_or f 3 d ∷ e ∷ []) ++ left ≡ drop (4 - n) f ++ e ∷ left
      shifted (a ∷ b ∷ c ∷ g ∷ []) zero long lt = refl
      shifted (a ∷ b ∷ c ∷ g ∷ []) (suc zero) long lt = refl
      shifted (a ∷ b ∷ c ∷ g ∷ []) (suc (suc zero)) long lt = refl
      shifted (a ∷ b ∷ c ∷ g ∷ []) (suc (suc (suc zero))) long lt = refl
      shifted (a ∷ b ∷ c ∷ g ∷ []) (suc (suc (suc (suc n)))) long lt = absurd (omega arith)
      shifted [] n long lt = absurd (omega arith)
      shifted (a ∷ []) n long lt = absurd (omega arith)
      shifted (a ∷ b ∷ []) n long lt = absurd (omega arith)
      shifted (a ∷ b ∷ c ∷ []) n long lt = absurd (omega arith)
      shifted (a ∷ b ∷ c ∷ g ∷ h ∷ f) n long lt = absurd (omega arith)

-- Four found from a place on are all, where there are four.
pub window_all : (test : Blend → Bool) (bs : List Blend) (k : ℕ) (left f : List Entry) → length (entries_over test bs 0) ≡ 4 →
    Window (entries_over test (drop k bs) k) left 4 f → f ≡ entries_over test bs 0
window_all test bs k left f four w = alone (entries_over test (take k bs) 0) left w.joins (entries_behind test bs k)
  where
    alone : (before left : List Entry) → f ++ left ≡ entries_over test (drop k bs) k →
        entries_over test bs 0 ≡ before ++ entries_over test (drop k bs) k → f ≡ entries_over test bs 0
    alone [] [] e d = sym (append-nil f) ∙ e ∙ sym d
    alone (x ∷ before) left e d = absurd (omega (arith, four, w.long, simp length-append at (ap length e), simp length-append at (ap length d)))
    alone [] (x ∷ left) e d = absurd (omega (arith, four, w.long, simp length-append at (ap length e), ap length d))

-- Entries that pass a test: where all of them pass another one too, by which no more entries pass, those that pass the other are the same.
module _ (test other : Blend → Bool) where
  fewer : (bs : List Blend) → all other (only test bs) ≡ true → length (only test bs) ≤ length (only other bs)
  fewer [] e = omega arith
  fewer (B ∷ bs) e =
      ⊎_elim
      (λ (t : test B ≡ true).
      let b = and_both (other B) _ (rw t at e) in
      rw (t, b.0) (omega (arith, fewer bs b.1)))
      (λ (t : test B ≡ false).
      let rest = fewer bs (rw t at e) in
      ⊎_elim (λ (o : other B ≡ true). rw (t, o) (omega arith)) (λ (o : other B ≡ false). rw (t, o) rest) (either (other B)))
      (either (test B))

  pub entries_stay : (bs : List Blend) (i : ℕ) → all other (only test bs) ≡ true → length (only other bs) ≤ length (only test bs) →
      entries_over test bs i ≡ entries_over other bs i
  entries_stay [] i e le = refl
  entries_stay (B ∷ bs) i e le =
      ⊎_elim
      (λ (t : test B ≡ true).
      let b = and_both (other B) _ (rw t at e) in
      let rest = entries_stay bs (i + 1) b.1 (omega (arith, rw (t, b.0) at le)) in
      rw (t, b.0) (ap (λ (es : List Entry). record { blend = B; place = i } ∷ es) rest))
      (λ (t : test B ≡ false).
      ⊎_elim (λ (o : other B ≡ true). absurd (omega (arith, rw (t, o) at le, fewer bs (rw t at e))))
      (λ (o : other B ≡ false). rw (t, o) (entries_stay bs (i + 1) (rw t at e) (rw (t, o) at le))) (either (other B)))
      (either (test B))

-- at a point of the domain each of the four that are found in the table stands in it
pub all_listed : (w h : ℕ) (t : Table) (u v : ℕ) → AtPoint w h t u v → (x y : ℕ) (f : List Entry) → f ≡ entries_over (over_square x y) (blends_of t) 0 →
    AllListed f
all_listed w h t u v p x y f e a m =
    let r = entry_in (over_square x y) (blends_of t) 0 a (rw e at m) in
    record {
      inside = omega (arith, r.0, p.0, length-take t.count t.blends);
      is_proper = all_at (proper 128 128) (blends_of t) (proper_most w h (blends_of t) p.4 p.6 p.1) a.blend r.1;
    }

-- what is made of each of four entries' blends, one by one
pub four_mapped {ℓ} : {A : Type ℓ} (g : Blend → A) (d : Entry) (f : List Entry) → length f ≡ 4 →
    g (get_or f 0 d).blend ∷ g (get_or f 1 d).blend ∷ g (get_or f 2 d).blend ∷ g (get_or f 3 d).blend ∷ [] ≡ map g (map (λ (e : Entry). e.blend) f)
four_mapped g d (a ∷ b ∷ c ∷ e ∷ []) long = refl
four_mapped g d [] long = absurd (omega arith)
four_mapped g d (a ∷ []) long = absurd (omega arith)
four_mapped g d (a ∷ b ∷ []) long = absurd (omega arith)
four_mapped g d (a ∷ b ∷ c ∷ []) long = absurd (omega arith)
four_mapped g d (a ∷ b ∷ c ∷ e ∷ h ∷ f) long = absurd (omega arith)
