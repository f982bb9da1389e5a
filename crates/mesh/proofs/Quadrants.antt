-- A blend's anchor parts its support into four quadrants. Every unit square of the domain lies in each quadrant of some live blend, so at
-- least four lie over it; and where exactly four lie over every square, no anchor lies strictly inside another blend's support.
use Prim.Native.Nat.{ℕ, ◌+◌, ◌≤◌}
use native.Mathlib.Omega.{arith}
use mathlib.Core.Path.{◌≡◌, refl, ap, ◌∙◌}
use mathlib.Core.Logic.{◌⊎◌, inl, inr, ⊎_elim}
use mathlib.Core.Bool.{Bool, true, ◌&&◌, not}
use mathlib.Core.List.{List, [], ◌∷◌, Memᴰ}
use lib.ListN.{length}
use borrow.Author.Tests.{eqb-true}
use Rattle.axis.specs.Range.{only}
use Rattle.axis.specs.Triple.{spans, RisesIn, OnSide}
use Rattle.axis.specs.declared.Side.{Side}
use Rattle.axis.specs.declared.Side.TheVariants.{Lower as lower, Upper as upper}
use Rattle.mesh.specs.Lines.{other, side, Mesh, mesh}
use Rattle.mesh.specs.declared.Direction.{Direction}
use Rattle.mesh.specs.declared.Direction.TheVariants.{Upright as upright, Level as level}
use Rattle.mesh.specs.Blends.{blend, same, cuts, halve, live, first_four, crossed, RiseB, Rising}
use Rattle.mesh.specs.Order.{Left}
use Rattle.mesh.specs.Sound.{over_square, four_everywhere, none_nested, sound, nested, ProperIn}
use Rattle.mesh.specs.declared.Split.{Split}
use Rattle.mesh.specs.declared.Blend.{Blend}
use Rattle.axis.proofs.Tests.{and_both, and_of, false_of, true_not_false, every_at, all_of}
use Rattle.axis.proofs.Triples.{Inside, between_fact}
use Rattle.mesh.proofs.Cuts.{cut_test, proper_facts, proper_rises, blend_same, nested_facts}
use Rattle.mesh.proofs.Order.{by_cutting, left_itself, left_front}
use Rattle.mesh.proofs.Fresh.{first_four_rises, fresh_line}
use Rattle.mesh.proofs.SoundMaps.{live_left, live_proper}
use Rattle.axis.proofs.Parts.{first, spans_lies, beside, first_lies, half_lies, lies}
use Rattle.axis.proofs.Counts.{ones, both_ones, some_pass, one_passes, only_first}

-- the unit square whose low corner is at knots (x, y) lies in a quadrant of the blend
abbrev pub quadrant : Side → Side → ℕ → ℕ → Blend → Bool
quadrant p q x y B = lies p x B.across && lies q y B.up

abbrev pub in_quadrant : Side → Side → ℕ → ℕ → List Blend → ℕ
in_quadrant p q x y bs = length (only (quadrant p q x y) bs)

-- a square of the support lies in one quadrant
over_quadrants : (x y : ℕ) (B : Blend) → RiseB B →
    ones (over_square x y B) ≡
    ones (quadrant lower lower x y B) + ones (quadrant lower upper x y B) + ones (quadrant upper lower x y B) + ones (quadrant upper upper x y B)
over_quadrants x y B h =
    both_ones (spans x B.across) (spans y B.up) ∙
    rw (
      spans_lies x B.across h.across,
      spans_lies y B.up h.up,
      both_ones (lies lower x B.across) (lies lower y B.up),
      both_ones (lies lower x B.across) (lies upper y B.up),
      both_ones (lies upper x B.across) (lies lower y B.up),
      both_ones (lies upper x B.across) (lies upper y B.up),
    )
    (omega arith)

four_quadrants : (x y : ℕ) (bs : List Blend) → Rising bs →
    length (only (over_square x y) bs) ≡
    in_quadrant lower lower x y bs + in_quadrant lower upper x y bs + in_quadrant upper lower x y bs + in_quadrant upper upper x y bs
four_quadrants x y [] h = refl
four_quadrants x y (B ∷ bs) h =
    let rest = four_quadrants x y bs (λ C m. h C (Memᴰ.tail m)) in
    let one = over_quadrants x y B (h B (Memᴰ.head refl)) in
    let all = only_first (over_square x y) B bs in
    let ll = only_first (quadrant lower lower x y) B bs in
    let lu = only_first (quadrant lower upper x y) B bs in
    let ul = only_first (quadrant upper lower x y) B bs in
    let uu = only_first (quadrant upper upper x y) B bs in
    omega arith

-- Something is left of a blend with the square in the same quadrant.
halve_quadrant : (d : Direction) (p q : Side) (x y z : ℕ) (B : Blend) → quadrant p q x y B ≡ true →
    (s : Side) × (quadrant p q x y (halve d s z B) ≡ true)
unfolding halve
halve_quadrant upright p q x y z B e =
    let b = and_both (lies p x B.across) (lies q y B.up) e in
    let r = half_lies p x z B.across b.0 in
    (r.0, and_of _ _ r.1 b.1)
halve_quadrant level p q x y z B e =
    let b = and_both (lies p x B.across) (lies q y B.up) e in
    let r = half_lies q y z B.up b.1 in
    (r.0, and_of _ _ b.0 r.1)

pub left_quadrant : (M : Mesh) (p q : Side) (x y : ℕ) (B : Blend) → RiseB B → quadrant p q x y B ≡ true →
    (C : Blend) × Left M B C × (quadrant p q x y C ≡ true)
left_quadrant M p q x y =
    by_cutting M (λ X. quadrant p q x y X ≡ true → (C : Blend) × Left M X C × (quadrant p q x y C ≡ true)) (λ X r u e. (X, left_itself u, e))
    (λ X d z r c halves e. let s = halve_quadrant d p q x y z X e in
    let k = halves s.0 s.1 in (k.0, left_front d z s.0 c k.1, k.2))

pub first_in_four : (p q : Side) (w h : ℕ) → Memᴰ (blend (first p w) (first q h)) (first_four w h)
first_in_four upper upper w h = Memᴰ.head refl
first_in_four upper lower w h = Memᴰ.tail (Memᴰ.head refl)
first_in_four lower upper w h = Memᴰ.tail (Memᴰ.tail (Memᴰ.head refl))
first_in_four lower lower w h = Memᴰ.tail (Memᴰ.tail (Memᴰ.tail (Memᴰ.head refl)))

-- The live blends of any mesh, over a square of the domain.
module _ (w h : ℕ) (hw : 1 ≤ w) (hh : 1 ≤ h) (M : Mesh) (x y : ℕ) (onx : OnSide w x) (ony : OnSide h y) where
  in_each : (p q : Side) → 1 ≤ in_quadrant p q x y (live w h M)
  in_each p q =
      let B = blend (first p w) (first q h) in
      let m = first_in_four p q w h in
      let k = left_quadrant M p q x y B (first_four_rises w h hw hh B m) (and_of _ _ (first_lies p w x onx) (first_lies q h y ony)) in
      some_pass (quadrant p q x y) k.0 (live w h M) ((live_left w h hw hh M k.0).1 (B, m, k.1)) k.2

  four_parts : length (only (over_square x y) (live w h M)) ≡
      in_quadrant lower lower x y (live w h M) + in_quadrant lower upper x y (live w h M) +
      in_quadrant upper lower x y (live w h M) + in_quadrant upper upper x y (live w h M)
  four_parts = four_quadrants x y (live w h M) (λ B m. proper_rises w h B (live_proper w h hw hh M B m))

  shares : (1 ≤ in_quadrant lower lower x y (live w h M)) × (1 ≤ in_quadrant lower upper x y (live w h M)) ×
      (1 ≤ in_quadrant upper lower x y (live w h M)) × (1 ≤ in_quadrant upper upper x y (live w h M))
  shares = (in_each lower lower, in_each lower upper, in_each upper lower, in_each upper upper)

  pub four_of : ((p q : Side) → in_quadrant p q x y (live w h M) ≤ 1) → length (only (over_square x y) (live w h M)) ≡ 4
  four_of few = omega (arith, four_parts, shares, few lower lower, few lower upper, few upper lower, few upper upper)

  module _ (four : length (only (over_square x y) (live w h M)) ≡ 4) where
    one_in_each : (p q : Side) → in_quadrant p q x y (live w h M) ≡ 1
    one_in_each lower lower = omega (arith, four_parts, shares)
    one_in_each lower upper = omega (arith, four_parts, shares)
    one_in_each upper lower = omega (arith, four_parts, shares)
    one_in_each upper upper = omega (arith, four_parts, shares)

    pub one_quadrant : (p q : Side) (B C : Blend) → Memᴰ B (live w h M) → Memᴰ C (live w h M) →
        quadrant p q x y B ≡ true → quadrant p q x y C ≡ true → B ≡ C
    one_quadrant p q B C mB mC e f = one_passes (quadrant p q x y) B C (live w h M) mB mC e f (one_in_each p q)

pub crossed_in : {w h : ℕ} {B : Blend} (d : Direction) → ProperIn w h B → RisesIn (side d w h) (crossed d B)
crossed_in upright p = p.across
crossed_in level p = p.up

-- The live blends of a map with exactly four over every square.
module _ (w h : ℕ) (hw : 1 ≤ w) (hh : 1 ≤ h) (splits : List Split) where
  abbrev M : Mesh
  M = mesh w h splits

  pub facts : (B : Blend) → Memᴰ B (live w h M) → ProperIn w h B
  facts B m = proper_facts w h B (live_proper w h hw hh M B m)

  -- The fresh lines at 0 and at the far end of a side run across the whole map, so they cut every blend that they can.
  pub fresh_clear : (C : Blend) → Memᴰ C (live w h M) → (d : Direction) (z : ℕ) → (z ≡ 1) ⊎ (z ≡ side d w h + 1) → Inside z (crossed d C) → ⊥
  fresh_clear C m d z at i =
      let l = (live_left w h hw hh M C).0 m in
      let c = crossed_in (other d) (facts C m) in
      true_not_false (cuts M d z C)
      (cut_test M d z C (record { inside = i; covered = λ k lo hi. fresh_line w h splits d z k (inr (⊎_elim inl (λ e. inr (inl e)) at)) (omega arith) })) (l.2.uncut d z)

  four_unnested : four_everywhere w h (live w h M) ≡ true → none_nested (live w h M) ≡ true
  unfolding four_everywhere none_nested
  four_unnested four =
      all_of _ _ (λ B mB. all_of _ _ (λ C mC. ap not (false_of (nested B C) (refute B C mB mC))))
    where
      refute : (B C : Blend) → Memᴰ B (live w h M) → Memᴰ C (live w h M) → nested B C ≡ true → ⊥
      refute B C mB mC e =
          let n = nested_facts B C e in
          let i = between_fact B.across.m C.across n.1 in
          let j = between_fact B.up.m C.up n.2 in
          let b = facts B mB in
          let c = facts C mC in
          let a = beside w B.across C.across hw b.across c.across i.0 i.1 (fresh_clear C mC upright 1 (inl refl)) (fresh_clear C mC upright (w + 1) (inr refl)) in
          let u = beside h B.up C.up hh b.up c.up j.0 j.1 (fresh_clear C mC level 1 (inl refl)) (fresh_clear C mC level (h + 1) (inr refl)) in
          let over = eqb-true _ _ (every_at 1 h _ (every_at 1 w _ four a.1 a.2.0 a.2.1) u.1 u.2.0 u.2.1) in
          let is = one_quadrant w h hw hh M a.1 u.1 a.2 u.2 over a.0 u.0 B C mB mC (and_of _ _ a.3 u.3) (and_of _ _ a.4 u.4) in
          true_not_false (same B C) (blend_same B C is) n.0

  -- So it is sound.
  pub four_sound : four_everywhere w h (live w h M) ≡ true → sound w h (live w h M) ≡ true
  unfolding sound
  four_sound four = and_of _ _ four (four_unnested four)
