-- "A sound map so has at most 32 × 32 = 1,024 live blends": their anchors differ and lie on line positions.
use Prim.Native.Nat.{ℕ, ◌+◌, ◌-◌, ◌*◌, ◌≤◌, ◌<◌}
use native.Mathlib.Omega.{arith}
use native.Mathlib.Nat.{mul-le-mul_left, le_trans}
use mathlib.Core.Path.{◌≡◌, refl, sym, ap, subst, ◌∙◌}
use mathlib.Core.Logic.{inl, inr, ⊎_elim}
use mathlib.Core.Bool.{true, false, ◌&&◌}
use mathlib.Core.List.{List, [], ◌∷◌, map, Memᴰ}
use lib.Dec.{leb, ltb, eqb}
use lib.ListN.{length, length-append, length-map}
use borrow.Author.Tests.{eqb-true, ne_eqb, leb-true, leb-false}
use Rattle.axis.specs.Limits.{largest_side, most_splits, most_blends}
use Rattle.axis.specs.Range.{any, only, joined, Distinct}
use Rattle.mesh.specs.Lines.{mesh, fresh_mesh, draws, start, end, number, other, side, HasLine}
use Rattle.mesh.specs.declared.Direction.{Direction}
use Rattle.mesh.specs.declared.Direction.TheVariants.{Upright as upright, Level as level}
use Rattle.mesh.specs.Blends.{crossed, live, at, place}
use Rattle.mesh.specs.Sound.{sound}
use Rattle.mesh.specs.declared.Split.{Split}
use Rattle.axis.specs.declared.Triple.{Triple}
use Rattle.axis.specs.Triple.{Knots}
use Rattle.mesh.specs.declared.Blend.{Blend}
use Rattle.axis.proofs.Tests.{either, and_both, or_either, or_left, any_at, mem_only, mem_joined}
use Rattle.axis.proofs.Distinct.{distinct_length, map_distinct}
use Rattle.axis.proofs.Members.{map_mem, mem_map}
use Rattle.axis.proofs.Triples.{First, is_low, is_high, AtFresh}
use Rattle.mesh.proofs.Order.{comes_on_lines}
use Rattle.mesh.proofs.Cuts.{proper_facts}
use Rattle.mesh.proofs.Places.{at_inj}
use Rattle.mesh.specs.Blends.{OwnAnchors}
use Rattle.mesh.proofs.Fresh.{first_four_lem, first_four_rises, first_crossed, fresh_positions, fresh_line}
use Rattle.mesh.proofs.SoundMaps.{live_left, live_proper, live_distinct, own_anchors}

-- the places of all pairs of positions
places : List ℕ → List ℕ → List ℕ
places P Q = joined (λ m. map (at m) Q) P

places_length : (P Q : List ℕ) → length (places P Q) ≡ length P * length Q
unfolding places
places_length [] Q = omega arith
places_length (m ∷ P) Q =
    length-append (map (at m) Q) (places P Q) ∙
    (let e = length-map Q (at m) in let r = places_length P Q in omega (arith, e, r))

-- blends whose anchors differ and lie on the positions P across and Q up
few : (P Q : List ℕ) (bs : List Blend) → Distinct bs → OwnAnchors bs →
    ((B : Blend) → Memᴰ B bs → Memᴰ B.across.m P × Memᴰ B.up.m Q × (B.up.m < 131)) →
    length bs ≤ length P * length Q
unfolding places
few P Q bs d apart on =
    subst₂_le (length-map bs place) (places_length P Q)
    (distinct_length (map place bs) (places P Q)
    (map_distinct place bs d
    (λ B C mB mC e. let i = at_inj B.across.m B.up.m C.across.m C.up.m (on B mB).2 (on C mC).2 e in apart B C mB mC i.0 i.1))
    (λ y m.
    let r = map_mem place bs y m in
    let o = on r.0 r.1 in
    subst (λ (u : ℕ). Memᴰ u (places P Q)) (sym r.2) (mem_joined (λ i. map (at i) Q) P r.0.across.m (place r.0) o.0 (mem_map (at r.0.across.m) Q r.0.up.m o.1))))
  where
    subst₂_le : {a b c e : ℕ} → a ≡ b → c ≡ e → a ≤ c → b ≤ e
    subst₂_le p q h = omega arith

-- "at most 32 × 32"
most : (e y x : ℕ) → x + e ≡ 32 → y ≤ 32 + e → x * y ≤ 1024
most e y x p q = le_trans (mul-le-mul_left x q) (omega (arith, ap (λ (u : ℕ). u * e) p, ap (λ (u : ℕ). u * 32) p))

square_of_sum : (a b : ℕ) → a + b ≤ 60 → (2 + a) * (2 + b) ≤ 1024
square_of_sum a b s =
    ⊎_elim (λ t. let l = leb-true a 30 t in most (30 - a) (2 + b) (2 + a) (omega arith) (omega arith))
    (λ t.
    let l = leb-false a 30 t in
    let c : (2 + a) * (2 + b) ≡ (2 + b) * (2 + a) = omega arith in
    subst (λ (n : ℕ). n ≤ 1024) (sym c) (most (30 - b) (2 + a) (2 + b) (omega arith) (omega arith)))
    (either (leb a 30))

first_on_lines : (w h : ℕ) (splits : List Split) (d : Direction) (t : Triple) → First (side d w h) t →
    Knots (HasLine (mesh w h splits) d) t
first_on_lines w h splits d t is_low =
    let on : (z : ℕ) → AtFresh (side d w h) z → HasLine (mesh w h splits) d z =
    λ z e. (0, fresh_line w h splits d z 0 e (omega arith)) in
    record { l = on _ (inl refl); m = on _ (inr (inl refl)); r = on _ (inr (inr (inl refl))) }
first_on_lines w h splits d t is_high =
    let on : (z : ℕ) → AtFresh (side d w h) z → HasLine (mesh w h splits) d z =
    λ z e. (0, fresh_line w h splits d z 0 e (omega arith)) in
    record { l = on _ (inr (inl refl)); m = on _ (inr (inr (inl refl))); r = on _ (inr (inr (inr refl))) }

-- the splits of a direction, and the line positions within the domain
of_direction : Direction → List Split → List Split
of_direction d splits = only (λ s. eqb s.direction (number d)) splits

positions : ℕ → ℕ → Direction → List Split → List ℕ
positions w h d splits = 1 ∷ (side d w h + 1) ∷ map (λ s. s.position + 1) (of_direction d splits)

both : (splits : List Split) → length (of_direction upright splits) + length (of_direction level splits) ≤ length splits
unfolding of_direction
both [] = omega arith
both (s ∷ rest) =
    let ih = both rest in
    ⊎_elim
    (λ (e : eqb s.direction 0 ≡ true).
    let q : s.direction ≡ 0 = eqb-true _ _ e in
    let n : eqb s.direction 1 ≡ false = ne_eqb s.direction 1 (omega arith) in
    rw (e, n) (omega arith))
    (λ (e : eqb s.direction 0 ≡ false).
    ⊎_elim (λ (f : eqb s.direction 1 ≡ true). rw (e, f) (omega arith))
    (λ (f : eqb s.direction 1 ≡ false). rw (e, f) (omega arith)) (either (eqb s.direction 1)))
    (either (eqb s.direction 0))

on_position : (w h : ℕ) (splits : List Split) (d : Direction) (z : ℕ) → 1 ≤ z → z ≤ side d w h + 1 →
    HasLine (mesh w h splits) d z →
    Memᴰ z (positions w h d splits)
unfolding mesh draws positions of_direction
on_position w h splits d z lo hi on =
    ⊎_elim
    (λ f. ⊎_elim (λ (e : z ≡ 0). absurd (omega arith))
    (⊎_elim (λ e. Memᴰ.head e)
    (⊎_elim (λ e. Memᴰ.tail (Memᴰ.head e)) (λ (e : z ≡ side d w h + 2). absurd (omega arith))))
    (fresh_positions w h d z on.0 (or_left _ _ f)))
    (λ a.
    let r = any_at (draws w h d z on.0) splits a in
    let s : Split = r.0 in
    let p = and_both (eqb s.direction (number d) && eqb z (s.position + 1) && leb (start s) on.0) (ltb on.0 (end (side (other d) w h) s)) r.2 in
    let q = and_both (eqb s.direction (number d) && eqb z (s.position + 1)) (leb (start s) on.0) p.0 in
    let t = and_both (eqb s.direction (number d)) (eqb z (s.position + 1)) q.0 in
    Memᴰ.tail (Memᴰ.tail (subst (λ (i : ℕ). Memᴰ i (map (λ s. s.position + 1) (of_direction d splits))) (sym (eqb-true _ _ t.1))
    (mem_map (λ s. s.position + 1) (of_direction d splits) s (mem_only _ splits s r.1 t.0)))))
    (or_either (fresh_mesh w h d z on.0) (any (draws w h d z on.0) splits) on.1)

-- the knots of a live blend stand on lines
pub live_knots : (w h : ℕ) → 1 ≤ w → 1 ≤ h → (splits : List Split) (d : Direction) (B : Blend) → Memᴰ B (live w h (mesh w h splits)) →
    Knots (HasLine (mesh w h splits) d) (crossed d B)
live_knots w h hw hh splits d B m =
    let l = (live_left w h hw hh (mesh w h splits) B).0 m in
    comes_on_lines d (first_four_rises w h hw hh l.0 l.1)
    (first_on_lines w h splits d (crossed d l.0) (first_crossed w h d l.0 (first_four_lem w h l.0 l.1))) l.2.comes

pub at_most : (w h : ℕ) → 1 ≤ w → 1 ≤ h → h ≤ largest_side → (splits : List Split) → length splits ≤ most_splits →
    sound w h (live w h (mesh w h splits)) ≡ true → length (live w h (mesh w h splits)) ≤ most_blends
unfolding positions
at_most w h hw hh h128 splits sixty s =
    let L = live w h (mesh w h splits) in
    le_trans
    (few (positions w h upright splits) (positions w h level splits) L (live_distinct w h hw hh (mesh w h splits)) (own_anchors w h hw hh (mesh w h splits) s) on)
    (let a = length-map (of_direction upright splits) (λ (s : Split). s.position + 1) in
    let b = length-map (of_direction level splits) (λ (s : Split). s.position + 1) in
    let c = square_of_sum (length (of_direction upright splits)) (length (of_direction level splits)) (le_trans (both splits) sixty) in
    rw (a, b) (omega (arith, c)))
  where
    on : (B : Blend) → Memᴰ B (live w h (mesh w h splits)) →
        Memᴰ B.across.m (positions w h upright splits) × Memᴰ B.up.m (positions w h level splits) × (B.up.m < 131)
    on B m =
        let p = proper_facts w h B (live_proper w h hw hh (mesh w h splits) B m) in
        let pa = p.across in
        let pu = p.up in
        let a = live_knots w h hw hh splits upright B m in
        let u = live_knots w h hw hh splits level B m in (
          on_position w h splits upright B.across.m (omega arith) (omega arith) a.m,
          on_position w h splits level B.up.m (omega arith) (omega arith) u.m,
          omega arith,
        )
