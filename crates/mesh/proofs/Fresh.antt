-- The first four blends, and a fresh map: no line cuts them, and it is sound.
use Prim.Native.Nat.{ℕ, ◌+◌, ◌≤◌, ◌<◌}
use native.Mathlib.Omega.{arith}
use mathlib.Core.Path.{◌≡◌, refl, sym, ap, subst}
use mathlib.Core.Logic.{inl, inr, ⊎_elim}
use mathlib.Core.Bool.{true, false, ◌||◌, not, or-true}
use mathlib.Core.List.Memᴰ
use mathlib.Core.List.{List, [], ◌∷◌, Memᴰ}
use lib.Dec.{ltb, eqb}
use lib.ListN.{length}
use borrow.Author.Tests.{eqb-true, eq-eqb, lt-ltb}
use Rattle.axis.specs.Triple.{low, high}
use Rattle.mesh.specs.Lines.{mesh, fresh_mesh, side, other}
use Rattle.mesh.specs.declared.Direction.{Direction}
use Rattle.mesh.specs.declared.Direction.TheVariants.{Upright as upright, Level as level}
use Rattle.mesh.specs.Blends.{blend, same, once, leaves_of, refine, live, first_four, crossed, along, place, Rising}
use Rattle.mesh.specs.Order.{Uncut}
use Rattle.mesh.specs.Sound.{over_square, four_everywhere, none_nested, nested, sound, AllProperIn}
use Rattle.axis.specs.declared.Triple.{Triple}
use Rattle.mesh.specs.declared.Split.{Split}
use Rattle.mesh.specs.declared.Blend.{Blend}
use Rattle.axis.proofs.Tests.{true_not_false, and_both, and_of, or_either, or_left, false_of, every_of, all_of, only_all}
use Rattle.axis.proofs.Triples.{between_fact, First, is_low, is_high, AtFresh, first_rises, first_spans, first_uncut, first_apart}
use Rattle.mesh.proofs.Cuts.{cut_fact, proper_of, proper_rises, blend_same, nested_facts}
use Rattle.mesh.proofs.Order.{left_uncut, left_itself}
use Rattle.mesh.proofs.TableOrder.{once_mem, once_distinct}
use Rattle.axis.proofs.Distinct.{Ascending, ascending_unique}
use Rattle.mesh.specs.Blends.{OwnAnchors}
use Rattle.mesh.proofs.Ascending.{order_ascending}
use Rattle.mesh.proofs.Live.{refine_left, left_refine, refine_leaves}

-- both triples of a first blend are first triples
pub record FirstBlend (w h : ℕ) (B : Blend) : Type 0 where
  pub across : First w B.across
  pub up : First h B.up

pub first_four_lem : (w h : ℕ) (B : Blend) → Memᴰ B (first_four w h) → FirstBlend w h B
first_four_lem w h B m =
    at_head (record { across = is_low; up = is_low })
    (at_head (record { across = is_low; up = is_high })
    (at_head (record { across = is_high; up = is_low }) (at_head (record { across = is_high; up = is_high }) (λ n. absurd (Memᴰ.not-nil n)))))
    m
  where
    at_head : {C : Blend} {bs : List Blend} → FirstBlend w h C → (Memᴰ B bs → FirstBlend w h B) → Memᴰ B (C ∷ bs) → FirstBlend w h B
    at_head f rest k = ⊎_elim (λ q. subst (FirstBlend w h) (sym q) f) rest (Memᴰ.cases_cons k)

pub first_proper : (w h : ℕ) → 1 ≤ w → 1 ≤ h → AllProperIn w h (first_four w h)
first_proper w h hw hh B m =
    let f = first_four_lem w h B m in
    proper_of w h B (record { across = first_rises w hw B.across f.across; up = first_rises h hh B.up f.up })

pub first_four_rises : (w h : ℕ) → 1 ≤ w → 1 ≤ h → Rising (first_four w h)
first_four_rises w h hw hh B m = proper_rises w h B (first_proper w h hw hh B m)

-- a fresh map's lines stand at four positions
pub fresh_positions : (w h : ℕ) (d : Direction) (z k : ℕ) → mesh w h [] d z k ≡ true → AtFresh (side d w h) z
unfolding mesh fresh_mesh
fresh_positions w h d z k e =
    let f = ⊎_elim (λ q. q) (λ q. absurd (true_not_false false q refl)) (or_either (fresh_mesh w h d z k) false e) in
    let p = (and_both (eqb z 0 || eqb z 1 || eqb z (side d w h + 1) || eqb z (side d w h + 2)) (ltb k (side (other d) w h + 2)) f).0 in
    ⊎_elim
    (λ a.
    ⊎_elim (λ b. ⊎_elim (λ c. inl (eqb-true _ _ c)) (λ c. inr (inl (eqb-true _ _ c))) (or_either (eqb z 0) (eqb z 1) b))
    (λ b. inr (inr (inl (eqb-true _ _ b)))) (or_either (eqb z 0 || eqb z 1) (eqb z (side d w h + 1)) a))
    (λ a. inr (inr (inr (eqb-true _ _ a)))) (or_either (eqb z 0 || eqb z 1 || eqb z (side d w h + 1)) (eqb z (side d w h + 2)) p)

-- which are lines of every map of its sides, from end to end
pub fresh_line : (w h : ℕ) (splits : List Split) (d : Direction) (z k : ℕ) → AtFresh (side d w h) z → k < side (other d) w h + 2 →
    mesh w h splits d z k ≡ true
unfolding mesh fresh_mesh
fresh_line w h splits d z k at lt = or_left (fresh_mesh w h d z k) _ (and_of _ _ (position (side d w h) at) (lt-ltb k (side (other d) w h + 2) lt))
  where
    position : (s : ℕ) → AtFresh s z → (eqb z 0 || eqb z 1 || eqb z (s + 1) || eqb z (s + 2)) ≡ true
    position s (inl e) = rw (eq-eqb z 0 e)
    position s (inr (inl e)) = simp (eq-eqb z 1 e, or-true)
    position s (inr (inr (inl e))) = simp (eq-eqb z (s + 1) e, or-true)
    position s (inr (inr (inr e))) = simp (eq-eqb z (s + 2) e, or-true)

pub first_crossed : (w h : ℕ) (d : Direction) (B : Blend) → FirstBlend w h B → First (side d w h) (crossed d B)
first_crossed w h upright B f = f.across
first_crossed w h level B f = f.up

module _ (w h : ℕ) (hw : 1 ≤ w) (hh : 1 ≤ h) where
  pub fresh_uncut : (B : Blend) → Memᴰ B (first_four w h) → Uncut (mesh w h []) B
  fresh_uncut B m d z =
      false_of _
      (λ e.
      let c = cut_fact (mesh w h []) d z B e in
      let f = first_four_lem w h B m in
      let r = first_rises (side (other d) w h) (side_positive (other d)) (along d B) (first_crossed w h (other d) B f) in
      let on = c.covered (along d B).l (omega arith) (omega arith) in
      first_uncut (side d w h) z (crossed d B) (first_crossed w h d B f) (fresh_positions w h d z (along d B).l on) c.inside)
    where
      side_positive : (d : Direction) → 1 ≤ side d w h
      side_positive upright = hw
      side_positive level = hh

  fresh_members : (C : Blend) → (Memᴰ C (live w h (mesh w h [])) → Memᴰ C (first_four w h)) × (Memᴰ C (first_four w h) → Memᴰ C (live w h (mesh w h [])))
  unfolding live
  fresh_members C = (
    λ m. let l = refine_left w h (mesh w h []) (first_four w h) (first_proper w h hw hh) C m in
        subst (λ (X : Blend). Memᴰ X (first_four w h)) (sym (left_uncut (fresh_uncut l.0 l.1) l.2)) l.1,
    λ m. left_refine w h (mesh w h []) (first_four w h) (first_proper w h hw hh) C (C, m, left_itself (fresh_uncut C m)),
  )

  own : OwnAnchors (first_four w h)
  own B C mB mC q r =
      let f = first_four_lem w h B mB in
      let g = first_four_lem w h C mC in
      let ca = first_rises w hw C.across g.across in
      let cu = first_rises h hh C.up g.up in
      let a = first_apart w B.across C.across f.across g.across (omega arith) (omega arith) in
      let u = first_apart h B.up C.up f.up g.up (omega arith) (omega arith) in
      λ i. record { across = a i; up = u i }

  first_ascending : h ≤ 128 → Ascending place (first_four w h)
  first_ascending le = (
    λ y m. ⊎_elim (λ q. at_least y (low w) (high h) q (omega arith)) (λ n. ⊎_elim (λ q. at_least y (high w) (low h) q (omega arith)) (λ o. lone y o (omega arith)) (Memᴰ.cases_cons n)) (Memᴰ.cases_cons m),
    (
      λ y m. ⊎_elim (λ q. at_least y (high w) (low h) q (omega arith)) (λ o. lone y o (omega arith)) (Memᴰ.cases_cons m),
      (
        λ y m. lone y m (omega arith),
        (λ y m. absurd (Memᴰ.not-nil m), tt),
      ),
    ),
  )
    where
      at_least : {k : ℕ} (y : Blend) (s t : Triple) → y ≡ blend s t → k < place (blend s t) → k < place y
      at_least {k} y s t q lt = subst (λ (X : Blend). k < place X) (sym q) lt

      lone : {k : ℕ} (y : Blend) → Memᴰ y (blend (high w) (high h) ∷ []) → k < place (blend (high w) (high h)) → k < place y
      lone y m lt = ⊎_elim (λ q. at_least y (high w) (high h) q lt) (λ n. absurd (Memᴰ.not-nil n)) (Memᴰ.cases_cons m)

  -- its live blends are the first four,
  pub fresh_live : h ≤ 128 → live w h (mesh w h []) ≡ first_four w h
  unfolding live refine
  fresh_live le =
      ascending_unique place (live w h (mesh w h [])) (first_four w h)
      (order_ascending w h le (once (leaves_of (mesh w h []) (first_four w h))) (once_distinct _)
      (λ B C mB mC. own B C (first B mB) (first C mC)))
      (first_ascending le) (λ C. (fresh_members C).0) (λ C. (fresh_members C).1)
    where
      first : (B : Blend) → Memᴰ B (once (leaves_of (mesh w h []) (first_four w h))) → Memᴰ B (first_four w h)
      first B m =
          (fresh_members B).0
          ((refine_leaves w h (mesh w h []) (first_four w h) (first_proper w h hw hh) B).1 (once_mem (leaves_of (mesh w h []) (first_four w h)) B m))

  -- and it is sound
  pub fresh_sound : sound w h (first_four w h) ≡ true
  unfolding sound four_everywhere none_nested
  fresh_sound =
      and_of _ _
      (every_of 1 w _ (λ x lx hx. every_of 1 h _ (λ y ly hy. ap (λ (bs : List Blend). eqb (length bs) 4) (only_all (over_square x y) (first_four w h) (λ B m. over B m x y lx hx ly hy)))))
      (all_of _ (first_four w h) (λ B mB. all_of _ (first_four w h) (λ C mC. ap not (false_of (nested B C) (λ e. nest B C mB mC e)))))
    where
      over : (B : Blend) → Memᴰ B (first_four w h) → (x y : ℕ) → 1 ≤ x → x < 1 + w → 1 ≤ y → y < 1 + h → over_square x y B ≡ true
      over B m x y lx hx ly hy =
          let f = first_four_lem w h B m in
          and_of _ _ (first_spans w B.across x f.across lx hx) (first_spans h B.up y f.up ly hy)

      nest : (B C : Blend) → Memᴰ B (first_four w h) → Memᴰ C (first_four w h) → nested B C ≡ true → ⊥
      nest B C mB mC e =
          let f = first_four_lem w h B mB in
          let g = first_four_lem w h C mC in
          let n = nested_facts B C e in
          let a = between_fact B.across.m C.across n.1 in
          let u = between_fact B.up.m C.up n.2 in
          let p = first_apart w B.across C.across f.across g.across a.0 a.1 in
          let q = first_apart h B.up C.up f.up g.up u.0 u.1 in
          true_not_false (same B C) (blend_same B C (λ i. record { across = p i; up = q i })) n.0
