-- Blends kept once and in table order: membership, no repeats.
use Prim.Native.Nat.{ℕ, ◌+◌, ◌≤◌, ◌<◌}
use native.Mathlib.Omega.{arith}
use mathlib.Core.Path.{◌≡◌, refl, sym, subst, ◌∙◌}
use mathlib.Core.Logic.{⊎_elim}
use mathlib.Core.Bool.{true}
use mathlib.Core.List.Memᴰ
use mathlib.Core.List.{List, [], ◌∷◌, Memᴰ}
use borrow.Author.Tests.{eqb-true, eq-eqb}
use lib.Dec.{eqb}
use Rattle.axis.specs.Range.{each, any, only, Distinct}
use Rattle.mesh.specs.Blends.{same, once, anchored, in_table_order}
use Rattle.mesh.specs.declared.Blend.{Blend}
use Rattle.axis.proofs.Tests.{either, true_not_false, and_both, and_of, any_at, any_of, only_mem, mem_only, each_mem, mem_each}
use Rattle.mesh.proofs.Cuts.{same_blend, blend_same}
use Rattle.axis.proofs.Distinct.{only_distinct, each_distinct}

-- `once` keeps the members, each of them once
pub once_mem : (bs : List Blend) (C : Blend) → Memᴰ C (once bs) → Memᴰ C bs
unfolding once
once_mem [] C h = h
once_mem (B ∷ bs) C h =
    ⊎_elim (λ t. Memᴰ.tail (once_mem bs C (rw t at h)))
    (λ t. ⊎_elim (λ q. Memᴰ.head q) (λ m. Memᴰ.tail (once_mem bs C m)) (Memᴰ.cases_cons (rw t at h)))
    (either (any (same B) bs))

pub mem_once : (bs : List Blend) (C : Blend) → Memᴰ C bs → Memᴰ C (once bs)
unfolding once
mem_once [] C h = h
mem_once (B ∷ bs) C h =
    ⊎_elim
    (λ t.
    rw t
    (⊎_elim
    (λ q. let r = any_at (same B) bs t in subst (λ (X : Blend). Memᴰ X (once bs)) (sym (q ∙ same_blend B r.0 r.2)) (mem_once bs r.0 r.1))
    (λ m. mem_once bs C m) (Memᴰ.cases_cons h)))
    (λ t. rw t (⊎_elim (λ q. Memᴰ.head q) (λ m. Memᴰ.tail (mem_once bs C m)) (Memᴰ.cases_cons h)))
    (either (any (same B) bs))

pub once_distinct : (bs : List Blend) → Distinct (once bs)
unfolding once
once_distinct [] = tt
once_distinct (B ∷ bs) =
    ⊎_elim (λ t. rw t (once_distinct bs))
    (λ t. rw t (λ m. true_not_false _ (any_of (same B) bs B (once_mem bs B m) (blend_same B B refl)) t, once_distinct bs))
    (either (any (same B) bs))

-- an anchor in the domain, in knots
pub record Anchored (w h : ℕ) (B : Blend) : Type 0 where
  pub left : 1 ≤ B.across.m
  pub right : B.across.m ≤ w + 1
  pub bottom : 1 ≤ B.up.m
  pub top : B.up.m ≤ h + 1

pub anchored_at : (m n : ℕ) (B : Blend) → anchored m n B ≡ true → (B.across.m ≡ m) × (B.up.m ≡ n)
anchored_at m n B e = let b = and_both (eqb B.across.m m) (eqb B.up.m n) e in (eqb-true _ _ b.0, eqb-true _ _ b.1)

pub order_mem : (w h : ℕ) (bs : List Blend) (C : Blend) → Memᴰ C (in_table_order w h bs) → Memᴰ C bs × Anchored w h C
unfolding in_table_order
order_mem w h bs C e =
    let a = each_mem 1 (w + 1) _ C e in
    let b = each_mem 1 (h + 1) _ C a.3 in
    let o = only_mem (anchored a.0 b.0) bs C b.3 in
    let at = anchored_at a.0 b.0 C o.1 in
    let p : C.across.m ≡ a.0 = at.0 in
    let q : C.up.m ≡ b.0 = at.1 in
    let l : 1 ≤ a.0 = a.1 in
    let r : a.0 < 1 + (w + 1) = a.2 in
    let u : 1 ≤ b.0 = b.1 in
    let v : b.0 < 1 + (h + 1) = b.2 in
    (o.0, record { left = omega arith; right = omega arith; bottom = omega arith; top = omega arith })

pub mem_order : (w h : ℕ) (bs : List Blend) (C : Blend) → Memᴰ C bs → Anchored w h C → Memᴰ C (in_table_order w h bs)
unfolding in_table_order
mem_order w h bs C m a =
    mem_each 1 (w + 1) _ C C.across.m a.left (omega arith)
    (mem_each 1 (h + 1) _ C C.up.m a.bottom (omega arith)
    (mem_only (anchored C.across.m C.up.m) bs C m (and_of _ _ (eq-eqb C.across.m C.across.m refl) (eq-eqb C.up.m C.up.m refl))))

pub order_distinct : (w h : ℕ) (bs : List Blend) → Distinct bs → Distinct (in_table_order w h bs)
unfolding in_table_order
order_distinct w h bs d =
    each_distinct (λ (B : Blend). B.across.m) 1 (w + 1) (λ m. each 1 (h + 1) (λ n. only (anchored m n) bs))
    (λ m.
    each_distinct (λ (B : Blend). B.up.m) 1 (h + 1) (λ n. only (anchored m n) bs) (λ n. only_distinct (anchored m n) bs d)
    (λ n C e. (anchored_at m n C (only_mem (anchored m n) bs C e).1).1))
    (λ m C e. let b = each_mem 1 (h + 1) _ C e in (anchored_at m b.0 C (only_mem (anchored m b.0) bs C b.3).1).0)
