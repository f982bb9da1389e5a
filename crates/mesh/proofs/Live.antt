-- What is left of proper blends, as a table: its members, and when two tables are equal.
use Prim.Native.Nat.{ℕ, ◌≤◌}
use mathlib.Core.Path.{◌≡◌}
use mathlib.Core.Bool.{true}
use mathlib.Core.List.{List, Memᴰ}
use Rattle.mesh.specs.Lines.{Mesh}
use Rattle.mesh.specs.Blends.{once, in_table_order, leaves_of, refine, place, Rising}
use Rattle.mesh.specs.Order.{Comes, Left, LeftOf, SameMembers}
use Rattle.mesh.specs.Sound.{proper, AllProperIn}
use Rattle.mesh.specs.declared.Blend.{Blend}
use Rattle.axis.specs.Range.{Distinct}
use Rattle.mesh.proofs.Cuts.{proper_rises}
use Rattle.mesh.proofs.Cuts.{proper_facts, proper_of, proper_within}
use Rattle.mesh.proofs.Order.{comes_rises, comes_within, leaves_of_left, left_leaves_of}
use Rattle.mesh.proofs.TableOrder.{once_mem, mem_once, once_distinct, order_mem, mem_order, order_distinct}
use Rattle.mesh.proofs.Places.{proper_anchored}
use Rattle.mesh.specs.Blends.{OwnAnchors}
use Rattle.mesh.proofs.Ascending.{order_ascending}
use Rattle.axis.proofs.Distinct.{ascending_unique}

-- what comes from a proper blend is proper, and so is what is left of it
pub comes_proper : (w h : ℕ) {M : Mesh} {B C : Blend} → proper w h B ≡ true → Comes M B C → proper w h C ≡ true
comes_proper w h {M} {B} {C} e c =
    let r = proper_rises w h B e in
    proper_of w h C (proper_within (proper_facts w h B e) (comes_rises r c) (comes_within r c))

pub left_proper : (w h : ℕ) (M : Mesh) (B C : Blend) → proper w h B ≡ true → Left M B C → proper w h C ≡ true
left_proper w h M B C e l = comes_proper w h e l.comes

module _ (w h : ℕ) (M : Mesh) (bs : List Blend) (ok : AllProperIn w h bs) where
  rising : Rising bs
  rising B m = proper_rises w h B (ok B m)

  pub leaves_proper : AllProperIn w h (leaves_of M bs)
  leaves_proper C m = let l = leaves_of_left M bs rising C m in left_proper w h M l.0 C (ok l.0 l.1) l.2

  pub refine_leaves : SameMembers (refine w h M bs) (leaves_of M bs)
  unfolding refine
  refine_leaves C = (
    λ m. once_mem (leaves_of M bs) C (order_mem w h (once (leaves_of M bs)) C m).0,
    λ m. mem_order w h (once (leaves_of M bs)) C (mem_once (leaves_of M bs) C m) (proper_anchored w h C (proper_facts w h C (leaves_proper C m))),
  )

  pub refine_left : (C : Blend) → Memᴰ C (refine w h M bs) → LeftOf M bs C
  refine_left C m = leaves_of_left M bs rising C ((refine_leaves C).0 m)

  pub left_refine : (C : Blend) → LeftOf M bs C → Memᴰ C (refine w h M bs)
  left_refine C l = (refine_leaves C).1 (left_leaves_of M bs rising C l)

  pub refine_proper : AllProperIn w h (refine w h M bs)
  refine_proper C m = leaves_proper C ((refine_leaves C).0 m)

  pub refine_distinct : Distinct (refine w h M bs)
  unfolding refine
  refine_distinct = order_distinct w h (once (leaves_of M bs)) (once_distinct (leaves_of M bs))

-- tables of the same blends are equal where no two of one have one anchor
module _ (w h : ℕ) (hh : h ≤ 128) (xs ys : List Blend) (dx : Distinct xs) (dy : Distinct ys)
    (ok : AllProperIn w h xs) (eq : SameMembers xs ys) where
  pub same_table : OwnAnchors (in_table_order w h xs) → in_table_order w h xs ≡ in_table_order w h ys
  same_table owned =
      ascending_unique place (in_table_order w h xs) (in_table_order w h ys) (order_ascending w h hh xs dx own)
      (order_ascending w h hh ys dy (λ B C mB mC. own B C ((eq B).1 mB) ((eq C).1 mC)))
      (λ C m. let o = order_mem w h xs C m in mem_order w h ys C ((eq C).0 o.0) o.1)
      (λ C m. let o = order_mem w h ys C m in mem_order w h xs C ((eq C).1 o.0) o.1)
    where
      there : (B : Blend) → Memᴰ B xs → Memᴰ B (in_table_order w h xs)
      there B m = mem_order w h xs B m (proper_anchored w h B (proper_facts w h B (ok B m)))

      own : OwnAnchors xs
      own B C mB mC = owned B C (there B mB) (there C mC)
