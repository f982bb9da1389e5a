-- Lists in table order: the places of their anchors rise strictly, so equal members make equal lists.
use Prim.Native.Nat.{ℕ, ◌+◌, ◌*◌, ◌≤◌, ◌<◌}
use native.Mathlib.Omega.{arith}
use mathlib.Core.Path.{◌≡◌, sym, ap, ◌∙◌}
use mathlib.Core.List.{List, Memᴰ}
use Rattle.axis.specs.Range.{each, only, Distinct}
use Rattle.mesh.specs.Blends.{anchored, OwnAnchors, in_table_order, place}
use Rattle.mesh.specs.declared.Blend.{Blend}
use Rattle.axis.proofs.Tests.{each_mem, only_mem}
use Rattle.mesh.proofs.TableOrder.{anchored_at}
use Rattle.axis.proofs.Distinct.{only_distinct, Ascending, each_ordered, lone}

pub order_ascending : (w h : ℕ) → h ≤ 128 → (bs : List Blend) → Distinct bs → OwnAnchors bs → Ascending place (in_table_order w h bs)
unfolding in_table_order
order_ascending w h hh bs d own =
    each_ordered (λ x y. place x < place y) 1 (w + 1) (λ m. each 1 (h + 1) (λ n. only (anchored m n) bs)) column
    (λ j k x y lt hi mx my.
    let a = in_column j x mx in
    let b = in_column k y my in
    let p : x.across.m ≡ j = a.0 in
    let q : y.across.m ≡ k = b.0 in
    let r : x.up.m < 131 = a.1 in
    omega arith)
  where
    in_column : (m : ℕ) (x : Blend) → Memᴰ x (each 1 (h + 1) (λ n. only (anchored m n) bs)) → (x.across.m ≡ m) × (x.up.m < 131)
    in_column m x e =
        let b = each_mem 1 (h + 1) (λ n. only (anchored m n) bs) x e in
        let a = anchored_at m b.0 x (only_mem (anchored m b.0) bs x b.3).1 in
        let q : x.up.m ≡ b.0 = a.1 in
        let hi : b.0 < 1 + (h + 1) = b.2 in
        (a.0, omega arith)

    column : (m : ℕ) → Ascending place (each 1 (h + 1) (λ n. only (anchored m n) bs))
    column m =
        each_ordered (λ x y. place x < place y) 1 (h + 1) (λ n. only (anchored m n) bs)
        (λ n.
        lone (λ x y. place x < place y) (only (anchored m n) bs) (only_distinct (anchored m n) bs d)
        (λ x y mx my.
        let ox = only_mem (anchored m n) bs x mx in
        let oy = only_mem (anchored m n) bs y my in
        let ax = anchored_at m n x ox.1 in
        let ay = anchored_at m n y oy.1 in
        own x y ox.0 oy.0 (ax.0 ∙ sym ay.0) (ax.1 ∙ sym ay.1)))
        (λ j k x y lt hi mx my.
        let ax = anchored_at m j x (only_mem (anchored m j) bs x mx).1 in
        let ay = anchored_at m k y (only_mem (anchored m k) bs y my).1 in
        let a : x.across.m ≡ m = ax.0 in
        let b : x.up.m ≡ j = ax.1 in
        let c : y.across.m ≡ m = ay.0 in
        let e : y.up.m ≡ k = ay.1 in
        omega (arith, ap (λ (i : ℕ). i * 131) a, ap (λ (i : ℕ). i * 131) c))
