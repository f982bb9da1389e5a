-- A walk along a row or up a column: the four blends over one square that lie over the next are those over it, and pairs noted point by point are all pairs.
use Prim.Native.Nat.{ℕ, ◌+◌, ◌-◌, ◌≤◌, ◌<◌}
use native.Mathlib.Omega.{arith}
use mathlib.Core.Path.{◌≡◌, refl, sym, ap, subst, ◌∙◌}
use mathlib.Core.Logic.{⊎_elim}
use mathlib.Core.Bool.{Bool, true, false, cond}
use mathlib.Core.List.{List, [], ◌∷◌, map}
use borrow.Author.Tests.{ne_eqb}
use lib.ListN.{length, length-map}
use Rattle.axis.specs.Range.{all, only, differ, turns, turns_from}
use Rattle.axis.proofs.Tests.{either, each_turn, each_none}
use Rattle.std.specs.List.{list_all}
use Rattle.std.proofs.lemmas.List.Folds.{list_all-map}
use Rattle.mesh.specs.declared.Blend.{Blend}
use Rattle.mesh.specs.declared.Table.{Table}
use Rattle.mesh.specs.Sound.{over_square, blends_of}
use Rattle.maps.specs.Outcomes.{Pairs}
use Rattle.maps.specs.declared.values.Entry.{Entry}
use Rattle.maps.specs.Pairs.{no_pairs, counted_pairs}
use Rattle.maps.specs.Inner.{entries_over, with_pair}
use Rattle.maps.proofs.Opening.{all_list}
use Rattle.maps.proofs.OverSquare.{entries_only, entries_stay}

-- four entries of a table that are those over some square
pub record FourOf (t : Table) (f : List Entry) : Type 0 where
  pub long : length f ≡ 4
  pub x : ℕ
  pub y : ℕ
  pub are : f ≡ entries_over (over_square x y) (blends_of t) 0

-- where they all lie over another square, they are those over that one
pub four_stay : (t : Table) (f : List Entry) → FourOf t f → (x y : ℕ) → list_all (λ (e : Entry). over_square x y e.blend) f ≡ true →
    length (only (over_square x y) (blends_of t)) ≡ 4 → f ≡ entries_over (over_square x y) (blends_of t) 0
four_stay t f o x y over four =
    let old = over_square o.x o.y in
    let test = over_square x y in
    let here = sym (all_list test (map (λ (e : Entry). e.blend) f)) ∙ list_all-map test (λ (e : Entry). e.blend) f ∙ over in
    let same : map (λ (e : Entry). e.blend) f ≡ only old (blends_of t) = ap (map (λ (e : Entry). e.blend)) o.are ∙ entries_only old (blends_of t) 0 in
    o.are ∙
    entries_stay old (over_square x y) (blends_of t) 0 (subst (λ (bs : List Blend). all (over_square x y) bs ≡ true) same here)
    (omega (arith, four, ap length same, o.long, length-map f (λ (e : Entry). e.blend)))

-- the points of a row or a column lie in the domain
pub in_walk : (row : Bool) (w h k at : ℕ) → k ≤ cond row w h → at ≤ cond row h w → (cond row k at ≤ w) × (cond row at k ≤ h)
in_walk true w h k at a b = (a, b)
in_walk false w h k at a b = (b, a)

pub side_most : (row : Bool) (w h : ℕ) → w ≤ 128 → h ≤ 128 → cond row w h ≤ 128
side_most true w h a b = a
side_most false w h a b = b

-- pairs noted one after the other
abbrev pub noting : Pairs → List ℕ → Pairs
noting p [] = p
noting p (k ∷ ks) = noting (with_pair p k) ks

pub noting_all : (ks : List ℕ) → noting (no_pairs 13) ks ≡ counted_pairs ks
noting_all [] = refl
noting_all (k ∷ ks) = more ks 1 k (omega arith) ∙ ap (λ (n : ℕ). record { number = 0; count = n; first = k }) (omega arith)
  where
    more : (ks : List ℕ) (n k : ℕ) → 0 < n → noting (record { number = 0; count = n; first = k }) ks ≡ record { number = 0; count = n + length ks; first = k }
    more [] n k lt = ap (λ (m : ℕ). record { number = 0; count = m; first = k }) (omega arith)
    more (j ∷ ks) n k lt =
        rw (ne_eqb n 0 (λ e. omega arith)) (more ks (n + 1) k (omega arith) ∙ ap (λ (m : ℕ). record { number = 0; count = m; first = k }) (omega arith))

-- Pairs noted from the j-th point to the next one: with those from there on, they are the pairs noted before with those from the j-th point on.
module _ (p q : Pairs) (test : ℕ → Bool) (j side : ℕ) (lt : j < side) {last here : Bool} (is_last : last ≡ test j) (is_here : here ≡ test (j + 1)) where
  pub noted_on : q ≡ cond (differ last here) (with_pair p j) p → p.count ≤ j →
      (q.count ≤ j + 1) × (noting q (turns_from (j + 1) (side - (j + 1)) test) ≡ noting p (turns_from j (side - j) test))
  noted_on noted few =
      let turned : q ≡ cond (turns test j) (with_pair p j) p = noted ∙ rw (is_last, is_here) in
      let less : side - (j + 1) ≡ side - j - 1 = omega arith in
      let next = each_turn j (side - j) (λ i. cond (turns test i) (i ∷ []) []) (omega arith) in
      rw (less, turned)
      (⊎_elim (λ (e : turns test j ≡ true). rw e (omega arith, sym (ap (noting p) next ∙ rw e)))
      (λ (e : turns test j ≡ false). rw e (omega arith, sym (ap (noting p) next ∙ rw e))) (either (turns test j)))

-- at the last point there are no more
pub noting_done : (p : Pairs) (test : ℕ → Bool) (k n : ℕ) → n ≤ 0 → noting p (turns_from k n test) ≡ p
noting_done p test k n le = ap (noting p) (each_none k n (λ i. cond (turns test i) (i ∷ []) []) le)
