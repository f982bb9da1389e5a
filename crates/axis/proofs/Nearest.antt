-- The search for the line nearest to the middle of one triple: what it answers, and how a loop takes it.
-- Nothing here knows how many axes there are.
use Prim.Native.Nat.{ℕ, zero, suc, ◌+◌, ◌-◌, ◌≤◌, ◌<◌}
use native.Mathlib.Omega.{arith}
use mathlib.Core.Path.{◌≡◌, refl, sym, ap, ◌∙◌}
use mathlib.Core.Logic.{⊎_elim}
use mathlib.Core.Bool.{Bool, true, false, cond}
use borrow.Author.Tests.{eqb-true, eqb-false, eq-eqb, ne_eqb, ltb-true, ltb-false}
use lib.Dec.{eqb, ltb}
use Rattle.std.specs.Prelude.{Some, None}
use Rattle.std.proofs.lemmas.Option.{none-some, cond_some}
use Rattle.axis.specs.Nearest.{below, above, nearest, any_line}
use Rattle.axis.specs.declared.Triple.{Triple}
use Rattle.axis.specs.Triple.{Rise}
use Rattle.axis.proofs.Tests.{either, true_not_false}
use Rattle.axis.proofs.Runs.{if_equal}
use Rattle.axis.proofs.Triples.{Inside}

-- What a search over the places 1 to n for a line answers: one of them that has a line, or 0 where none has.
record Search (line : ℕ → Bool) (place : ℕ → ℕ) (n v : ℕ) : Type 0 where
  none : v ≡ 0 → (k : ℕ) → 0 < k → k ≤ n → line (place k) ≡ false
  some : (v ≡ 0 → ⊥) → (k : ℕ) × (0 < k) × (k ≤ n) × (v ≡ place k) × (line (place k) ≡ true)

module _ (line : ℕ → Bool) (place : ℕ → ℕ) where
  search_nowhere : Search line place 0 0
  search_nowhere = record { none = λ e k lo hi. absurd (omega arith); some = λ f. absurd (f refl) }

  search_on : (n v : ℕ) → Search line place n v → 0 < place (suc n) → Search line place (suc n) (cond (line (place (suc n))) (place (suc n)) v)
  search_on n v h pos = ⊎_elim here further (either (line (place (suc n))))
    where
      here : line (place (suc n)) ≡ true → Search line place (suc n) (cond (line (place (suc n))) (place (suc n)) v)
      here e = rw e (record { none = λ z. absurd (omega arith); some = λ f. (suc n, omega arith, omega arith, refl, e) })

      further : line (place (suc n)) ≡ false → Search line place (suc n) (cond (line (place (suc n))) (place (suc n)) v)
      further e =
          rw e
          (record {
            none = λ z k lo hi.
                ⊎_elim (λ q. rw (eqb-true k (suc n) q) e) (λ q. let ne = eqb-false k (suc n) q in h.none z k lo (omega arith))
                (either (eqb k (suc n)));
            some = λ f. let r = h.some f in (r.0, r.1, omega (arith, r.2), r.3, r.4);
          })

below_search : (line : ℕ → Bool) (l n : ℕ) → Search line (λ k. l + k) n (below line l n)
unfolding below
below_search line l zero = search_nowhere line (λ k. l + k)
below_search line l (suc n) = search_on line (λ k. l + k) n (below line l n) (below_search line l n) (omega arith)

above_search : (line : ℕ → Bool) (r n : ℕ) → n < r → Search line (λ k. r - k) n (above line r n)
unfolding above
above_search line r zero h = search_nowhere line (λ k. r - k)
above_search line r (suc n) h = search_on line (λ k. r - k) n (above line r n) (above_search line r n (omega arith)) (omega arith)

-- What the search on both sides of the middle answers: a line that can cut, or 0 where there is none.
pub record First (line : ℕ → Bool) (t : Triple) (v : ℕ) : Type 0 where
  pub none : v ≡ 0 → (z : ℕ) → Inside z t → line z ≡ false
  pub some : (v ≡ 0 → ⊥) → Inside v t × (line v ≡ true)

pub nearest_first : (line : ℕ → Bool) (t : Triple) → Rise t → First line t (nearest line t)
unfolding nearest
nearest_first line t h =
    both (below line t.l (t.m - t.l - 1)) (above line t.r (t.r - t.m - 1)) (below_search line t.l (t.m - t.l - 1))
    (above_search line t.r (t.r - t.m - 1) (omega arith))
  where
    both : (a b : ℕ) → Search line (λ k. t.l + k) (t.m - t.l - 1) a → Search line (λ k. t.r - k) (t.r - t.m - 1) b →
        First line t (cond (eqb a 0) b a)
    both a b p q = ⊎_elim (λ e. rw e (high (eqb-true a 0 e))) (λ e. rw e (low (eqb-false a 0 e))) (either (eqb a 0))
      where
        low : (a ≡ 0 → ⊥) → First line t a
        low ne =
            let r = p.some ne in
            record { none = λ e. absurd (ne e); some = λ f. (omega arith, ap line r.3 ∙ r.4) }

        high : a ≡ 0 → First line t b
        high z =
            record {
              none = λ e y i.
                  ⊎_elim
                  (λ c. let lt = ltb-true y t.m c in
                  let k : t.l + (y - t.l) ≡ y = omega arith in
                  rw k at (p.none z (y - t.l) (omega arith) (omega arith)))
                  (λ c. let le = ltb-false y t.m c in
                  let k : t.r - (t.r - y) ≡ y = omega arith in
                  let off = i.off in
                  rw k at (q.none e (t.r - y) (omega arith) (omega arith)))
                  (either (ltb y t.m));
              some = λ f. let r = q.some f in (omega arith, ap line r.3 ∙ r.4);
            }

-- the searches by a knot that walks away from the middle, as a loop takes them
module _ (line : ℕ → Bool) where
  pub below_turn : (l z : ℕ) → l < z → below line l (z - l) ≡ cond (line z) z (below line l (z - 1 - l))
  unfolding below
  below_turn l z h =
      let e : z - l ≡ suc (z - 1 - l) = omega arith in
      let f : l + suc (z - 1 - l) ≡ z = omega arith in
      rw (e, f)

  pub above_turn : (r z : ℕ) → z < r → above line r (r - z) ≡ cond (line z) z (above line r (r - (z + 1)))
  unfolding above
  above_turn r z h =
      let e : r - z ≡ suc (r - (z + 1)) = omega arith in
      let f : r - suc (r - (z + 1)) ≡ z = omega arith in
      rw (e, f)

  pub below_none : (l n : ℕ) → n ≤ 0 → below line l n ≡ 0
  unfolding below
  below_none l zero h = refl
  below_none l (suc n) h = absurd (omega arith)

  pub above_none : (r n : ℕ) → n ≤ 0 → above line r n ≡ 0
  unfolding above
  above_none r zero h = refl
  above_none r (suc n) h = absurd (omega arith)

-- the line that cuts first is the one below, if there is one
module _ (line : ℕ → Bool) (t : Triple) where
  abbrev pub under : ℕ
  under = below line t.l (t.m - t.l - 1)

  abbrev pub beyond : ℕ
  beyond = above line t.r (t.r - t.m - 1)

  pub nearest_under : (under ≡ 0 → ⊥) → nearest line t ≡ under
  unfolding nearest
  nearest_under ne = rw (ne_eqb _ _ ne)

  pub nearest_beyond : under ≡ 0 → nearest line t ≡ beyond
  unfolding nearest
  nearest_beyond e = rw (eq-eqb _ _ e)

-- a line that was found, and none
pub some_line : (v z : ℕ) → v ≡ z → 0 < z → Some z ≡ any_line v
some_line zero z e pos = absurd (omega arith)
some_line (suc v) z e pos = ap Some (sym e)

pub no_line : (v : ℕ) → v ≡ 0 → None ≡ any_line v
no_line v e = rw e

pub line_is : (v z : ℕ) → any_line v ≡ Some z → (z ≡ v) × (z ≡ 0 → ⊥)
line_is zero z e = absurd (none-some z e)
line_is (suc v) z e = let same = (cond_some true (suc v) z e).1 in (sym same, λ q. omega arith)

pub line_none : (v : ℕ) → any_line v ≡ None → v ≡ 0
line_none zero e = refl
line_none (suc v) e = absurd (none-some (suc v) (sym e))

-- The searches as such: the last number at or below n that passes a test, where 0 does,
pub below_last : (test : ℕ → Bool) (n : ℕ) → test 0 ≡ true →
    (below test 0 n ≤ n) × (test (below test 0 n) ≡ true) × ((k : ℕ) → below test 0 n < k → k ≤ n → test k ≡ false)
unfolding below
below_last test zero first = (omega arith, first, λ k lo hi. absurd (omega arith))
below_last test (suc n) first =
    let e : 0 + suc n ≡ suc n = omega arith in
    let rest = below_last test n first in
    rw e
    (⊎_elim (λ t. rw t (omega arith, t, λ k lo hi. absurd (omega arith)))
    (λ t. rw t (omega arith, rest.1, λ k lo hi. if_equal k (suc n) (λ e. rw e t) (λ ne. rest.2 k lo (omega arith))))
    (either (test (suc n))))

-- and the first of the n numbers before r that does, where the last of them does.
pub above_first : (test : ℕ → Bool) (r n : ℕ) → 0 < n → n ≤ r → test (r - 1) ≡ true →
    (r - n ≤ above test r n) × (above test r n < r) × (test (above test r n) ≡ true) × ((k : ℕ) → r - n ≤ k → k < above test r n → test k ≡ false)
unfolding above
above_first test r zero pos le last = absurd (omega arith)
above_first test r (suc n) pos le last =
    ⊎_elim (λ t. rw t (omega arith, omega arith, t, λ k lo hi. absurd (omega arith)))
    (λ t. rw t
    (if_equal n 0 (λ one. absurd (true_not_false (test (r - 1)) last (rw one at t)))
    (λ more. let rest = above_first test r n (omega arith) (omega arith) last in
    (omega arith, rest.1, rest.2, λ k lo hi. if_equal k (r - suc n) (λ e. rw e t) (λ ne. rest.3 k (omega arith) hi)))))
    (either (test (r - suc n)))
