-- What the answer along a row or a column tells of the readings there; a refusal tells nothing.
use Prim.Native.Nat.{ℕ, ◌+◌, ◌-◌, ◌%◌, ◌≤◌, ◌<◌}
use native.Mathlib.Omega.{arith}
use mathlib.Core.Path.{◌≡◌, refl, sym, ap, subst, ◌∙◌}
use mathlib.Core.Logic.{⊎_elim}
use mathlib.Core.Bool.{Bool, true, false, cond, ◌&&◌, not}
use mathlib.Core.List.{List, [], ◌∷◌, Memᴰ}
use borrow.Author.Tests.{le-leb}
use lib.Dec.{ltb, leb}
use lib.ListN.{length}
use Rattle.axis.specs.Range.{Ordered, differ, turns}
use Rattle.axis.proofs.Tests.{false_of, true_not_false}
use Rattle.axis.proofs.Counts.{ones}
use Rattle.axis.proofs.Distinct.{first_before}
use Rattle.axis.proofs.Turns.{turn_mem, mem_turn, turns_ordered, stays, turns_parity, turns_same}
use Rattle.maps.specs.declared.Map.{Map}
use Rattle.maps.specs.Outcomes.{Pairs}
use Rattle.maps.specs.Outcomes.{Reading}
use Rattle.maps.specs.Plain.{Plain}
use Rattle.maps.specs.Record.{plain, good}
use Rattle.maps.specs.Calls.{reading, reading_on}
use Rattle.maps.specs.Pairs.{below, pairs, no_pairs, counted_pairs, pairs_along, row_on, row_pairs, column_on, column_pairs}
use Rattle.maps.specs.PairsTold.{Pair, PairsTold}

-- a refusal gives no pairs, and 0 for the first
abbrev pub Nothing : Pairs → Type 0
Nothing p = leb 1 p.number ≡ true → (p.count ≡ 0) × (p.first ≡ 0)

counted_nothing : (us : List ℕ) → Nothing (counted_pairs us)
counted_nothing [] e = (refl, refl)
counted_nothing (u ∷ us) e = absurd (true_not_false true refl (sym e))

cond_nothing : (b : Bool) (p q : Pairs) → Nothing p → Nothing q → Nothing (cond b p q)
cond_nothing true p q f g = f
cond_nothing false p q f g = g

along_nothing : (side : ℕ) (readings : ℕ → Reading) (wanted : ℕ) (b : Bool) → Nothing (cond b (pairs_along side readings wanted) (no_pairs 10))
along_nothing side readings wanted b =
    cond_nothing b (pairs_along side readings wanted) (no_pairs 10)
    (cond_nothing (leb 1 wanted && leb wanted 65535) (counted_pairs (pairs side readings wanted)) (no_pairs 13) (counted_nothing (pairs side readings wanted)) (λ e. (refl, refl)))
    (λ e. (refl, refl))

module _ (P : Plain) (at wanted : ℕ) where
  pub row_nothing : Nothing (row_on P at wanted)
  row_nothing = along_nothing P.lines.w (λ u. reading_on P u at) wanted (leb at P.lines.h)

  pub column_nothing : Nothing (column_on P at wanted)
  column_nothing = along_nothing P.lines.h (λ v. reading_on P at v) wanted (leb at P.lines.w)

-- The answer by its list of pairs,
module _ (side : ℕ) (readings : ℕ → Reading) (wanted : ℕ) (read : (u : ℕ) → u ≤ side → (readings u).number ≡ 0) where
  abbrev test : ℕ → Bool
  test = below readings wanted

  in_list : (ps : List ℕ) → ps ≡ pairs side readings wanted → (u : ℕ) → u < side → Pair readings wanted u → Memᴰ u ps
  in_list ps e u lt p = rw e (turn_mem test 0 side u (omega arith) (omega arith) p)

  between : (a u : ℕ) → a ≤ u → ((k : ℕ) → a ≤ k → k < u → Pair readings wanted k → ⊥) → test u ≡ test a
  between a u le none =
      let e : a + (u - a) ≡ u = omega arith in
      rw e at (stays test a (u - a) (λ k lo hi. false_of (turns test k) (none k lo (omega arith))))

  parity : (ps : List ℕ) → ps ≡ pairs side readings wanted → length ps % 2 ≡ ones (differ (test 0) (test side))
  parity ps e = let z : 0 + side ≡ side = omega arith in rw e (rw z at (turns_parity test 0 side))

  told : (ps : List ℕ) → ps ≡ pairs side readings wanted → PairsTold side readings wanted (counted_pairs ps)
  told [] e =
      record {
        are_read = read;
        counts = λ z. absurd (omega arith);
        is_pair = λ z. absurd (omega arith);
        none_before = λ u lt p. omega arith;
        refused = λ ne. (refl, refl, λ u lt p. mathlib.Core.List.Memᴰ.not-nil (in_list [] e u lt p));
        one_side = λ a u le us none. between a u le none;
        odd = λ d. rw d at (parity [] e);
        even = λ d. rw d at (parity [] e);
      }
  told (p ∷ ps) e =
      let first : Memᴰ p (p ∷ ps) = mathlib.Core.List.Memᴰ.head refl in
      let here = mem_turn test 0 side p (subst (Memᴰ p) e first) in
      let inside : p < side = omega (arith, here.1) in
      let ordered = subst (Ordered ◌<◌) (sym e) (turns_ordered test 0 side) in
      record {
        are_read = read;
        counts = λ z. omega arith;
        is_pair = λ z. (inside, here.2);
        none_before = λ u lt q. ⊎_elim (λ (w : u ≡ p). omega arith) (λ (w : p < u). omega arith) (first_before ◌<◌ p ps ordered u (in_list (p ∷ ps) e u (omega arith) q));
        refused = λ ne. absurd (ne refl);
        one_side = λ a u le us none. between a u le none;
        odd = λ d. rw d at (parity (p ∷ ps) e);
        even = λ d. rw d at (parity (p ∷ ps) e);
      }

-- by the reading call of a good record.
module _ (m : Map) (is : good m ≡ true) (at wanted : ℕ) (low : 1 ≤ wanted) (high : wanted ≤ 65535) where
  read_as : (u v : ℕ) → reading m u v ≡ reading_on (plain m) u v
  unfolding reading
  read_as u v = rw is

  by_list : (side limit : ℕ) (readings calls : ℕ → Reading) → ((u : ℕ) → calls u ≡ readings u) → ((u : ℕ) → u ≤ side → (readings u).number ≡ 0) →
      at ≤ limit → (answer : Pairs) → answer ≡ cond (not (good m)) (no_pairs 2) (cond (leb at limit) (pairs_along side readings wanted) (no_pairs 10)) →
      PairsTold side calls wanted answer
  by_list side limit readings calls same read le answer e =
      let as_called : pairs side calls wanted ≡ pairs side readings wanted =
      turns_same 0 side (below calls wanted) (below readings wanted) (λ k kn. ap (λ (r : Reading). ltb r.litres wanted) (same k)) in
      let is_counted : answer ≡ counted_pairs (pairs side calls wanted) =
      e ∙ rw (is, le-leb at limit le, le-leb 1 wanted low, le-leb wanted 65535 high) (ap counted_pairs (sym as_called)) in
      rw is_counted (told side calls wanted (λ u us. ap (λ (r : Reading). r.number) (same u) ∙ read u us) (pairs side calls wanted) refl)

  pub row_told : at ≤ m.lines.h → PairsTold m.lines.w (λ u. reading m u at) wanted (row_pairs m at wanted)
  unfolding row_pairs plain
  row_told le = by_list _ _ (λ u. reading_on (plain m) u at) _ (λ u. read_as u at) (λ u us. rw (le-leb _ _ us, le-leb _ _ le)) le _ refl

  pub column_told : at ≤ m.lines.w → PairsTold m.lines.h (λ v. reading m at v) wanted (column_pairs m at wanted)
  unfolding column_pairs plain
  column_told le = by_list _ _ (λ v. reading_on (plain m) at v) _ (λ v. read_as at v) (λ v vs. rw (le-leb _ _ le, le-leb _ _ vs)) le _ refl
