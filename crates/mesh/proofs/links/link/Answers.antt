-- `mesh::links::link` meets its contract.
use Rattle.std.proofs.Common.{ℕ, ◌+◌, ◌<◌, ◌≡◌, refl, sym, ◌∙◌, List, length, get_or, arith, le-ltb, eqb-true, get_or-set_same, get_or-set_other}
use borrow.Author.Tests.{lt-ltb, ltb-true, ltb-false, eqb-false}
use Prim.Native.Nat.{min}
use mathlib.Core.Path.{subst}
use mathlib.Core.Logic.{⊎_elim}
use mathlib.Core.Bool.{and-false}
use lib.Dec.{ltb, eqb}
use lib.ListN.{set}
use Rattle.axis.proofs.Tests.{either}
use Rattle.axis.proofs.Runs.{if_below}
use Rattle.mesh.proofs.links.link.Invariants.{linked, Linking}
use Rattle.mesh.proofs.links.link.Goals as goal

pub loop-k-init : goal.loop-k-init
loop-k-init c = record { within = omega arith; done = λ i lt. absurd (omega arith); left = λ i le. refl }

-- the next link is set, or stays
next : {before after : List ℕ} {z k v : ℕ} → Linking before after z k → k < z → z < 131 → length after ≡ 131 → v ≡ linked before z k →
    Linking before (set after k v) z (k + 1)
next {before} {after} {z} {k} {v} l lt hz long e =
    record {
      within = omega arith;
      done = λ i le.
          ⊎_elim
          (λ q. let same = eqb-true i k q in
          subst (λ j. get_or (set after k v) j 0 ≡ linked before z j) (sym same) (get_or-set_same after k v 0 (omega arith) ∙ e))
          (λ q. let ne = eqb-false i k q in get_or-set_other after k i v 0 ne ∙ l.done i (omega arith))
          (either (eqb i k));
      left = λ i le. get_or-set_other after k i v 0 (λ e. omega arith) ∙ l.left i (omega arith);
    }

-- what a link is set to
is_set : (links : List ℕ) (z k v : ℕ) → k < z → v ≡ min (get_or links k 0) z → v ≡ linked links z k
is_set links z k v lt e =
    ⊎_elim
    (λ t. let past = ltb-true z (get_or links k 0) t in rw (lt-ltb k z lt, t) (omega arith))
    (λ t. let short = ltb-false z (get_or links k 0) t in rw (t, and-false (ltb k z)) (omega arith))
    (either (ltb z (get_or links k 0)))

pub loop-k-preserved : goal.loop-k-preserved
loop-k-preserved c =
    let l = c.loop-k in
    let here = l.invariant.left l.k (omega arith) in
    next l.invariant c.loop-k-test.true c.requires.1 (omega arith)
    (is_set c.args.links.now c.args.z l.k _ c.loop-k-test.true (c.min.ensures ∙ rw here))

pub returns : goal.returns
returns c =
    let a = c.args in
    let l = c.loop-k in
    record {
      long = omega arith;
      at = λ k hk.
          if_below k l.k (λ lt. l.invariant.done k lt)
          (λ le. l.invariant.left k le ∙ rw (le-ltb k a.z (omega (arith, c.loop-k-test.false))));
    }
