-- `mesh::carried::Drawing::least_line` meets its contract: the first line that has good ends is the one between the nearest good ends.
use Rattle.std.proofs.Common.{refl, sym, ◌∙◌, arith, rules}
use Rattle.axis.proofs.Tests.{true_not_false}
use Rattle.mesh.proofs.Looking.{search_sizes, search_rows, search_starts, search_enters, search_passes, search_leaves, search_finds}
use Rattle.mesh.proofs.carried.Drawing.least_line.Goals as goal
use Rattle.mesh.proofs.carried.Drawing.least_line.Goals.{else-line-run-via-then-line-run+else-good_ends, else-line-run-via-else-line-run}

pub overflow_step-length : goal.overflow_step-length
overflow_step-length g c = omega (arith, (search_sizes c.requires.0).1)

pub search-init : goal.search-init
search-init g c = record { none = refl; ahead = λ i. search_starts i }

pub overflow_add-from-end : goal.overflow_add-from-end
overflow_add-from-end g c = let sizes = search_sizes c.requires.0 in omega arith

pub loop-from-init : goal.loop-from-init
loop-from-init g c =
    let search = c.search in
    record {
      none = search.invariant.none;
      ahead = λ i. search_enters i search.length c.saturating_sub-from.result (search.invariant.ahead i) (omega (arith, c.saturating_sub-from.ensures));
    }

pub overflow_add-line : goal.overflow_add-line
overflow_add-line g c = let sizes = search_sizes c.requires.0 in omega arith

pub good_ends-requires : goal.good_ends-requires
good_ends-requires g c =
    let i = c.requires.0 in
    let sizes = search_sizes i in
    let rows = search_rows i in
    let run = rw c.way.ensures at c.run-run.ensures in
    (search rules, ((omega arith, omega arith, omega arith), omega arith, omega arith, sizes.3))

pub loop-from-preserved : goal.loop-from-preserved
loop-from-preserved g c =
    let l = c.loop-from in
    let run = rw c.way.ensures at c.run-run.ensures in
    record {
      none = l.invariant.none;
      ahead = λ i. search_passes i c.search.length l.from (l.invariant.ahead i)
          (λ le t. elim c.else-line-run.branch [
            | else-line-run-via-then-line-run+else-good_ends w ↦ true_not_false _ (w.good_ends.ensures ∙ t) w.if-good_ends.false
            | else-line-run-via-else-line-run w ↦ omega arith
          ]);
    }

pub search-preserved : goal.search-preserved
search-preserved g c =
    let l = c.loop-from in
    record { none = l.invariant.none; ahead = λ i. search_leaves i c.search.length l.from (l.invariant.ahead i) (omega arith) }

pub returns-then-good_ends : goal.returns-then-good_ends
returns-then-good_ends g c i =
    let l = c.loop-from in
    let sizes = search_sizes i in
    search_finds i c.search.length c.args.longest l.from (l.invariant.ahead i) (omega arith) (omega arith) (omega arith)
    (sym c.good_ends.ensures ∙ c.if-good_ends.true)
