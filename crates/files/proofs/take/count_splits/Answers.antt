-- `files::take::count_splits` meets its contract.
use Rattle.std.proofs.Common.{arith, ◌≡◌, sym, ◌∙◌}
use Rattle.files.proofs.Taking.{counted_more, counted_all}
use Rattle.files.proofs.take.count_splits.Goals.{then-bytes-at-via-then-bytes-at, then-bytes-at-via-else-bytes-at+then-word_at}
use Rattle.files.proofs.take.count_splits.Goals as goal

pub returns-then-bytes-at : goal.returns-then-bytes-at
returns-then-bytes-at c =
    counted_all _ c.loop-n.invariant (λ lt h.
    elim c.then-bytes-at.branch [
      | then-bytes-at-via-then-bytes-at w ↦ omega (arith, h.fits, w.if-bytes-at.true)
      | then-bytes-at-via-else-bytes-at+then-word_at w ↦ w.if-word_at.true (w.word_at.ensures ∙ h.kind)
    ])

pub loop-n-preserved : goal.loop-n-preserved
loop-n-preserved c =
    counted_more _ c.loop-n.invariant c.loop-n-test.true (record { fits = omega arith; kind = sym c.word_at.ensures ∙ c.if-word_at.false })

pub returns : goal.returns
returns c = let e : 60 ≡ c.loop-n.n = omega arith in e ∙ counted_all _ c.loop-n.invariant (λ lt h. omega arith)
