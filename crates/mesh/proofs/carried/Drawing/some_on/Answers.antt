-- `mesh::carried::Drawing::some_on` meets its contract.
use Rattle.std.proofs.Common.{◌+◌, ◌-◌, ◌≡◌, arith, sym, ◌∙◌}
use Rattle.axis.proofs.Tests.{some_turn}
use Rattle.mesh.proofs.carried.Drawing.some_on.Goals as goal

pub loop-k-preserved : goal.loop-k-preserved
loop-k-preserved g c =
    let k = c.loop-k.k in
    let end = c.args.from + c.args.n in
    let less : end - k - 1 ≡ end - (k + 1) = omega arith in
    sym (some_turn k (end - k) _ (omega arith) ∙ rw (less, sym c.on.ensures ∙ c.if-on.false)) ∙ c.loop-k.invariant
