-- `mesh::steps::covers` meets its contract.
use Rattle.std.proofs.Common.{◌≡◌, ◌+◌, ◌-◌, arith, sym, ap, ◌∙◌}
use Rattle.axis.specs.Range.{every}
use Rattle.mesh.specs.Bytes.{step_on}
use Rattle.axis.proofs.Tests.{every_turn, every_none}
use Rattle.mesh.proofs.Bytes.{step_off, step_on_lem}
use Rattle.mesh.proofs.steps.covers.Goals as goal

pub loop-k-init : goal.loop-k-init
loop-k-init c =
    let a = c.args in
    let whole : a.b + a.n - a.b ≡ a.n = omega arith in
    ap (λ n. every a.b n (step_on a.steps.now a.z)) whole

pub returns-then-steps-row-eq0 : goal.returns-then-steps-row-eq0
returns-then-steps-row-eq0 c =
    let k = c.loop-k.k in
    let a = c.args in
    let off = step_off a.steps.now a.z k (omega arith) (omega arith) (rw (c.from-row.ensures, c.from.ensures) at c.if-steps-row-eq0.true) in
    let turn = every_turn k (a.b + a.n - k) (step_on a.steps.now a.z) (omega arith) in
    sym (sym c.loop-k.invariant ∙ turn ∙ rw off)

pub loop-k-preserved : goal.loop-k-preserved
loop-k-preserved c =
    let k = c.loop-k.k in
    let a = c.args in
    let on = step_on_lem a.steps.now a.z k (omega arith) (omega arith) (rw (c.from-row.ensures, c.from.ensures) at c.if-steps-row-eq0.false) in
    let turn = every_turn k (a.b + a.n - k) (step_on a.steps.now a.z) (omega arith) in
    let next : a.b + a.n - (k + 1) ≡ a.b + a.n - k - 1 = omega arith in
    rw next (sym (turn ∙ rw on) ∙ c.loop-k.invariant)

pub returns : goal.returns
returns c =
    let k = c.loop-k.k in
    let a = c.args in
    sym (every_none k (a.b + a.n - k) (step_on a.steps.now a.z) (omega arith)) ∙ c.loop-k.invariant
