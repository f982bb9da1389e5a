-- `mesh::cut::first_line` meets its contract.
use Rattle.std.proofs.Common.{◌+◌, ◌-◌, ◌≡◌, sym, ap, ◌∙◌, arith}
use mathlib.Core.Bool.{true, false}
use Rattle.axis.specs.Nearest.{below, above}
use Rattle.axis.proofs.Nearest.{below_turn, below_none, above_turn, above_none, nearest_under, nearest_beyond, some_line, no_line}
use Rattle.mesh.proofs.Cutting.{over}
use Rattle.mesh.proofs.cut.first_line.Goals as goal

pub loop-z-init : goal.loop-z-init
loop-z-init c =
    let x = c.args.x in
    let whole : x.m - x.l - 1 ≡ x.m - 1 - x.l = omega arith in
    ap (below (over c.args.steps.now c.args.b c.args.n) x.l) whole

pub returns-then-covers : goal.returns-then-covers
returns-then-covers c =
    let a = c.args in
    let z = c.loop-z.z - 1 in
    let line = over a.steps.now a.b a.n in
    let hit : line z ≡ true = sym c.covers.ensures ∙ c.if-covers.true in
    let low = c.loop-z.invariant ∙ below_turn line a.x.l z (omega arith) ∙ rw hit in
    some_line _ z (nearest_under line a.x (λ e. omega (arith, low, e)) ∙ low) (omega arith)

pub loop-z-preserved : goal.loop-z-preserved
loop-z-preserved c =
    let a = c.args in
    let z = c.loop-z.z - 1 in
    let line = over a.steps.now a.b a.n in
    let miss : line z ≡ false = sym c.covers.ensures ∙ c.if-covers.false in
    c.loop-z.invariant ∙ below_turn line a.x.l z (omega arith) ∙ rw miss

pub loop-z-2-init : goal.loop-z-2-init
loop-z-2-init c =
    let a = c.args in
    let x = a.x in
    let line = over a.steps.now a.b a.n in
    let none = c.loop-z.invariant ∙ below_none line x.l _ (omega arith) in
    let whole : x.r - x.m - 1 ≡ x.r - (x.m + 1) = omega arith in
    nearest_beyond line x none ∙ ap (above line x.r) whole

pub returns-then-covers-2 : goal.returns-then-covers-2
returns-then-covers-2 c =
    let a = c.args in
    let z = c.loop-z-2.z in
    let line = over a.steps.now a.b a.n in
    let hit : line z ≡ true = sym c.covers-in-loop-z-2.ensures ∙ c.if-covers-2.true in
    some_line _ z (c.loop-z-2.invariant ∙ above_turn line a.x.r z (omega arith) ∙ rw hit) (omega arith)

pub loop-z-2-preserved : goal.loop-z-2-preserved
loop-z-2-preserved c =
    let a = c.args in
    let z = c.loop-z-2.z in
    let line = over a.steps.now a.b a.n in
    let miss : line z ≡ false = sym c.covers-in-loop-z-2.ensures ∙ c.if-covers-2.false in
    c.loop-z-2.invariant ∙ above_turn line a.x.r z (omega arith) ∙ rw miss

pub returns : goal.returns
returns c =
    let a = c.args in
    no_line _ (c.loop-z-2.invariant ∙ above_none (over a.steps.now a.b a.n) a.x.r _ (omega arith))
