-- `mesh::carried::Drawing::find` meets its contract: 3 to 7; then the search within the allowance.
use Rattle.std.proofs.Common.{refl, ap, arith, rules}
use Rattle.mesh.specs.Carried.{Verdict}
use Rattle.mesh.proofs.Passing.{given_says}
use Rattle.mesh.proofs.Carrying.{by_small}
use Rattle.mesh.proofs.Replaying.{searches, verdict_found, verdict_says, noted_nearest}
use Rattle.mesh.proofs.carried.Drawing.find.Goals as goal

pub overflow_sub-longest : goal.overflow_sub-longest
overflow_sub-longest g c =
    let P = c.requires.1.0 in
    let now = c.requires.1.1 in
    let passes = (c.in_ok-notes.ensures P now).0 in
    omega (arith, (by_small now c.args.s (given_says P c.args.s passes).fits).rises)

pub overflow_add-longest : goal.overflow_add-longest
overflow_add-longest g c =
    let P = c.requires.1.0 in
    let now = c.requires.1.1 in
    let passes = (c.in_ok-notes.ensures P now).0 in
    omega (arith, (by_small now c.args.s (given_says P c.args.s passes).fits).to)

pub least_line-requires : goal.least_line-requires
least_line-requires g c =
    let P = c.requires.1.0 in
    let now = c.requires.1.1 in
    let look = c.in_ok-notes.ensures P now in
    let small = by_small now c.args.s (given_says P c.args.s look.0).fits in
    (search rules, (searches now look.1 look.0, omega (arith, small.to)))

pub returns-in-Some : goal.returns-in-Some
returns-in-Some g c P now =
    let s = c.args.s in
    let look = c.in_ok-notes.ensures P now in
    let is = verdict_found P s c.args.allowance look.0 (c.in-Some.ensures (searches now look.1 look.0)) in
    (is, noted_nearest look.1 (ap (λ (v : Verdict). v.line) (verdict_says P s c.args.allowance is refl).2))

pub returns-in-None : goal.returns-in-None
returns-in-None g c P now =
    let look = c.in_ok-notes.ensures P now in
    verdict_found P c.args.s c.args.allowance look.0 (c.in-None.ensures (searches now look.1 look.0))
