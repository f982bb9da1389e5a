-- `mesh::carried::Drawing::step` meets its contract: what a split comes to is found before anything is written, and an accepted line is drawn.
use Rattle.std.proofs.Common.{refl, rules}
use Rattle.mesh.proofs.Replaying.{verdict_accepted}
use Rattle.mesh.proofs.carried.Drawing.step.Goals as goal

pub draw-requires : goal.draw-requires
draw-requires g c =
    let P = c.requires.1.0 in
    let now = c.requires.1.1 in
    let f = c.in_ok-line.ensures P now in
    (search rules, (P, now, f.1, verdict_accepted P c.args.s now.carried.taken c.args.allowance f.0 refl))

pub returns-clause-drawn : goal.returns-clause-drawn
returns-clause-drawn g c P now =
    let f = c.in_ok-line.ensures P now in
    c.draw.ensures P now f.1 (verdict_accepted P c.args.s now.carried.taken c.args.allowance f.0 refl)
