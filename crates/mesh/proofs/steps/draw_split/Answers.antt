-- `mesh::steps::draw_split` meets its contract: a split of the direction is one line, and any other is passed.
use Rattle.std.proofs.Common.{refl, sym, ◌∙◌}
use Rattle.mesh.proofs.Drawing.{split_drawn, split_passed}
use Rattle.mesh.proofs.steps.draw_split.Goals as goal

pub returns-then-s-number : goal.returns-then-s-number
returns-then-s-number c =
    let a = c.args in
    let same = c.if-s-number.true ∙ c.number.ensures in
    (c.draw.ensures.long, λ w h along. split_drawn a.s a.d w h a.run c.draw.ensures same refl c.start.ensures c.end.ensures.0 along)

pub returns-else-s-number : goal.returns-else-s-number
returns-else-s-number c =
    let a = c.args in
    (refl, λ w h along. split_passed a.s a.d w h a.steps.now (λ e. c.if-s-number.false (e ∙ sym c.number.ensures)))
