-- `mesh::steps::draw_fresh` meets its contract: four lines over no steps are a fresh map's.
use Rattle.std.proofs.Common.{◌+◌, ◌≡◌, arith, length, sym, subst, List, ℕ, [], ◌∷◌}
use Rattle.std.proofs.lemmas.List.{take_more}
use Rattle.mesh.proofs.Drawing.{AllDrawn, all_none, all_more, all_fresh}
use Rattle.mesh.proofs.steps.draw_fresh.Goals as goal

pub loop-z-init : goal.loop-z-init
loop-z-init c = all_none c.requires.0

pub loop-z-preserved : goal.loop-z-preserved
loop-z-preserved c =
    let a = c.args in
    let zs = 0 ∷ 1 ∷ (a.crossed + 1) ∷ (a.crossed + 2) ∷ [] in
    subst (λ (l : List ℕ). AllDrawn c.draw.new.steps (length a.steps.now) l (a.run + 2)) (sym (take_more zs c.loop-z.z-index 0 (omega arith)))
    (all_more c.loop-z.invariant c.draw.ensures)

pub returns : goal.returns
returns c =
    let all : c.loop-z.z-index ≡ 4 = omega arith in
    let drawn = rw all at c.loop-z.invariant in
    (drawn.long, all_fresh drawn)
