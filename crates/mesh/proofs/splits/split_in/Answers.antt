-- `mesh::splits::split_in` meets its contract: one step, with the line found.
use Rattle.std.proofs.Common.{◌≡◌, refl, length, arith, rules}
use Rattle.std.proofs.lemmas.Result.{err_from_is_err_and}
use Rattle.mesh.proofs.Accepted.{lines_replay}
use Rattle.mesh.proofs.Carrying.{by_walks, by_short}
use Rattle.mesh.proofs.Replaying.{refusal_not_zero, verdict_told, verdict_drawn}
use Rattle.mesh.proofs.splits.split_in.Goals as goal

pub clear-drawing-requires : goal.clear-drawing-requires
clear-drawing-requires g c = (search rules, (c.requires.2, c.requires.3))

pub load-requires : goal.load-requires
load-requires g c = let clear = c.clear-drawing.ensures in (search rules, (c.requires.1, clear.0, clear.1, clear.2))

pub step-requires : goal.step-requires
step-requires g c = (search rules, (c.requires.0, (_, c.load.ensures)))

pub returns-in_err-line : goal.returns-in_err-line
returns-in_err-line g c =
    let a = c.args in
    let L = a.lines.now in
    let full : length L.splits ≡ 60 = omega arith in
    let e = c.in_err-line.field-0.0 in
    let p = err_from_is_err_and c.from_residual.result c.from_residual.ensures.1 in
    rw (p.1, p.2) (verdict_told L a.table.now a.s a.allowance c.requires.0 (lines_replay L full c.requires.1.accepted?)
    (c.in_err-line.ensures.told _ c.load.ensures) (refusal_not_zero e))

pub read_out-after-requires : goal.read_out-after-requires
read_out-after-requires g c =
    let now = c.in_ok-line.ensures.drawn _ c.load.ensures in (search rules, (by_walks now, by_short now))

pub returns : goal.returns
returns g c =
    let a = c.args in
    let L = a.lines.now in
    let full : length L.splits ≡ 60 = omega arith in
    let step = c.in_ok-line.ensures in
    verdict_drawn L a.table.now a.s a.allowance c.requires.0 (lines_replay L full c.requires.1.accepted?) (step.told _ c.load.ensures) refl
    (step.drawn _ c.load.ensures) c.read_out-after.ensures
