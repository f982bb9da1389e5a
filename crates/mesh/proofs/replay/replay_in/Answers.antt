-- `mesh::replay::replay_in` meets its contract: one step after the other, up to one that is refused.
use Rattle.std.proofs.Common.{◌≡◌, sym, length, rules, arith}
use Rattle.mesh.specs.Lines.{splits_of}
use Rattle.mesh.proofs.Carrying.{by_walks, by_short}
use Rattle.mesh.proofs.Replaying.{replay_none, step_stops, replay_more, replay_done}
use Rattle.mesh.proofs.replay.replay_in.Goals as goal

pub clear-drawing-requires : goal.clear-drawing-requires
clear-drawing-requires g c = (search rules, (c.requires.3, c.requires.4))

pub load_fresh-requires : goal.load_fresh-requires
load_fresh-requires g c =
    let clear = c.clear-drawing.ensures in (search rules, (clear.0, rw clear.1 c.requires.0, rw clear.2 c.requires.1))

pub loop-s-init : goal.loop-s-init
loop-s-init g c = let clear = c.clear-drawing.ensures in replay_none c.args.lines.now (rw (clear.1, clear.2) at c.load_fresh.ensures)

pub step-requires : goal.step-requires
step-requires g c = (search rules, (omega arith, (_, c.loop-s.invariant.carried)))

pub returns-then-is_err : goal.returns-then-is_err
returns-then-is_err g c =
    let r = c.loop-s.invariant in
    step_stops r c.loop-s-test.true c.step.result (c.step.ensures.told _ r.carried) (sym c.if-is_err.ensures.value)

pub loop-s-preserved : goal.loop-s-preserved
loop-s-preserved g c =
    let r = c.loop-s.invariant in
    replay_more r c.loop-s-test.true c.step.result (c.step.ensures.told _ r.carried) (sym c.if-is_err.ensures.value) (c.step.ensures.drawn _ r.carried)

pub read_out-requires : goal.read_out-requires
read_out-requires g c = let now = c.loop-s.invariant.carried in (search rules, (by_walks now, by_short now))

pub returns : goal.returns
returns g c =
    let L = c.args.lines.now in
    let last : c.loop-s.s-index ≡ length (splits_of L) = omega arith in
    rw c.read_out.ensures (replay_done c.loop-s.invariant c.requires.2 last)
