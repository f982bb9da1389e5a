-- The map of the splits so far is carried, and those that are left decide.
use Rattle.mesh.proofs.Replaying.{Replaying}
use Rattle.mesh.proofs.replay.replay_in.Given as goal

abbrev pub invariant-loop-s : goal.invariant-loop-s
invariant-loop-s g l = Replaying l.lines l.s-index l.drawing
