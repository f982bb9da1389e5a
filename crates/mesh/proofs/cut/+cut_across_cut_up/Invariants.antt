-- Each hands the halves of a cut to the other, one after the other, or the blend as it is where it does not cut it.
use Rattle.mesh.specs.declared.Direction.TheVariants.{Upright as upright, Level as level}
use Rattle.mesh.specs.Bytes.{bytes_mesh}
use Rattle.mesh.proofs.Cutting.{ahead, Handed}
use Rattle.mesh.proofs.cut.+cut_across_cut_up.Given as goal

abbrev pub decreases-cut_across : goal.decreases-cut_across
decreases-cut_across l = ahead l.x l.tried

abbrev pub decreases-cut_up : goal.decreases-cut_up
decreases-cut_up l = ahead l.x l.tried

abbrev pub invariant-cut_across-loop-side : goal.invariant-cut_across-loop-side
invariant-cut_across-loop-side l = Handed (bytes_mesh l.uprights l.levels) upright l.fn.x l.side-items l.side-index l.initial.places l.places

abbrev pub invariant-cut_up-loop-side : goal.invariant-cut_up-loop-side
invariant-cut_up-loop-side l = Handed (bytes_mesh l.uprights l.levels) level l.fn.x l.side-items l.side-index l.initial.places l.places
