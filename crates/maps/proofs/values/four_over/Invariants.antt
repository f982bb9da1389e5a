-- The entries found are the last of the four, and those that remain follow them. A walk from the start finds all, so it is begun anew once at most.
use Rattle.std.proofs.Common.{◌+◌, ◌-◌, ◌*◌, length}
use lib.ListN.{drop}
use Rattle.mesh.specs.Sound.{over_square}
use Rattle.maps.specs.Inner.{entries_over}
use Rattle.maps.proofs.OverSquare.{Window}
use Rattle.maps.proofs.values.four_over.Given as goal

abbrev pub invariant-loop-found : goal.invariant-loop-found
invariant-loop-found l =
    Window (entries_over (over_square l.x l.y) (drop l.from l.blends) l.from)
    (entries_over (over_square l.x l.y) (drop l.i l.blends) l.i) l.found l.four

abbrev pub decreases-loop-found : goal.decreases-loop-found
decreases-loop-found l = l.from * 1025 + (length l.blends - l.i)
