-- The sum is that of the entries from the k-th on, and small.
use Rattle.std.proofs.Common.{◌-◌, ◌≡◌}
use lib.ListN.{drop}
use Rattle.axis.specs.Fraction.{total}
use Rattle.maps.specs.Inner.{portions, fraction_of, SumOf}
use Rattle.maps.proofs.values.reading_over.Given as goal

abbrev pub invariant-loop-k : goal.invariant-loop-k
invariant-loop-k l = SumOf (4 - l.k) l.sum × (fraction_of l.sum ≡ total (portions l.x l.y l.u l.v l.values (drop l.k l.four)))
