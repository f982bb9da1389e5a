-- `maps::values::weight_at` meets its contract.
use Rattle.std.proofs.Common.{arith, refl, ◌*◌, ◌<◌, ◌≤◌}
use Rattle.axis.specs.Gap.{gap, share}
use Rattle.mesh.proofs.Cuts.{proper_facts}
use Rattle.maps.specs.Values.{weight_at}
use Rattle.maps.proofs.OverSquare.{denominator_positive, denominator_most, numerator_most}
use Rattle.maps.proofs.values.weight_at.Goals as goal
use Rattle.maps.proofs.values.weight_at.Goals.{Start}

-- the weight of a proper blend is a fraction of small numbers
small : (c : Start) → let a = c.args in
    (share a.b.across a.x a.u * share a.b.up a.y a.v ≤ 16641) ×
    (0 < gap a.b.across a.x * gap a.b.up a.y) × (gap a.b.across a.x * gap a.b.up a.y ≤ 16641)
small c =
    let a = c.args in
    let ok = proper_facts 128 128 a.b c.requires.0 in (
      numerator_most a.b ok a.x a.y a.u a.v (omega arith) (omega arith),
      denominator_positive a.b ok a.x a.y,
      denominator_most a.b ok a.x a.y,
    )

pub overflow_mul-result : goal.overflow_mul-result
overflow_mul-result c = rw (c.share_at.ensures, c.share_at-2.ensures) (omega (arith, (small (goal.at.overflow_mul-result c).Start).0))

pub overflow_mul-result-2 : goal.overflow_mul-result-2
overflow_mul-result-2 c = rw (c.gap_at.ensures, c.gap_at-2.ensures) (omega (arith, (small (goal.at.overflow_mul-result-2 c).Start).2))

pub returns : goal.returns
unfolding weight_at
returns c =
    let s = small (goal.at.returns c).Start in
    rw (c.from.ensures, c.share_at.ensures, c.share_at-2.ensures, c.gap_at.ensures, c.gap_at-2.ensures)
    (refl, record { positive = s.1; low = s.2; most = s.0 })
