-- `maps::values::Sum::plus` meets its contract: each of its numbers is at most one of the sum, which is small.
use Rattle.std.proofs.Common.{arith, ◌*◌, ◌≤◌}
use Rattle.std.proofs.Math.Nat.{mul-le-mul}
use Rattle.maps.proofs.Adding.{more_exact, more_small}
use Rattle.maps.proofs.values.Sum.plus.Goals as goal

pub returns : goal.returns
returns c =
    let a = c.args in
    let w = a.weight in
    let light = c.requires.1 in
    let short : a.value ≤ 65535 = omega arith in
    rw c.from.ensures
    (more_exact a.self (w.numerator * a.value) w.denominator, more_small a.self _ _ light.positive light.low (mul-le-mul light.most short))
