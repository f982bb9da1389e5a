-- What was seen decides the numbers passed, by whichever test the closure makes.
use Rattle.std.proofs.Common.{◌≡◌, Bool, take}
use Rattle.std.specs.List.{list_all}
use Rattle.maps.proofs.opened.all_pass.Given as goal

abbrev pub invariant-loop-number : goal.invariant-loop-number
invariant-loop-number g l =
    (test : g.row.T.Denot → Bool) → ((x : g.row.T.Denot) (r : Bool) → g.F.Fn.post l.passes (x, tt) r → r ≡ test x) →
    l.all ≡ list_all test (take l.number-index l.numbers)
