-- `maps::opened::Opened::place` meets its contract.
use Rattle.std.proofs.Common.{arith}
use Rattle.maps.proofs.Changing.{open_map, few}
use Rattle.maps.proofs.Asking.{place_none, place_some}
use Rattle.maps.proofs.opened.Opened.place.Goals as goal

pub returns-then-self-i : goal.returns-then-self-i
returns-then-self-i c = place_none (open_map c.args.self.now) _ c.if-self-i.true

pub offset_bounds-self-i : goal.offset_bounds-self-i
offset_bounds-self-i c = omega (arith, few (open_map c.args.self.now))

pub bounds-self-i : goal.bounds-self-i
bounds-self-i c = omega (arith, few (open_map c.args.self.now))

pub offset_bounds-self-i-2 : goal.offset_bounds-self-i-2
offset_bounds-self-i-2 c = omega (arith, few (open_map c.args.self.now))

pub bounds-self-i-2 : goal.bounds-self-i-2
bounds-self-i-2 c = omega (arith, few (open_map c.args.self.now))

pub bounds-self-i-3 : goal.bounds-self-i-3
bounds-self-i-3 c = omega (arith, few (open_map c.args.self.now))

pub returns : goal.returns
returns c = rw (c.from.ensures, c.from-2.ensures, c.from-3.ensures) (place_some (open_map c.args.self.now) _ c.if-self-i.false)
