-- `maps::Map::place` meets its contract.
use Rattle.maps.specs.Calls.{table_place}
use Rattle.maps.proofs.Changing.{opened_ok, refused_with, handed_on}
use Rattle.maps.proofs.Map.place.Goals as goal

pub returns-in_err-open : goal.returns-in_err-open
unfolding table_place
returns-in_err-open c =
    let r = handed_on c.args.self.now c.from_residual.result _ c.from_residual.ensures.1 c.in_err-open.ensures in
    rw (r.1.1, r.1.2) (refused_with c.args.self.now _ _ r.0)

pub returns : goal.returns
returns c = rw (opened_ok _ c.in_ok-open.field-0 c.in_ok-open.ensures).1 at c.place.ensures
