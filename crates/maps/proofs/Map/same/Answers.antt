-- `maps::Map::same` meets its contract.
use Rattle.maps.proofs.Changing.{opened_ok, handed_on}
use Rattle.maps.proofs.SameMaps.{first_bad, second_bad}
use Rattle.maps.proofs.Map.same.Goals as goal

pub returns-in_err-open : goal.returns-in_err-open
returns-in_err-open c =
    let r = handed_on c.args.self.now c.from_residual.result _ c.from_residual.ensures.1 c.in_err-open.ensures in
    rw (r.1.1, r.1.2) (first_bad c.args.self.now c.args.other.now r.0)

pub returns-in_err-open-2 : goal.returns-in_err-open-2
returns-in_err-open-2 c =
    let f = c.from_residual-in_err-open-2 in
    let r = handed_on c.args.other.now f.result _ f.ensures.1 c.in_err-open-2.ensures in
    rw (r.1.1, r.1.2) (second_bad c.args.self.now c.args.other.now r.0)

pub returns : goal.returns
returns c =
    rw ((opened_ok _ c.in_ok-open.field-0 c.in_ok-open.ensures).1, (opened_ok _ c.in_ok-open-2.field-0 c.in_ok-open-2.ensures).1) at c.same.ensures
