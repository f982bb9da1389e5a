-- `maps::Map::set` meets its contract.
use Rattle.maps.specs.Calls.{set_value}
use Rattle.maps.proofs.Changing.{opened_ok, refused_with, handed_on, set_kept, call_refused}
use Rattle.maps.proofs.Map.set.Goals as goal

pub returns-in_err-opened : goal.returns-in_err-opened
unfolding set_value
returns-in_err-opened c =
    let r = handed_on c.args.self.now c.from_residual.result _ c.from_residual.ensures.1 c.in_err-opened.ensures in
    rw (r.1.1, r.1.2) (refused_with c.args.self.now _ _ r.0)

pub returns-in_err-set : goal.returns-in_err-set
returns-in_err-set c =
    call_refused (set_kept c.args.self.now _ _ _) c.from_residual-in_err-set.result _ c.from_residual-in_err-set.ensures.1 _
    (rw (opened_ok _ c.in_ok-opened.opened c.in_ok-opened.ensures).1 at c.in_err-set.ensures)

pub returns : goal.returns
returns c = rw (opened_ok _ c.in_ok-opened.opened c.in_ok-opened.ensures).1 at c.in_ok-set.ensures
