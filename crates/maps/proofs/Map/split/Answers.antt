-- `maps::Map::split` meets its contract.
use Rattle.maps.specs.Calls.{split_within}
use Rattle.maps.proofs.Changing.{opened_ok, refused_with, handed_on, split_kept, call_refused}
use Rattle.maps.proofs.Map.split.Goals as goal

pub returns-in_err-opened : goal.returns-in_err-opened
unfolding split_within
returns-in_err-opened c =
    let r = handed_on c.args.self.now c.from_residual.result _ c.from_residual.ensures.1 c.in_err-opened.ensures in
    rw (r.1.1, r.1.2) (refused_with c.args.self.now _ _ r.0)

pub returns-in_err-split : goal.returns-in_err-split
returns-in_err-split c =
    call_refused (split_kept c.args.self.now _ _) c.from_residual-in_err-split.result _ c.from_residual-in_err-split.ensures.1 _
    (rw (opened_ok _ c.in_ok-opened.opened c.in_ok-opened.ensures).1 at c.in_err-split.ensures)

pub returns : goal.returns
returns c = rw (opened_ok _ c.in_ok-opened.opened c.in_ok-opened.ensures).1 at c.in_ok-split.ensures
