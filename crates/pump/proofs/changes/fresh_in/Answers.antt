-- `pump::changes::fresh_in` meets its contract: the sides are refused, or the fresh map is put.
use Rattle.std.proofs.Common.{rules, ap}
use Rattle.maps.specs.Outcomes.{Changed}
use Rattle.maps.specs.Calls.{fresh_map}
use Rattle.pump.proofs.Changing.{call_refuses}
use Rattle.pump.proofs.changes.fresh_in.Goals as goal

pub returns-in_err-fresh : goal.returns-in_err-fresh
returns-in_err-fresh c =
    let a = c.args in
    call_refuses {e = c.in_err-fresh.field-0.0} (search rules) (fresh_map a.w a.h) a.buffer.now a.used.now
    (ap (λ (n : Changed). n.number) c.in_err-fresh.ensures)
