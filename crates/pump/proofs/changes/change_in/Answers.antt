-- `pump::changes::change_in` meets its contract: the buffer holds no file, or the step refuses, or its map is put.
use Rattle.std.proofs.Common.{rules, ap, subst}
use Rattle.maps.specs.Outcomes.{Changed}
use Rattle.files.specs.Calls.{read_file}
use Rattle.files.specs.Told.{number_in}
use Rattle.pump.specs.Border.{lent}
use Rattle.pump.proofs.Changing.{Ends, no_file, call_refuses}
use Rattle.pump.proofs.changes.change_in.Goals as goal

pub returns-in_err-map : goal.returns-in_err-map
returns-in_err-map g c call does =
    let a = c.args in
    let file = read_file (lent a.buffer.now a.used.now) in
    no_file {e = c.in_err-map.field-0.0} (search rules) (call file.map) a.buffer.now a.used.now (ap (λ (n : Changed). n.number) c.in_err-map.ensures)

pub returns-in_err-step_on : goal.returns-in_err-step_on
returns-in_err-step_on g c call does =
    let a = c.args in
    let refused = does _ _ _ c.in_err-step_on.ensures in
    subst (λ (file : Changed). Ends file.number (call file.map) a.buffer.now a.used.now (number_in c.from_residual-in_err-step_on.result) a.buffer.now a.used.now)
    c.in_ok-map.ensures
    (call_refuses {e = c.in_err-step_on.field-0.0} (search rules) _ a.buffer.now a.used.now (ap (λ (n : Changed). n.number) refused))
