-- `pump_set` meets its contract: its step does what the call does.
use Rattle.std.proofs.Common.{rules, ◌∙◌}
use Rattle.pump.specs.Border.{set_wide}
use Rattle.pump.proofs.changes.pump_set.Goals as goal

pub returns : goal.returns
returns c =
    let a = c.args in
    let put = c.change_in.ensures (λ old. set_wide old a.m a.n a.value) (λ old next r s. search rules) in
    (c.number.ensures ∙ put.0, put.1, put.2)
