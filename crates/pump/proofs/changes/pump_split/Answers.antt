-- `pump_split` meets its contract: its step does what the call does.
use Rattle.std.proofs.Common.{rules, ◌∙◌}
use Rattle.maps.specs.Calls.{split_within}
use Rattle.pump.specs.Border.{split_of}
use Rattle.pump.proofs.changes.pump_split.Goals as goal

pub returns : goal.returns
returns c =
    let a = c.args in
    let s = split_of a.direction a.position a.from a.to in
    let put = c.change_in.ensures (λ old. split_within old s a.allowance) (λ old next r s. search rules) in
    (c.number.ensures ∙ put.0, put.1, put.2)
