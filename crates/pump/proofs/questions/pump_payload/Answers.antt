-- `pump_payload` meets its contract: the part that `payload` hands back begins four bytes on.
use Rattle.std.proofs.Common.{arith, refl, ap, ◌∙◌, length}
use Rattle.mesh.proofs.Refused.{refuses}
use Rattle.files.proofs.Whole.{whole_of, no_payload, some_payload}
use Rattle.pump.specs.Border.{payload_from}
use Rattle.pump.proofs.questions.pump_payload.Goals as goal

pub overflow_add-from : goal.overflow_add-from
overflow_add-from c = omega (arith, some_payload _ _ _ c.in-Ok.ensures.1 refl)

pub returns-in-Ok : goal.returns-in-Ok
unfolding payload_from
returns-in-Ok c =
    let part = c.in-Ok.ensures in
    (part.1, rw (whole_of _ _ (some_payload _ _ _ part.1 refl)), ap length part.0)

pub returns-in-Err : goal.returns-in-Err
unfolding payload_from
returns-in-Err c =
    let part = c.in-Err.ensures in
    let none = no_payload _ _ _ part.1 (refuses c.in-Err.refusal) in
    (c.number.ensures ∙ part.1, rw none, ap length part.0)
