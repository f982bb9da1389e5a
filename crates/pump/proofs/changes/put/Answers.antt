-- `pump::changes::put` meets its contract: what putting the file answers.
use Rattle.std.proofs.Common.{rules, refl, sym, ap, ◌≡◌, ◌∙◌, ℕ, length, Err}
use Rattle.maps.specs.Record.{plain}
use Rattle.mesh.proofs.Refused.{refuses}
use Rattle.files.specs.File.{file_of}
use Rattle.files.specs.Calls.{Written, write_number}
use Rattle.files.specs.Told.{number_in}
use Rattle.pump.specs.Border.{new_number, new_bytes, new_used}
use Rattle.pump.proofs.Refusals.{stays, gives}
use Rattle.pump.proofs.changes.put.Goals as goal

pub returns-in_err-used : goal.returns-in_err-used
unfolding new_number new_bytes new_used
returns-in_err-used c =
    let e = c.in_err-used.field-0.0 in
    let is : c.from_residual.result ≡ Err e = search rules in
    let told = ap (λ (w : Written). w.number) c.in_err-used.ensures.0 in
    (ap number_in is ∙ told, c.write_opened.ensures.1, stays _ _ told (refuses e))

pub returns : goal.returns
unfolding new_number new_bytes new_used
returns c =
    let told = c.in_ok-used.ensures.0 in
    let yes : ◌≡◌ {A = ℕ} 0 (write_number c.args.next.now.map c.args.buffer.now) = ap (λ (w : Written). w.number) told in
    let size = length (file_of (plain c.args.next.now.map)) in
    (yes, c.write_opened.ensures.1, ap (λ (w : Written). w.length) told ∙ sym (gives 0 size yes refl) ∙ gives _ size yes refl)
