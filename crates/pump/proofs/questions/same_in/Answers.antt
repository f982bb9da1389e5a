-- `pump::questions::same_in` meets its contract: either file is none, or the maps are compared.
use Rattle.std.proofs.Common.{rules, refl, Err, ◌≡◌}
use Rattle.pump.specs.Border.{same_number, same_yes}
use Rattle.pump.proofs.Refusals.{refused, refuses_at}
use Rattle.pump.proofs.questions.same_in.Goals as goal

pub returns-in_err-left : goal.returns-in_err-left
unfolding same_number same_yes
returns-in_err-left c =
    let is : c.from_residual.result ≡ Err c.in_err-left.field-0.0 = search rules in
    let none = refused is (refuses_at _ refl _) 0 _ in
    rw (← c.in_err-left.ensures) (none.0, rw is none.1)

pub returns-in_err-right : goal.returns-in_err-right
unfolding same_number same_yes
returns-in_err-right c =
    let is : c.from_residual-in_err-right.result ≡ Err c.in_err-right.field-0.0 = search rules in
    let none = refused is (refuses_at _ refl _) 0 _ in
    rw (← c.in_ok-left.ensures, ← c.in_err-right.ensures) (none.0, rw is none.1)

pub returns : goal.returns
unfolding same_number same_yes
returns c = rw (← c.in_ok-left.ensures, ← c.in_ok-right.ensures) (rw (← c.same.ensures) (refl, refl))
