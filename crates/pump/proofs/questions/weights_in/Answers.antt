-- `pump::questions::weights_in` meets its contract: a refusal, or the four weights' numbers put in front.
use Rattle.std.proofs.Common.{rules, refl, ap}
use borrow.Author.Tests.{lt-ltb, le-ltb}
use native.Mathlib.Nat.{zero-add}
use Rattle.maps.specs.Outcomes.{Weights}
use Rattle.pump.specs.Border.{weights_number, weights_after}
use Rattle.pump.proofs.Refusals.{refused, refuses_at}
use Rattle.pump.proofs.questions.weights_in.Goals as goal

pub returns-in_err-read_opened : goal.returns-in_err-read_opened
unfolding weights_number weights_after
returns-in_err-read_opened c =
    rw (← c.in_err-read_opened.ensures)
    (refused {e = c.in_err-read_opened.field-0.0} (search rules) (refuses_at _ refl _) _ _)

pub returns-in_err-four : goal.returns-in_err-four
unfolding weights_number weights_after
returns-in_err-four c =
    rw (← c.in_ok-read_opened.ensures)
    (refused {e = c.in_err-four.field-0.0} (search rules) (refuses_at _ (ap (λ (w : Weights). w.number) c.in_err-four.ensures) _) _ _)

pub returns-then-out-lt64 : goal.returns-then-out-lt64
unfolding weights_number weights_after
returns-then-out-lt64 c =
    rw (← c.in_ok-read_opened.ensures) (rw (← c.in_ok-four.ensures, lt-ltb _ _ c.if-out-lt64.true) (refl, refl))

pub returns : goal.returns
unfolding weights_number weights_after
returns c =
    rw (← c.in_ok-read_opened.ensures)
    (rw (← c.in_ok-four.ensures, le-ltb _ _ c.if-out-lt64.false) (refl, rw zero-add at c.put_weights.ensures))
