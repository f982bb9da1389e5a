-- `pump::questions::place_in` meets its contract: a refusal, or the entry's numbers put in front.
use Rattle.std.proofs.Common.{arith, rules, refl, ap, ◌∙◌, ◌≡◌, ◌<◌, List, ℕ, length}
use borrow.Author.Tests.{lt-ltb, le-ltb}
use Rattle.maps.specs.Outcomes.{Placed}
use Rattle.maps.specs.Calls.{table_place}
use Rattle.files.specs.Calls.{read_file}
use Rattle.files.proofs.Putting.{words_fit}
use Rattle.pump.specs.Border.{place_number, place_after}
use Rattle.pump.proofs.Refusals.{refused, refuses_at}
use Rattle.pump.proofs.questions.place_in.Goals as goal

pub returns-in_err-read_opened : goal.returns-in_err-read_opened
unfolding place_number place_after
returns-in_err-read_opened c =
    rw (← c.in_err-read_opened.ensures)
    (refused {e = c.in_err-read_opened.field-0.0} (search rules) (refuses_at _ refl _) _ _)

pub returns-in_err-entry : goal.returns-in_err-entry
unfolding place_number place_after
returns-in_err-entry c =
    rw (← c.in_ok-read_opened.ensures)
    (refused {e = c.in_err-entry.field-0.0} (search rules) (refuses_at _ (ap (λ (p : Placed). p.number) c.in_err-entry.ensures) _) _ _)

-- bytes for an answer that are too few count where the file and the place are not refused
too_few : (file : List ℕ) (i : ℕ) (out : List ℕ) → (read_file file).number ≡ 0 → (table_place (read_file file).map i).number ≡ 0 →
    length out < 16 → (12 ≡ place_number file i out) × (out ≡ place_after file i out)
unfolding place_number place_after
too_few file i out read found lt = rw (read, found, lt-ltb _ _ lt) (refl, refl)

pub returns-then-out-lt16 : goal.returns-then-out-lt16
returns-then-out-lt16 c = too_few _ _ _ (grind arith) (grind arith) (grind arith)

pub returns : goal.returns
unfolding place_number place_after
returns c =
    rw (← c.in_ok-read_opened.ensures)
    (rw (← c.in_ok-entry.ensures, le-ltb _ _ c.if-out-lt16.false) (refl, rw c.words_of.ensures at c.put_words.ensures ∙ words_fit _ _ _ c.if-out-lt16.false))
