-- `files::take::Places::of` meets its contract: no file has the lengths that are refused.
use Rattle.std.proofs.Common.{arith, ◌≡◌, ◌*◌, ◌-◌, ◌/◌, ◌≤◌, ◌<◌, ◌∙◌, ℕ, Bool, true, false, sym, ap, length}
use mathlib.Core.Path.{ap₂}
use Rattle.files.specs.File.{value_size, is_old}
use Rattle.files.proofs.RoundTrip.{is_refused}
use Rattle.files.proofs.Taking.{count_few, form_told}
use Rattle.files.proofs.Reading.{file_lengths}
use Rattle.files.proofs.take.Places.of.Goals.{After-value_size}
use Rattle.files.proofs.take.Places.of.Goals as goal

pub overflow_mul-splits : goal.overflow_mul-splits
overflow_mul-splits c = omega (arith, count_few c.args.bytes.now 8 60)

pub overflow_add-splits : goal.overflow_add-splits
overflow_add-splits c = omega (arith, count_few c.args.bytes.now 8 60)

pub returns-in_err-room : goal.returns-in_err-room
returns-in_err-room c =
    rw c.from_residual.ensures
    (sym (is_refused c.args.bytes.now (λ g e. c.in_err-room.ensures (omega (arith, (file_lengths c.args.bytes.now g e).least, c.count_splits-splits.ensures)))))

-- the size of a value in the form of the bytes
size_is : (c : After-value_size) → c.value_size.result ≡ value_size (is_old c.args.bytes.now)
size_is c = c.value_size.ensures ∙ ap value_size (form_told c.args.bytes.now _ _ c.count_splits-splits.ensures c.word_at.ensures)

too_many : (old : Bool) (n : ℕ) → n ≤ value_size old * 1024 → 1024 < n / value_size old → ⊥
too_many true n le lt = omega arith
too_many false n le lt = omega arith

pub returns-then-values-gt-MOST_BLENDS : goal.returns-then-values-gt-MOST_BLENDS
returns-then-values-gt-MOST_BLENDS c =
    let bytes = c.args.bytes.now in
    let size = size_is (goal.at.returns-then-values-gt-MOST_BLENDS c).After-value_size in
    sym (is_refused bytes (λ g e.
    too_many (is_old bytes) c.in_ok-room.room (omega (arith, (file_lengths bytes g e).most, c.count_splits-splits.ensures, c.in_ok-room.ensures))
    (rw size at c.if-values-gt-MOST_BLENDS.true)))

pub invariant_of-result : goal.invariant_of-result
invariant_of-result c =
    let left : c.in_ok-room.room ≡ length c.args.bytes.now - 12 - 12 * c.count_splits-splits.result = omega (arith, c.in_ok-room.ensures) in
    record {
      stand =
          record {
            are_splits = c.count_splits-splits.ensures;
            is_form = form_told c.args.bytes.now _ _ c.count_splits-splits.ensures c.word_at.ensures;
            are_values = ap₂ ◌/◌ left c.value_size.ensures;
            few = c.if-values-gt-MOST_BLENDS.false;
            room = omega (arith, c.in_ok-room.ensures);
          };
    }
