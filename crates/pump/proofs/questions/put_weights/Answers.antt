-- `pump::questions::put_weights` meets its contract.
use Rattle.std.proofs.Common.{arith, refl, ◌≤◌, ◌<◌, ◌+◌, ◌*◌, ◌∙◌, length}
use native.Mathlib.Nat.{zero-add}
use Rattle.maps.specs.Calls.{no_weight}
use Rattle.files.proofs.Putting.{some_none, some_room, some_more, some_done, words_fit}
use Rattle.pump.specs.Border.{weight_bytes}
use Rattle.pump.proofs.questions.put_weights.Goals as goal

pub loop-i-init : goal.loop-i-init
loop-i-init c = some_none weight_bytes 16 _ _ 0

pub loop-i-preserved : goal.loop-i-preserved
loop-i-preserved c =
    let room : 0 + 16 * length c.args.entries.now ≤ length c.args.out.now = omega (arith, c.told-entries) in
    let here : c.loop-i.i < length c.args.entries.now = omega (arith, c.told-entries) in
    let fits = some_room weight_bytes 16 _ _ 0 (λ e. refl) room c.loop-i.invariant here in
    some_more weight_bytes 16 _ _ 0 (λ e. refl) room c.loop-i.invariant no_weight _ here
    (rw zero-add (rw c.words_of-words.ensures at c.put_words.ensures ∙ words_fit _ _ _ (omega (arith, fits))))

pub returns : goal.returns
returns c =
    let room : 0 + 16 * length c.args.entries.now ≤ length c.args.out.now = omega (arith, c.told-entries) in
    some_done weight_bytes 16 _ _ 0 (λ e. refl) room c.loop-i.invariant (omega (arith, c.told-entries))
