-- `files::bytes::size_at` meets its contract: each refusal is one test of `whole` that fails.
use Rattle.std.proofs.Common.{arith, ◌∙◌}
use mathlib.Core.Logic.{⊎_elim}
use Rattle.files.proofs.Whole.{size_none, size_whole}
use Rattle.files.proofs.bytes.size_at.Goals as goal

pub returns-in_err-checked_sub : goal.returns-in_err-checked_sub
returns-in_err-checked_sub c = c.from_residual.ensures ∙ size_none _ _ (λ w. c.in_err-checked_sub.ensures (omega (arith, w.start)))

pub returns-in_err-room : goal.returns-in_err-room
returns-in_err-room c =
    c.from_residual-in_err-room.ensures ∙ size_none _ _ (λ w. c.in_err-room.ensures (omega (arith, w.start, c.in_ok-checked_sub.ensures)))

pub returns-then-size-room : goal.returns-then-size-room
returns-then-size-room c =
    let is = c.from-size.ensures ∙ c.word_at.ensures in
    size_whole c.args.bytes.now c.args.at
    (record {
      start = omega (arith, c.in_ok-checked_sub.ensures, c.in_ok-room.ensures);
      size = omega (arith, is);
      end = omega (arith, is, c.in_ok-checked_sub.ensures, c.in_ok-room.ensures);
    })
    is

pub returns-else-size-ge2 : goal.returns-else-size-ge2
returns-else-size-ge2 c =
    let is = c.from-size.ensures ∙ c.word_at.ensures in
    size_none _ _ (λ w.
    ⊎_elim (λ f. omega (arith, w.end, is, f.1, c.in_ok-checked_sub.ensures, c.in_ok-room.ensures)) (λ f. omega (arith, w.size, is, f)) c.else-size-ge2.either)
