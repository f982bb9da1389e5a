-- `files::listing::Text::digits` meets its contract: the digits before the last are those of a tenth.
use Rattle.std.proofs.Common.{arith, ◌+◌, ◌/◌, ◌%◌, [], ◌∷◌}
use Rattle.files.specs.Listing.{digits}
use Rattle.files.proofs.Texts.{text_first, text_next, text_then, one_digit, more_digits}
use Rattle.files.proofs.listing.Text.+digits.Goals.{then-n-ge10, else-n-ge10}
use Rattle.files.proofs.listing.Text.+digits.Goals as goal

pub digits-requires : goal.digits-requires
digits-requires t c =
    (omega (arith, c.decreases), text_first c.args.self.now (digits (c.args.n / 10)) _ (rw (more_digits c.args.n c.if-n-ge10.true) at c.requires))

pub byte-requires : goal.byte-requires
byte-requires t c =
    let n = c.args.n in
    elim c.if-n-ge10.branch [
      | then-n-ge10 w ↦ rw w.self-is
          (text_next c.args.self.now (digits (n / 10)) ((48 + n % 10) ∷ []) (rw (more_digits n w.if-n-ge10.true) at c.requires) w.digits.ensures)
      | else-n-ge10 w ↦ rw w.self-is (rw (one_digit n w.if-n-ge10.false) at c.requires)
    ]

pub returns : goal.returns
returns t c =
    let n = c.args.n in
    elim c.if-n-ge10.branch [
      | then-n-ge10 w ↦ let e = more_digits n w.if-n-ge10.true in
          rw e (text_then c.args.self.now (digits (n / 10)) ((48 + n % 10) ∷ []) (rw e at c.requires) w.digits.ensures (rw w.self-is at c.byte.ensures))
      | else-n-ge10 w ↦ rw (one_digit n w.if-n-ge10.false) (rw w.self-is at c.byte.ensures)
    ]
