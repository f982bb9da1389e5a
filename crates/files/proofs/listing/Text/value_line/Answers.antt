-- `files::listing::Text::value_line` meets its contract: the value, a blank and the mark in a row.
use Rattle.std.proofs.Common.{[], ◌∷◌}
use Rattle.files.specs.Listing.{digits, number_line, value_line}
use Rattle.files.proofs.Texts.{writes_three}
use Rattle.files.proofs.listing.Text.value_line.Goals as goal

pub returns : goal.returns
unfolding value_line
returns c = writes_three c.args.self.now (digits c.args.value) (32 ∷ []) (number_line c.args.mark) c.requires c.digits.ensures c.byte.ensures c.number_line.ensures
