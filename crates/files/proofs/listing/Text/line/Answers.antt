-- `files::listing::Text::line` meets its contract: two triples, then the value and its mark, in a row.
use Rattle.files.specs.Listing.{knots, value_line, line}
use Rattle.files.proofs.Texts.{writes_three}
use Rattle.files.proofs.listing.Text.line.Goals as goal

pub returns : goal.returns
unfolding line
returns c = let e = c.args.entry in writes_three c.args.self.now (knots e.blend.across) (knots e.blend.up) (value_line e.value e.mark) c.requires c.knots.ensures c.knots-2.ensures
    (rw (c.from.ensures, c.from-2.ensures) at c.value_line.ensures)
