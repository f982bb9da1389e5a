-- `files::listing::Text::knots` meets its contract: three coordinates in a row.
use Rattle.files.specs.Listing.{spaced, knots}
use Rattle.files.proofs.Texts.{writes_three}
use Rattle.files.proofs.listing.Text.knots.Goals as goal

pub returns : goal.returns
unfolding knots
returns c = let t = c.args.triple in writes_three c.args.self.now (spaced t.l) (spaced t.m) (spaced t.r) c.requires c.spaced.ensures c.spaced-2.ensures c.spaced-3.ensures
