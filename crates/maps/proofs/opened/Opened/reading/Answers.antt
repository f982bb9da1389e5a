-- `maps::opened::Opened::reading` meets its contract.
use Rattle.std.proofs.Common.{◌∙◌, sym}
use Rattle.maps.proofs.Changing.{open_map}
use Rattle.maps.proofs.Asking.{reading_out, at_point, reading_in}
use Rattle.maps.proofs.opened.Opened.reading.Goals as goal

pub returns-then-not-contains : goal.returns-then-not-contains
returns-then-not-contains c = reading_out (open_map c.args.self.now) _ _ (sym c.contains.ensures ∙ c.if-not-contains.true)

pub reading_at-requires : goal.reading_at-requires
reading_at-requires c = let p = at_point (open_map c.args.self.now) _ _ (sym c.contains.ensures ∙ c.if-not-contains.false) in (p.7, p.8)

pub returns : goal.returns
returns c = rw c.reading_at.ensures (reading_in (open_map c.args.self.now) _ _ (sym c.contains.ensures ∙ c.if-not-contains.false))
