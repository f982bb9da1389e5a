-- `maps::opened::Opened::weights` meets its contract.
use Rattle.std.proofs.Common.{◌∙◌, sym}
use Rattle.maps.proofs.Changing.{open_map}
use Rattle.maps.proofs.Asking.{weights_out, at_point, weights_in}
use Rattle.maps.proofs.opened.Opened.weights.Goals as goal

pub returns-then-not-contains : goal.returns-then-not-contains
returns-then-not-contains c = weights_out (open_map c.args.self.now) _ _ (sym c.contains.ensures ∙ c.if-not-contains.true)

pub weights_at-requires : goal.weights_at-requires
weights_at-requires c = let p = at_point (open_map c.args.self.now) _ _ (sym c.contains.ensures ∙ c.if-not-contains.false) in (p.7, p.8)

pub returns : goal.returns
returns c = rw c.weights_at.ensures (weights_in (open_map c.args.self.now) _ _ (sym c.contains.ensures ∙ c.if-not-contains.false))
