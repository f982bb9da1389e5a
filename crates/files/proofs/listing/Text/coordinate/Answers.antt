-- `files::listing::Text::coordinate` meets its contract: two bytes for the outer knot, the digits of any other.
use Rattle.std.proofs.Common.{[], ◌∷◌}
use Rattle.files.proofs.Texts.{text_next, text_then, outer_coordinate}
use Rattle.files.proofs.listing.Text.coordinate.Goals as goal

pub byte-requires-then-knot-eq0 : goal.byte-requires-then-knot-eq0
byte-requires-then-knot-eq0 c =
    text_next c.args.self.now (45 ∷ []) (49 ∷ []) (rw (outer_coordinate c.args.knot c.if-knot-eq0.true) at c.requires) c.byte.ensures

pub returns-then-knot-eq0 : goal.returns-then-knot-eq0
returns-then-knot-eq0 c =
    let e = outer_coordinate c.args.knot c.if-knot-eq0.true in
    rw e (text_then c.args.self.now (45 ∷ []) (49 ∷ []) (rw e at c.requires) c.byte.ensures c.byte-then-knot-eq0.ensures)
