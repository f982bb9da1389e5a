-- `maps::opened::Opened::along` meets its contract: the refusals in their order, then the walk.
use Rattle.std.proofs.Common.{◌∙◌}
use mathlib.Core.Logic.{⊎_elim}
use borrow.Author.Tests.{lt-leb}
use lib.Dec.{leb}
use Rattle.axis.proofs.Tests.{and_first, and_last}
use Rattle.maps.specs.Inner.{is_level}
use Rattle.maps.proofs.Changing.{open_map}
use Rattle.maps.proofs.Asking.{pairs_out, pairs_unwanted, pairs_in, paired_counted}
use Rattle.maps.proofs.opened.Opened.along.Goals as goal

pub returns-then-along-at : goal.returns-then-along-at
returns-then-along-at c = let a = c.args in pairs_out (open_map a.self.now) (is_level a.direction) a.at a.wanted (rw c.along.ensures at c.if-along-at.true)

pub returns-then-wanted-lt1 : goal.returns-then-wanted-lt1
returns-then-wanted-lt1 c =
    let a = c.args in
    pairs_unwanted (open_map a.self.now) (is_level a.direction) a.at a.wanted (rw c.along.ensures at c.if-along-at.false)
    (⊎_elim (λ lt. and_first _ _ (lt-leb 1 a.wanted lt)) (λ gt. and_last (leb 1 a.wanted) _ (lt-leb a.wanted 65535 gt.1)) c.then-wanted-lt1.either)

pub pairs_along-requires : goal.pairs_along-requires
pairs_along-requires c = rw c.along.ensures at c.if-along-at.false

pub returns : goal.returns
returns c =
    let a = c.args in
    paired_counted _ c.pairs_along.result c.ok_or.ensures.value ∙ c.pairs_along.ensures ∙
    pairs_in (open_map a.self.now) (is_level a.direction) a.at a.wanted (rw c.along.ensures at c.if-along-at.false)
    c.if-wanted-lt1.false c.if-wanted-gt65535.false
