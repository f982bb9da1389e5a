-- `maps::opened::Opened::smallest` meets its contract: the fresh 1 by 1 map has the table of the first four blends.
use Rattle.std.proofs.Common.{refl}
use Rattle.maps.proofs.StaysOpened.{blank_opens, blank_held}
use Rattle.maps.proofs.opened.Opened.smallest.Goals as goal

pub invariant_of-result : goal.invariant_of-result
invariant_of-result c = rw (c.smallest.ensures, c.fresh.ensures) (record { opens = blank_opens 1 1 refl refl; held = blank_held 1 1 })
