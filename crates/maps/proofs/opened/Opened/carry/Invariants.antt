-- The values and marks of the blends passed stand in front, and zeros behind them; the old blends passed have no anchor of a new one that is left.
use Rattle.std.proofs.Common.{◌≤◌, ◌≡◌, length, take}
use Rattle.maps.specs.Values as Values
use Rattle.maps.specs.Values.{kept_mark}
use Rattle.maps.proofs.OldTable.{filled}
use Rattle.maps.proofs.SideBySide.{Walking}
use Rattle.maps.proofs.opened.Opened.carry.Given as goal

abbrev pub invariant-loop-i : goal.invariant-loop-i
invariant-loop-i l =
    (l.j ≤ length l.old) ×
    (l.carried ≡ filled (Values.carried l.old (take (length l.old) l.values)) l.new l.i) ×
    (l.kept ≡ filled (kept_mark l.old (take (length l.old) l.marks)) l.new l.i) ×
    Walking l.old l.new l.j l.i
