-- The pairs noted so far, with those from the last point on, are all pairs.
use Rattle.std.proofs.Common.{ℕ, List, Bool, cond, ◌-◌, ◌≤◌, ◌<◌, ◌≡◌, take}
use lib.Dec.{ltb}
use Rattle.axis.specs.Range.{turns_from}
use Rattle.mesh.specs.declared.Table.{Table}
use Rattle.mesh.specs.Sound.{blends_of}
use Rattle.maps.specs.Outcomes.{Pairs}
use Rattle.maps.specs.declared.values.Entry.{Entry}
use Rattle.maps.specs.Values.{reading_at}
use Rattle.maps.specs.Pairs.{counted_pairs}
use Rattle.maps.specs.Inner.{is_level, counted}
use Rattle.maps.proofs.Walking.{FourOf, noting}
use Rattle.maps.proofs.opened.Opened.pairs_along.Given as goal

-- whether the reading at the k-th point is below the wanted flow
abbrev pub below : Table → List ℕ → Bool → ℕ → ℕ → ℕ → Bool
below table values row at wanted k = ltb (reading_at (blends_of table) (take table.count values) (cond row k at) (cond row at k)) wanted

pub record Walk (table : Table) (values : List ℕ) (row : Bool) (at wanted side : ℕ) (four : List Entry) (last : Bool) (pairs : Pairs) (k : ℕ) : Type 0 where
  pub in_hand : FourOf table four
  pub is_last : 0 < k → last ≡ below table values row at wanted (k - 1)
  pub few : pairs.count ≤ k - 1
  pub some : pairs.number ≡ 0 → 0 < pairs.count
  pub rest : let test = below table values row at wanted in noting pairs (turns_from (k - 1) (side - (k - 1)) test) ≡ counted_pairs (turns_from 0 side test)

abbrev pub invariant-loop-k : goal.invariant-loop-k
invariant-loop-k l = Walk l.self.table l.self.map.values (is_level l.direction) l.at l.wanted l.side l.four l.last (counted l.pairs) l.k
