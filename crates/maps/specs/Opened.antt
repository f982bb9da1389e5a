-- A record that was opened has the table of its live blends beside it. What goes on from there is no call of document 01 but the rest of one, after the
-- test of the record.
use Rattle.std.specs.Prelude.{◌≡◌, true, cond, []}
use Rattle.mesh.specs.declared.Table.{Table}
use Rattle.mesh.specs.Sound.{table}
use Rattle.maps.specs.declared.Map.{Map}
use Rattle.maps.specs.Outcomes.{Changed}
use Rattle.maps.specs.Plain.{blends}
use Rattle.maps.specs.Record.{plain, good}
use Rattle.maps.specs.Calls.{changed}

-- the table of a good record's live blends; an empty one where the record is not good
unfoldable pub table_of : Map → Table
table_of m = cond (good m) (table (blends (plain m))) (table [])

-- A record opened: 2 where it is not good.
unfoldable pub opened : Map → Changed
opened m = changed (cond (good m) 0 2) m

-- what goes on from an opened record starts from a good one and its table: true of every `Opened`
pub record IsTable (m : Map) (t : Table) : Type 0 where
  pub is_good : good m ≡ true
  pub is_table : t ≡ table_of m
