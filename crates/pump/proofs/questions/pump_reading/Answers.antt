-- `pump_reading` meets its contract: the map's reading, 0 after a refusal.
use Rattle.std.proofs.Common.{rules}
use Rattle.pump.specs.Border.{reading_number, reading_litres}
use Rattle.pump.proofs.questions.pump_reading.Goals as goal

pub returns : goal.returns
unfolding reading_number reading_litres
returns c = search rules
