-- Document 01: "Two maps are the same when sides, live blends and values agree." Document 02, L5: "Sameness doesn't look at marks."
use Rattle.std.specs.Prelude.{Bool, false, cond, ◌&&◌, eqb}
use Rattle.axis.specs.Range.{agree}
use Rattle.mesh.specs.Blends.{same}
use Rattle.maps.specs.declared.Map.{Map}
use Rattle.maps.specs.Outcomes.{Same}
use Rattle.maps.specs.Plain.{Plain, blends}
use Rattle.maps.specs.Record.{plain, good}

unfoldable pub same_plain : Plain → Plain → Bool
same_plain P Q =
    eqb P.lines.w Q.lines.w && eqb P.lines.h Q.lines.h && agree same (blends P) (blends Q) && agree eqb P.values Q.values

-- Are two maps the same: 2 where either record is not good, and then "no".
unfoldable pub sameness : Map → Map → Same
sameness a b =
    cond (good a && good b) (record { number = 0; yes = same_plain (plain a) (plain b) })
    (record { number = 2; yes = false })
