-- `maps::Map::fresh` meets its contract.
use Rattle.std.proofs.Common.{◌≡◌, ◌∙◌, ◌&&◌, sym, ap}
use Rattle.mesh.specs.Lines.{allowed_side}
use Rattle.maps.specs.Calls.{changed, fresh_map}
use Rattle.maps.proofs.Map.fresh.Goals as goal
use Rattle.maps.proofs.Map.fresh.Goals.{Joined-allows_side, then-allows_side, else-allows_side}

both : (c : Joined-allows_side) → c.if-allows_side.value ≡ (allowed_side c.args.w && allowed_side c.args.h)
both c =
    elim c.if-allows_side.branch [
      | then-allows_side w ↦ w.value-is ∙ rw (sym c.allows_side.ensures ∙ w.if-allows_side.true) w.allows_side-then-allows_side.ensures
      | else-allows_side w ↦ w.value-is ∙ w.if-allows_side.false ∙ rw (sym c.allows_side.ensures ∙ w.if-allows_side.false)
    ]

pub returns-then-not-allows_side : goal.returns-then-not-allows_side
unfolding fresh_map
returns-then-not-allows_side c = rw (sym (both (goal.at.returns-then-not-allows_side c).Joined-allows_side) ∙ c.if-not-allows_side.true)

pub returns : goal.returns
unfolding fresh_map
returns c = rw (sym (both (goal.at.returns c).Joined-allows_side) ∙ c.if-not-allows_side.false) (ap (changed 0) c.blank.ensures)
