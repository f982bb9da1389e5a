-- `maps::opened::Opened::fresh` meets its contract: the record of a fresh map is good, and its live blends are the first four.
use Rattle.std.proofs.Common.{arith, ℕ, ◌≡◌, ◌∙◌, ◌&&◌, sym, ap, subst}
use mathlib.Core.Logic.{⊎_elim}
use Rattle.axis.proofs.Tests.{either, and_both, cond_true, cond_false}
use Rattle.mesh.specs.Lines.{allowed_side}
use Rattle.mesh.specs.Sound.{fresh_table}
use Rattle.maps.specs.declared.Map.{Map}
use Rattle.maps.specs.Outcomes.{Changed}
use Rattle.maps.specs.Record.{Held}
use Rattle.maps.specs.Calls.{changed, fresh_map}
use Rattle.maps.specs.Opened.{IsTable}
use Rattle.maps.proofs.StaysOpened.{blank_opens, blank_held}
use Rattle.maps.proofs.opened.Opened.fresh.Goals as goal

-- so the map that is made has it
made_opens : (m : Map) (w h : ℕ) → changed 0 m ≡ fresh_map w h → IsTable m (fresh_table w h) × Held m
unfolding fresh_map
made_opens m w h e =
    ⊎_elim
    (λ t. let b = and_both (allowed_side w) (allowed_side h) t in
    subst (λ (n : Map). IsTable n (fresh_table w h) × Held n) (sym (ap (λ (c : Changed). c.map) (e ∙ cond_true _ _ _ t)))
    (blank_opens w h b.0 b.1, blank_held w h))
    (λ f. absurd (omega (arith, ap (λ (c : Changed). c.number) (e ∙ cond_false _ _ _ f))))
    (either (allowed_side w && allowed_side h))

pub invariant_of-result : goal.invariant_of-result
invariant_of-result c = let made = made_opens _ c.args.w c.args.h c.in_ok-map.ensures in record { opens = rw c.fresh-2.ensures made.0; held = made.1 }
