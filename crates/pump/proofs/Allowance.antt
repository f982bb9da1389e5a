-- At the border more allowance never changes a drawn map either: where a split is accepted, a larger allowance answers the same and leaves the same bytes.
use Prim.Native.Nat.{ℕ, ◌≤◌}
use mathlib.Core.Path.{◌≡◌, ap}
use mathlib.Core.List.{[]}
use Rattle.axis.specs.Limits.{most_allowance}
use Rattle.mesh.specs.declared.Split.{Split}
use Rattle.maps.specs.Outcomes.{Changed}
use Rattle.maps.specs.Calls.{split_within}
use Rattle.maps.proofs.Allowance.{by_allowance}
use Rattle.files.specs.Calls.{read_file}
use Rattle.files.proofs.ReadMaps.{map_held}
use Rattle.pump.specs.Border.{new_number, new_bytes, new_used, lent, change_number}
use Rattle.pump.specs.Histories.{Buffer, split, outcome, says, buffer, by_border}
use Rattle.pump.proofs.Refusals.{none_refuses}

pub border_allowance : (b : Buffer) (s : Split) (a larger : ℕ) → a ≤ larger → larger ≤ most_allowance →
    change_number (λ old. split_within old s a) b.bytes b.used ≡ 0 → by_border b (split s larger) ≡ by_border b (split s a)
unfolding new_number
border_allowance b s a larger le few accepted =
    let file = read_file (lent b.bytes b.used) in
    let same = (by_allowance file.map (map_held (lent b.bytes b.used)).full s).more a larger le few (none_refuses file.number _ _ accepted).1 in
    ap (λ (next : Changed).
    outcome (says (new_number file.number next b.bytes) [] [])
    (buffer (new_bytes file.number next b.bytes) (new_used file.number next b.bytes b.used))) same
