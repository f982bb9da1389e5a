-- `maps::opened::Opened::set` meets its contract.
use Rattle.std.proofs.Common.{arith, ◌∙◌, ◌≡◌, ◌+◌, ◌<◌, sym, length}
use mathlib.Core.Logic.{⊎_elim}
use Rattle.maps.specs.Plain.{blends}
use Rattle.maps.specs.Record.{plain}
use Rattle.maps.specs.Values.{place_of}
use Rattle.maps.proofs.Readings.{placed_some, placed_none}
use Rattle.maps.proofs.Changing.{open_map, few, live_blends, live_count, set_none, set_beyond, set_some, held_set}
use Rattle.maps.proofs.opened.Opened.set.Goals as goal
use Rattle.maps.proofs.opened.Opened.set.Goals.{In-Some}

-- where the anchor's blend stands
found : (c : In-Some) → let bs = blends (plain c.args.self.now.map) in
    (place_of bs (c.args.m + 1) (c.args.n + 1) ≡ c.in-Some.place) × (c.in-Some.place < length bs)
found c = placed_some _ _ _ (sym c.in-Some.is ∙ rw (live_blends (open_map c.args.self.now)) at c.place_of.ensures)

-- which is a place of the arrays
inside : (c : In-Some) → c.in-Some.place < 1024
inside c = let g = open_map c.args.self.now in omega (arith, (found c).1, live_count g, few g)

pub returns-then-m-gt-LARGEST_SIDE : goal.returns-then-m-gt-LARGEST_SIDE
returns-then-m-gt-LARGEST_SIDE c =
    set_beyond (open_map c.args.self.now) _ _ _
    (λ x y. ⊎_elim (λ p. omega (arith, x, p)) (λ p. omega (arith, y, p.1)) c.then-m-gt-LARGEST_SIDE.either)

pub place_of-requires : goal.place_of-requires
place_of-requires c = few (open_map c.args.self.now)

pub returns-in_default : goal.returns-in_default
returns-in_default c =
    let g = open_map c.args.self.now in
    set_none g _ _ _ (placed_none _ _ _ (sym c.in_default.is ∙ rw (live_blends g) at c.place_of.ensures))

pub offset_bounds-self-place : goal.offset_bounds-self-place
offset_bounds-self-place c = omega (arith, inside (goal.at.offset_bounds-self-place c).In-Some)

pub bounds-self-place : goal.bounds-self-place
bounds-self-place c = inside (goal.at.bounds-self-place c).In-Some

pub bounds-self-place-2 : goal.bounds-self-place-2
bounds-self-place-2 c = inside (goal.at.bounds-self-place-2 c).In-Some

pub invariant_of-self : goal.invariant_of-self
invariant_of-self c =
    let self = c.args.self.now in
    let at = goal.at.invariant_of-self c in
    let f = found at.In-Some in
    record {
      opens = (rw f.0 at (set_some (open_map self) c.args.m c.args.n c.args.value (rw f.0 f.1))).1;
      held = held_set self.held _ _ (inside at.In-Some) c.ranges.value.fits;
    }

pub returns : goal.returns
returns c =
    let f = found (goal.at.returns c).In-Some in
    rw f.0 at (set_some (open_map c.args.self.now) c.args.m c.args.n c.args.value (rw f.0 f.1)).0
