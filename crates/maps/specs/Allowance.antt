-- Document 02, L7: what an allowance comes to, beside the exact split of document 01 and the lengthened split of L4.
use Rattle.std.specs.Prelude.{ℕ, ◌≤◌, ◌≡◌, cond, not, eqb}
use Rattle.axis.specs.Limits.{most_allowance}
use Rattle.axis.specs.Range.{only}
use Rattle.mesh.specs.declared.Split.{Split}
use Rattle.mesh.specs.Splits.{given, exact_number}
use Rattle.mesh.specs.Lengthening.{containing, candidate, least_of}
use Rattle.maps.specs.declared.Map.{Map}
use Rattle.maps.specs.Outcomes.{Changed}
use Rattle.maps.specs.Values.{drawn}
use Rattle.maps.specs.Record.{record_of, plain, good}
use Rattle.maps.specs.Calls.{changed, drawn_first, split_within}

-- "An exact split draws what is given": by the number that decides the splits of a record and of a file.
unfoldable pub exact_split : Map → Split → Changed
exact_split old s =
    let P = plain old in
    let n = exact_number P.lines s in
    cond (not (good old)) (changed 2 old)
    (cond (eqb n 0) (changed 0 (record_of (drawn P s)))
    (changed n old))

-- A lengthened split takes, of all candidates, the one that adds the fewest live blends, then the shortest, then the one that starts lowest.
unfoldable pub lengthened_split : Map → Split → Changed
lengthened_split old s =
    let P = plain old in
    let n = given P.lines s in
    cond (not (good old)) (changed 2 old)
    (cond (eqb n 0) (drawn_first old P (least_of P.lines (only (candidate P.lines) (containing P.lines s))))
    (changed n old))

-- What `by_allowance` shows of every record and every split, of the whole outcome of the call:
pub record ByAllowance (m : Map) (s : Split) : Type 0 where
  -- "Allowance 0 is the exact split."
  pub none : split_within m s 0 ≡ exact_split m s
  -- The largest is the lengthened split, and is never refused with 8.
  pub largest : split_within m s most_allowance ≡ lengthened_split m s
  pub never_unsound : (split_within m s most_allowance).number ≡ 8 → ⊥
  -- Where an allowance accepts, every larger one takes the same line: more allowance never changes a drawn map.
  pub more : (a b : ℕ) → a ≤ b → b ≤ most_allowance → (split_within m s a).number ≡ 0 → split_within m s b ≡ split_within m s a
