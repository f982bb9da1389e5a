-- Document 01: each call's whole outcome, by what the record holds. The numbers are those of "When a call says no, in checking order".
use Rattle.std.specs.Prelude.{ℕ, ◌+◌, cond, ◌&&◌, not, List, [], ◌∷◌, map, ltb, eqb, pos, length, get_or, set}
use Rattle.std.proofs.Math.IntN.{pred_ℤ}
use Rattle.axis.specs.Gap.{corner}
use Rattle.mesh.specs.declared.Split.{Split}
use Rattle.mesh.specs.declared.Blend.{Blend}
use Rattle.mesh.specs.Lines.{allowed_side}
use Rattle.mesh.specs.Sound.{none}
use Rattle.mesh.specs.Splits.{asked}
use Rattle.mesh.specs.Lengthening.{chosen}
use Rattle.maps.specs.declared.Map.{Map}
use Rattle.maps.specs.declared.Shape.{Shape}
use Rattle.maps.specs.Outcomes.{Changed}
use Rattle.maps.specs.Outcomes.{Placed}
use Rattle.maps.specs.Outcomes.{Reading}
use Rattle.maps.specs.declared.Weight.{Weight}
use Rattle.maps.specs.Outcomes.{Weights}
use Rattle.maps.specs.Plain.{Plain, fresh_plain, blends}
use Rattle.maps.specs.Values.{reading_at, in_domain, weight_at, over, place_of, drawn}
use Rattle.maps.specs.Record.{record_of, plain, good}

abbrev pub changed : ℕ → Map → Changed
changed n m = record { number = n; map = m }

-- Fresh map: 1 for a side outside 1 to 128, with the fresh 1 by 1 map.
unfoldable pub fresh_map : ℕ → ℕ → Changed
fresh_map w h =
    cond (allowed_side w && allowed_side h) (changed 0 (record_of (fresh_plain w h))) (changed 1 (record_of (fresh_plain 1 1)))

-- A call on a record that is not good is refused with 2; on a good one it goes on with what that holds.

-- Setting the value at the anchor (m, n): 9 where no live blend has it. Document 02, L5: "Setting a value marks it 1."
unfoldable pub set_plain : Plain → ℕ → ℕ → ℕ → Plain
set_plain P m n v =
    let i = place_of (blends P) (m + 1) (n + 1) in record { lines = P.lines; values = set P.values i v; marks = set P.marks i 1 }

unfoldable pub set_value : Map → ℕ → ℕ → ℕ → Changed
set_value old m n v =
    let P = plain old in
    cond (not (good old)) (changed 2 old)
    (cond (ltb (place_of (blends P) (m + 1) (n + 1)) (length (blends P))) (changed 0 (record_of (set_plain P m n v)))
    (changed 9 old))

-- a blend in document 01's coordinates
abbrev pub shape : Blend → Shape
shape B =
    record {
      l = pred_ℤ (pos B.across.l);
      m = pred_ℤ (pos B.across.m);
      r = pred_ℤ (pos B.across.r);
      b = pred_ℤ (pos B.up.l);
      n = pred_ℤ (pos B.up.m);
      t = pred_ℤ (pos B.up.r);
    }

abbrev pub no_shape : Shape
no_shape = record { l = pos 0; m = pos 0; r = pos 0; b = pos 0; n = pos 0; t = pos 0 }

-- The blend, value and mark at a table place, from 0: 9 where there is none. First by what a map holds, then by its record.
abbrev pub no_place : ℕ → Placed
no_place n = record { number = n; blend = no_shape; value = 0; mark = 0 }

abbrev pub place_on : Plain → ℕ → Placed
place_on P i =
    cond (ltb i (length (blends P)))
    (record { number = 0; blend = shape (get_or (blends P) i none); value = get_or P.values i 0; mark = get_or P.marks i 0 })
    (no_place 9)

unfoldable pub table_place : Map → ℕ → Placed
table_place m i = cond (not (good m)) (no_place 2) (place_on (plain m) i)

-- The reading at a whole point: 10 outside the domain.
abbrev pub no_reading : ℕ → Reading
no_reading n = record { number = n; litres = 0 }

abbrev pub reading_on : Plain → ℕ → ℕ → Reading
reading_on P u v = cond (in_domain P u v) (record { number = 0; litres = reading_at (blends P) P.values u v }) (no_reading 10)

unfoldable pub reading : Map → ℕ → ℕ → Reading
reading m u v = cond (not (good m)) (no_reading 2) (reading_on (plain m) u v)

-- The weights at a whole point: 10 outside the domain.
abbrev pub no_weight : Weight
no_weight = record { blend = no_shape; numerator = 0; denominator = 0 }

abbrev pub no_weights : ℕ → Weights
no_weights n = record { number = n; entries = no_weight ∷ no_weight ∷ no_weight ∷ no_weight ∷ [] }

abbrev pub weight_over : ℕ → ℕ → ℕ → ℕ → Blend → Weight
weight_over w h u v B =
    let f = weight_at (corner w u + 1) (corner h v + 1) (u + 1) (v + 1) B in
    record { blend = shape B; numerator = f.num; denominator = f.den }

abbrev pub weights_on : Plain → ℕ → ℕ → Weights
weights_on P u v =
    cond (in_domain P u v) (record { number = 0; entries = map (weight_over P.lines.w P.lines.h u v) (over P u v) }) (no_weights 10)

unfoldable pub weights : Map → ℕ → ℕ → Weights
weights m u v = cond (not (good m)) (no_weights 2) (weights_on (plain m) u v)

-- The split call (document 02, L7), with the extra length that it may add: refusals 3 to 7 look at the split and the allowance as given; 8 where no candidate
-- is within the allowance.
abbrev pub drawn_first : Map → Plain → List Split → Changed
drawn_first old P [] = changed 8 old
drawn_first old P (c ∷ cs) = changed 0 (record_of (drawn P c))

unfoldable pub split_within : Map → Split → ℕ → Changed
split_within old s allowance =
    let P = plain old in
    let n = asked P.lines s allowance in
    cond (not (good old)) (changed 2 old)
    (cond (eqb n 0) (drawn_first old P (chosen P.lines s allowance))
    (changed n old))
