-- Document 01, "When a call says no", on lines alone: which splits are refused.
use Rattle.std.specs.Prelude.{ℕ, Bool, true, cond, ◌&&◌, not, List, [], ◌∷◌, ◌++◌, leb, ltb, eqb, length}
use Rattle.axis.specs.Limits.{most_splits, most_allowance}
use Rattle.axis.specs.Range.{any}
use Rattle.mesh.specs.Lines.{Layout, mesh_of, in_range, shares, ended}
use Rattle.mesh.specs.Blends.{is_cut, live}
use Rattle.mesh.specs.Sound.{sound}
use Rattle.mesh.specs.declared.Split.{Split}
use Rattle.mesh.specs.declared.Blend.{Blend}

-- the live blends of a layout, always cut anew from the first four
abbrev pub live_of : Layout → List Blend
live_of P = live P.w P.h (mesh_of P)

-- the layout with the split drawn
abbrev pub with_line : Layout → Split → Layout
with_line P s = record { w = P.w; h = P.h; splits = P.splits ++ s ∷ [] }

abbrev pub sound_with : Layout → Split → Bool
sound_with P s = sound P.w P.h (live_of (with_line P s))

-- refusals 3 to 7, on the split as given; 0 where none applies
unfoldable pub given : Layout → Split → ℕ
given P s =
    cond (not (in_range P.w P.h s)) 3
    (cond (leb most_splits (length P.splits)) 4
    (cond (shares (mesh_of P) s) 5
    (cond (not (ended (mesh_of P) s)) 6
    (cond (not (any (is_cut (mesh_of (with_line P s))) (live_of P))) 7
    0))))

-- the same of the split call; document 02, L7: "Refusal 3 covers an allowance above 128"
unfoldable pub asked : Layout → Split → ℕ → ℕ
asked P s allowance = cond (ltb most_allowance allowance) 3 (given P s)

-- The exact split, by which records and files are built: its number is one of those, then 8, "The exact split leaves a map that is not sound".
unfoldable pub exact_number : Layout → Split → ℕ
exact_number P s =
    let g = given P s in
    let last : ℕ = cond (sound_with P s) 0 8 in
    cond (eqb g 0) last g

-- splits "taken in order as exact splits" are all accepted
unfoldable pub accepted : Layout → List Split → Bool
accepted P [] = true
accepted P (s ∷ rest) = let more = accepted (with_line P s) rest in eqb (exact_number P s) 0 && more
