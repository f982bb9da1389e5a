-- The step of a change: what the library does on a map that was read from its file.
use Rattle.std.specs.Prelude.{◌≡◌, Result, ⊤}
use Rattle.mesh.specs.declared.refusal.Refusal.{Refusal}
use Rattle.maps.specs.declared.Map.{Map}
use Rattle.maps.specs.declared.opened.Opened.{Opened}
use Rattle.maps.specs.Outcomes.{Changed}
use Rattle.maps.specs.Told.{changed_to}

-- a step that takes a map to what it answers and leaves does what this call does
abbrev pub Does : (Opened → Result ⊤ Refusal → Opened → Type 0) → (Map → Changed) → Type 0
Does step call = (old next : Opened) (r : Result ⊤ Refusal) → step old r next → changed_to next.map r ≡ call old.map
