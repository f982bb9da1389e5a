-- Calls that change a map: the rest of a call on the map that was read is what the change of a file says.
use Prim.Native.Nat.{ℕ}
use mathlib.Core.Path.{◌≡◌}
use mathlib.Core.List.{List}
use Rattle.std.specs.Prelude.{Result, Err, ⊤}
use Rattle.mesh.specs.declared.refusal.Refusal.{Refusal}
use Rattle.mesh.specs.Refusals.{number_of}
use Rattle.maps.specs.declared.Map.{Map}
use Rattle.maps.specs.Outcomes.{Changed}
use Rattle.files.specs.Told.{number_in}
use Rattle.files.specs.Calls.{read_file}
use Rattle.pump.specs.Border.{new_number, new_bytes, new_used, lent, change_number, change_bytes, change_used}
use Rattle.pump.proofs.Refusals.{refused, refuses_at}

-- What a call that makes a new map answers and leaves:
abbrev pub Ends : ℕ → Changed → List ℕ → ℕ → ℕ → List ℕ → ℕ → Type 0
Ends refused next buffer used number bytes size =
    (number ≡ new_number refused next buffer) × (bytes ≡ new_bytes refused next buffer) × (size ≡ new_used refused next buffer used)

-- The bytes are no file, or the call on their map refuses: all is as it was.
module _ {r : Result ⊤ Refusal} {e : Refusal} (is : r ≡ Err e) (next : Changed) (buffer : List ℕ) (used : ℕ) where
  pub no_file : {number : ℕ} → number_of e ≡ number → Ends number next buffer used (number_in r) buffer used
  unfolding new_number new_bytes new_used
  no_file n = let at = refuses_at e n _ in let answer = refused is at buffer _ in (answer.0, answer.1, (refused is at used _).1)

  pub call_refuses : number_of e ≡ next.number → Ends 0 next buffer used (number_in r) buffer used
  unfolding new_number new_bytes new_used
  call_refuses n = let at = refuses_at e n _ in let answer = refused is at buffer _ in (answer.0, answer.1, (refused is at used _).1)

-- on the map that was read, it is what the change of a file says
module _ (call : Map → Changed) (buffer : List ℕ) (used : ℕ) {old next : Changed} (is : old ≡ read_file (lent buffer used))
    (given : next ≡ call old.map) where
  pub changes : {number : ℕ} {bytes : List ℕ} {size : ℕ} → Ends old.number next buffer used number bytes size →
      (number ≡ change_number call buffer used) × (bytes ≡ change_bytes call buffer used) × (size ≡ change_used call buffer used)
  changes e = rw (given, is) at e
