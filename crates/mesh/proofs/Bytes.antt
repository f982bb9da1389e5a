-- What the bytes of a mesh say.
use Prim.Native.Nat.{ℕ, zero, suc, ◌<◌}
use mathlib.Core.Path.{◌≡◌, refl}
use mathlib.Core.Bool.{true, false, not}
use mathlib.Core.List.{List}
use borrow.Author.Tests.{lt-ltb, eq-eqb, ne_eqb}
use lib.Dec.{eqb}
use lib.ListN.{get_or, replicate}
use Rattle.mesh.specs.Bytes.{step_on}
use Rattle.mesh.specs.Blends.{at}

-- a step within the table is its byte
pub step_byte : (bytes : List ℕ) (z k : ℕ) → z < 131 → k < 131 → step_on bytes z k ≡ not (eqb (get_or bytes (at z k) 0) 0)
unfolding step_on
step_byte bytes z k hz hk = rw (lt-ltb z 131 hz, lt-ltb k 131 hk)

pub step_off : (bytes : List ℕ) (z k : ℕ) → z < 131 → k < 131 → get_or bytes (at z k) 0 ≡ 0 → step_on bytes z k ≡ false
step_off bytes z k hz hk e = rw (step_byte bytes z k hz hk, eq-eqb _ _ e)

pub step_on_lem : (bytes : List ℕ) (z k : ℕ) → z < 131 → k < 131 → (get_or bytes (at z k) 0 ≡ 0 → ⊥) → step_on bytes z k ≡ true
step_on_lem bytes z k hz hk ne = rw (step_byte bytes z k hz hk, ne_eqb _ _ ne)

pub zeros : (n i : ℕ) → ◌≡◌ {A = ℕ} (get_or (replicate n 0) i 0) 0
zeros zero i = refl
zeros (suc n) zero = refl
zeros (suc n) (suc i) = zeros n i
