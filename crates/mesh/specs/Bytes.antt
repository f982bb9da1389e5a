-- How the code holds a mesh and its blends while it works. Only contracts of functions that the crate keeps to itself cite this file.
use Rattle.std.specs.Prelude.{ℕ, ◌+◌, ◌*◌, ◌/◌, ◌%◌, ◌≤◌, ◌≡◌, Bool, cond, ◌&&◌, ◌||◌, not, List, [], ◌∷◌, ltb, leb, eqb, length, get_or, set, replicate}
use Rattle.axis.specs.Range.{each}
use Rattle.axis.specs.Triple.{triple}
use Rattle.mesh.specs.Lines.{Mesh}
use Rattle.mesh.specs.declared.Direction.TheVariants.{Upright as upright, Level as level}
use Rattle.mesh.specs.Blends.{blend, at, place}
use Rattle.mesh.specs.declared.Blend.{Blend}

-- The square table of all pairs of knots, or its first rows: at least n are there. A small map needs few. What is past the last reads as 0.
abbrev pub Rows : ℕ → List ℕ → Type 0
Rows n xs = n * 131 ≤ length xs

-- a row for each knot of either side
abbrev pub Tall : ℕ → ℕ → List ℕ → Type 0
Tall w h xs = Rows (w + 3) xs × Rows (h + 3) xs

-- all entries are 0
abbrev pub Zeros : List ℕ → Type 0
Zeros xs = xs ≡ replicate (length xs) 0

-- the lines of one direction in bytes: the step from knot k, at knot z, is byte `at z k`, and is on where that is not 0
unfoldable pub step_on : List ℕ → ℕ → ℕ → Bool
step_on bytes z k = ltb z 131 && ltb k 131 && not (eqb (get_or bytes (at z k) 0) 0)

unfoldable pub bytes_mesh : List ℕ → List ℕ → Mesh
bytes_mesh uprights levels upright = step_on uprights
bytes_mesh uprights levels level = step_on levels

-- Blends by their anchors: the place of an anchor holds 0, or the support of the blend that has it.
abbrev pub packed : Blend → ℕ
packed B = ((B.across.l * 256 + B.across.r) * 256 + B.up.l) * 256 + B.up.r

unfoldable pub unpacked : ℕ → ℕ → ℕ → Blend
unpacked m n c = blend (triple (c / 16777216 % 256) m (c / 65536 % 256)) (triple (c / 256 % 256) n (c % 256))

-- A blend is kept at its anchor's place.
abbrev pub keep : List ℕ → Blend → List ℕ
keep places B = set places (place B) (packed B)

unfoldable pub keep_all : List ℕ → List Blend → List ℕ
keep_all places [] = places
keep_all places (B ∷ bs) = keep_all (keep places B) bs

-- the blend at a place, if any; and all of them, in table order
abbrev pub kept : List ℕ → ℕ → ℕ → List Blend
kept places m n = cond (eqb (get_or places (at m n) 0) 0) [] (unpacked m n (get_or places (at m n) 0) ∷ [])

unfoldable pub walk : ℕ → ℕ → List ℕ → List Blend
walk w h places = each 1 (w + 1) (λ m. each 1 (h + 1) (λ n. kept places m n))

-- what drawing a line from knot `from` to knot `to` at knot z does to the bytes of its direction
pub record Drawn (before after : List ℕ) (z from to : ℕ) : Type 0 where
  pub long : length after ≡ length before
  pub on : (y k : ℕ) → step_on after y k ≡ (step_on before y k || (eqb y z && leb from k && ltb k to))
