-- Document 01, "Blends": cutting, and the live blends.
use Rattle.std.specs.Prelude.{ℕ, zero, suc, ◌+◌, ◌-◌, ◌*◌, ◌≡◌, Bool, cond, ◌&&◌, ◌||◌, not, eqb}
use mathlib.Core.List.{List, [], ◌∷◌, ◌++◌, Memᴰ}
use Rattle.axis.specs.Range.{each, any, only, joined}
use Rattle.axis.specs.Triple.{half, inside, low, high, same_triple, Rise}
use Rattle.axis.specs.declared.Side.{Side}
use Rattle.axis.specs.declared.Side.TheVariants.{Lower as lower, Upper as upper}
use Rattle.axis.specs.Nearest.{nearest}
use Rattle.mesh.specs.Lines.{other, Mesh, covers}
use Rattle.mesh.specs.declared.Direction.{Direction}
use Rattle.mesh.specs.declared.Direction.TheVariants.{Upright as upright, Level as level}
use Rattle.axis.specs.declared.Triple.{Triple}
use Rattle.mesh.specs.declared.Blend.{Blend}

abbrev pub blend : Triple → Triple → Blend
blend x y = record { across = x; up = y }

-- "A blend is two triples of whole numbers, … both rising": of one blend, and of each of some
pub record RiseB (B : Blend) : Type 0 where
  pub across : Rise B.across
  pub up : Rise B.up

abbrev pub Rising : List Blend → Type 0
Rising bs = (B : Blend) → Memᴰ B bs → RiseB B

-- the triple that lines of the direction cut; the one that they must cover is that of the other direction
abbrev pub crossed : Direction → Blend → Triple
crossed upright B = B.across
crossed level B = B.up

abbrev pub along : Direction → Blend → Triple
along d B = crossed (other d) B

-- whether the line at knot z covers the support, b to t
abbrev pub covers_blend : Mesh → Direction → Blend → ℕ → Bool
covers_blend M d B z = covers M d z (along d B).l ((along d B).r - (along d B).l)

-- "An upright at z cuts a blend when l < z < r, z is not m, and the line covers b to t. … Levels cut the other triple likewise."
unfoldable pub cuts : Mesh → Direction → ℕ → Blend → Bool
cuts M d z B = inside z (crossed d B) && covers_blend M d B z

-- the half of a blend on one side of a cut
unfoldable pub halve : Direction → Side → ℕ → Blend → Blend
halve upright s z B = blend (half s z B.across) B.up
halve level s z B = blend B.across (half s z B.up)

-- the line that cuts first; 0 where none cuts
abbrev pub cutter : Mesh → Direction → Blend → ℕ
cutter M d B = nearest (covers_blend M d B) (crossed d B)

-- whether any line cuts the blend
unfoldable pub is_cut : Mesh → Blend → Bool
is_cut M B = not (eqb (cutter M upright B) 0) || not (eqb (cutter M level B) 0)

-- "An upright cut hands its halves to the level cuts, and a level cut hands its halves back, until neither cuts."
-- What is left of a blend, lines of direction d tried first. Each cut makes a support smaller, so `f` cuts in a row are enough where f is the blend's size.
unfoldable pub leaves : ℕ → Mesh → Direction → Blend → List Blend
leaves zero M d B = B ∷ []
leaves (suc f) M d B =
    let z = cutter M d B in
    let y = cutter M (other d) B in
    let handed = leaves f M (other d) (halve d lower z B) ++ leaves f M (other d) (halve d upper z B) in
    let back = leaves f M d (halve (other d) lower y B) ++ leaves f M d (halve (other d) upper y B) in
    let rest = cond (eqb y 0) (B ∷ []) back in
    cond (eqb z 0) rest handed

-- the support's area in steps
abbrev pub size : Blend → ℕ
size B = (B.across.r - B.across.l) * (B.up.r - B.up.l)

-- what is left of each of some blends, joined
unfoldable pub leaves_of : Mesh → List Blend → List Blend
leaves_of M bs = joined (λ B. leaves (size B) M upright B) bs

abbrev pub same : Blend → Blend → Bool
same A B = same_triple A.across B.across && same_triple A.up B.up

-- "equal ones kept once"
unfoldable pub once : List Blend → List Blend
once [] = []
once (B ∷ bs) = let rest = once bs in cond (any (same B) bs) rest (B ∷ rest)

-- the blends whose anchor is at knots (m, n)
abbrev pub anchored : ℕ → ℕ → Blend → Bool
anchored m n B = eqb B.across.m m && eqb B.up.m n

-- no two of the blends have one anchor
abbrev pub OwnAnchors : List Blend → Type 0
OwnAnchors bs = (B C : Blend) → Memᴰ B bs → Memᴰ C bs → B.across.m ≡ C.across.m → B.up.m ≡ C.up.m →
    B ≡ C

-- Knots are 0 to 130, so a square table of 131 by 131 has a place for each pair of them; and the place of a blend is its anchor's.
abbrev pub at : ℕ → ℕ → ℕ
at i j = i * 131 + j

abbrev pub place : Blend → ℕ
place B = at B.across.m B.up.m

-- "The table lists them by m, then n."
unfoldable pub in_table_order : ℕ → ℕ → List Blend → List Blend
in_table_order w h bs = each 1 (w + 1) (λ m. each 1 (h + 1) (λ n. only (anchored m n) bs))

-- what is left of some blends, equal ones kept once, in table order
unfoldable pub refine : ℕ → ℕ → Mesh → List Blend → List Blend
refine w h M bs = in_table_order w h (once (leaves_of M bs))

-- "The first four blends are those with (−1, 0, W) or (0, W, W+1) by (−1, 0, H) or (0, H, H+1)."
abbrev pub first_four : ℕ → ℕ → List Blend
first_four w h = blend (low w) (low h) ∷ blend (low w) (high h) ∷ blend (high w) (low h) ∷ blend (high w) (high h) ∷ []

-- "The live blends of a map are what is left when every cut blend has been replaced by its halves, equal ones kept once."
unfoldable pub live : ℕ → ℕ → Mesh → List Blend
live w h M = refine w h M (first_four w h)
