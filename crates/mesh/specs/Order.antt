-- Cutting in any order (document 01, "Blends"; 001, section 3), as relations: no function's order is in them.
use Rattle.std.specs.Prelude.{◌≡◌, ℕ, ◌+◌, ◌^◌, ◌≤◌, true, false}
use mathlib.Core.List.{List, [], ◌∷◌, ◌++◌, Memᴰ}
use Rattle.axis.specs.declared.Side.{Side}
use Rattle.axis.specs.declared.Side.TheVariants.{Lower as lower, Upper as upper}
use Rattle.mesh.specs.Lines.{Mesh}
use Rattle.mesh.specs.declared.Direction.{Direction}
use Rattle.mesh.specs.Blends.{cuts, halve, size}
use Rattle.mesh.specs.declared.Blend.{Blend}

-- no line of the mesh cuts the blend
abbrev pub Uncut : Mesh → Blend → Type 0
Uncut M B = (d : Direction) (z : ℕ) → cuts M d z B ≡ false

-- C comes from B by a chain of cuts.
pub data Comes (M : Mesh) : Blend → Blend → Type 0 where
  here : {B : Blend} → Comes M B B
  cut : {B C : Blend} (d : Direction) (z : ℕ) (s : Side) → cuts M d z B ≡ true → Comes M (halve d s z B) C → Comes M B C

-- C is left of B: it comes from B, and no line cuts it.
pub record Left (M : Mesh) (B C : Blend) : Type 0 where
  pub comes : Comes M B C
  pub uncut : Uncut M C

-- C is left of one of some blends.
abbrev pub LeftOf : Mesh → List Blend → Blend → Type 0
LeftOf M bs C = (B : Blend) × Memᴰ B bs × Left M B C

-- A list covers a blend: all that is left of the blend stands in the list.
abbrev pub CoveredBy : Mesh → List Blend → Blend → Type 0
CoveredBy M bs B = (C : Blend) → Left M B C → Memᴰ C bs

-- Two lists have the same members: what stands in either stands in the other.
abbrev pub SameMembers : List Blend → List Blend → Type 0
SameMembers xs ys = (C : Blend) → (Memᴰ C xs → Memᴰ C ys) × (Memᴰ C ys → Memᴰ C xs)

-- One step of cutting a list: a cut blend, wherever it stands, is replaced by its halves, or one of two equal blends is dropped.
pub data Step (M : Mesh) : List Blend → List Blend → Type 0 where
  replace : (xs : List Blend) (B : Blend) (ys : List Blend) (d : Direction) (z : ℕ) →
      cuts M d z B ≡ true → Step M (xs ++ B ∷ ys) (xs ++ halve d lower z B ∷ halve d upper z B ∷ ys)
  drop : (xs : List Blend) (B : Blend) (ys : List Blend) → Memᴰ B (xs ++ ys) → Step M (xs ++ B ∷ ys) (xs ++ ys)

-- any number of steps
pub data Steps (M : Mesh) : List Blend → List Blend → Type 0 where
  done : {xs : List Blend} → Steps M xs xs
  step : {xs ys zs : List Blend} → Step M xs ys → Steps M ys zs → Steps M xs zs

-- A way of cutting a list to its end: steps, after which no line cuts any blend.
pub record Cutting (M : Mesh) (bs cs : List Blend) : Type 0 where
  pub steps : Steps M bs cs
  pub end : (C : Blend) → Memᴰ C cs → Uncut M C

-- the number of steps of a way
abbrev pub taken : {M : Mesh} {xs ys : List Blend} → Steps M xs ys → ℕ
taken done = 0
taken (step t ts) = taken ts + 1

-- A bound on the number of steps, by the areas of the supports: a blend counts 3 to the power of
-- its area. Each half is smaller in area, so the two count less than the blend that they replace.
abbrev pub most_steps : List Blend → ℕ
most_steps [] = 0
most_steps (B ∷ bs) = 3 ^ size B + most_steps bs

-- "… until neither cuts", and "what is left when every cut blend has been replaced by its halves":
-- in whatever order some blends are cut, that end comes.
pub record CuttingEnds (M : Mesh) (bs : List Blend) : Type 0 where
  -- No way of cutting goes on for ever: none has more steps than the areas allow.
  pub finite : {cs : List Blend} → (way : Steps M bs cs) → taken way ≤ most_steps bs
  -- And none is stuck before the end: whatever was cut so far, more steps lead to blends that no
  -- line cuts.
  pub goes_on : {cs : List Blend} → Steps M bs cs → (ds : List Blend) × Cutting M cs ds

-- every line of the first mesh lies on lines of the second
abbrev pub Coarser : Mesh → Mesh → Type 0
Coarser M N = (d : Direction) (z k : ℕ) → M d z k ≡ true → N d z k ≡ true
