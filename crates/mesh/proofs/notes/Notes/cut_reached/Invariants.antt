-- What is kept, with what is left of the blends still to be cut, is the whole answer.
use Rattle.std.proofs.Common.{ℕ, ◌-◌, ◌≡◌, ◌+◌, List, [], ◌∷◌, ◌++◌, get_or, drop}
use Rattle.axis.specs.Range.{each}
use Rattle.mesh.specs.Lines.{Mesh}
use Rattle.mesh.specs.declared.Direction.{Direction}
use Rattle.mesh.specs.Blends.{leaves_of}
use Rattle.mesh.specs.Bytes.{bytes_mesh, keep_all}
use Rattle.mesh.specs.Carried.{if_reached, all_reached}
use Rattle.mesh.specs.declared.Blend.{Blend}
use Rattle.mesh.proofs.notes.Notes.cut_reached.Given as goal

-- the blends at level k, and those from there on
abbrev pub both : Direction → ℕ → ℕ → List ℕ → List ℕ → ℕ → List Blend
both d from to lows highs k = if_reached d from to (get_or lows k 0) ++ if_reached d from to (get_or highs k 0)

abbrev pub rest : Direction → ℕ → ℕ → List ℕ → List ℕ → ℕ → List Blend
rest d from to lows highs k = each k (to - k) (both d from to lows highs)

-- those of some notes
abbrev pub those : Direction → ℕ → ℕ → List ℕ → List Blend
those d from to [] = []
those d from to (c ∷ cs) = if_reached d from to c ++ those d from to cs

-- places with some blends still to be cut
pub record Keeping (M : Mesh) (places₀ : List ℕ) (all : List Blend) (places : List ℕ) (left : List Blend) : Type 0 where
  pub same : keep_all places (leaves_of M left) ≡ keep_all places₀ (leaves_of M all)

abbrev pub invariant-loop-k : goal.invariant-loop-k
invariant-loop-k l =
    Keeping (bytes_mesh l.uprights l.levels) l.initial.places (all_reached l.d l.from l.to l.self.lows l.self.highs) l.places
    (rest l.d l.from l.to l.self.lows l.self.highs l.k)

abbrev pub invariant-loop-c : goal.invariant-loop-c
invariant-loop-c l =
    Keeping (bytes_mesh l.uprights l.levels) l.fn.places (all_reached l.d l.from l.to l.self.lows l.self.highs) l.places
    (those l.d l.from l.to (drop l.c-index (get_or l.self.lows l.k 0 ∷ get_or l.self.highs l.k 0 ∷ [])) ++
    rest l.d l.from l.to l.self.lows l.self.highs (l.k + 1))
