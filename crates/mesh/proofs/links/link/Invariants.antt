-- The links before the k-th are as they shall be, the others as they were.
use Rattle.std.proofs.Common.{ℕ, ◌≤◌, ◌<◌, ◌≡◌, List, get_or}
use mathlib.Core.Bool.{cond, ◌&&◌}
use lib.Dec.{ltb}
use Rattle.mesh.proofs.links.link.Given as goal

-- the link of a knot when z is linked
abbrev pub linked : List ℕ → ℕ → ℕ → ℕ
linked links z k = cond (ltb k z && ltb z (get_or links k 0)) z (get_or links k 0)

pub record Linking (before after : List ℕ) (z k : ℕ) : Type 0 where
  pub within : k ≤ z
  pub done : (i : ℕ) → i < k → get_or after i 0 ≡ linked before z i
  pub left : (i : ℕ) → k ≤ i → get_or after i 0 ≡ get_or before i 0

abbrev pub invariant-loop-k : goal.invariant-loop-k
invariant-loop-k l = Linking l.initial.links l.links l.z l.k
