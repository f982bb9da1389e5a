-- Links over knots: what linking a knot leaves of them, those of a fresh map, and those of a map with a line more.
use Prim.Native.Nat.{ℕ, zero, suc, ◌+◌, ◌<◌}
use native.Mathlib.Omega.{arith}
use mathlib.Core.Path.{◌≡◌, refl, sym, subst, ◌∙◌}
use mathlib.Core.Logic.{⊎_elim}
use mathlib.Core.Bool.{false, ◌&&◌, ◌||◌, and-false}
use mathlib.Core.List.{List}
use borrow.Author.Tests.{ne_eqb, lt-ltb, ltb-true}
use lib.Dec.{ltb, eqb}
use lib.ListN.{get_or, replicate, length-replicate}
use Rattle.mesh.specs.Lines.{number, side, Mesh, draws, fresh_mesh}
use Rattle.mesh.specs.declared.Direction.{Direction}
use Rattle.mesh.specs.Carried.{Leads, Linked, Bare, unlinked}
use Rattle.mesh.specs.declared.Split.{Split}
use Rattle.axis.proofs.Tests.{either, true_not_false, and_both, and_of, cond_true, cond_false}

-- links are links over whatever is free too
pub leads_over : {free more : ℕ → Type 0} {links : List ℕ} → ((y : ℕ) → 0 < y → free y → more y) → Leads free links → Leads more links
leads_over f l = record { long = l.long; on = l.on; past = λ k y hk lo hy hi. f y (omega arith) (l.past k y hk lo hy hi) }

-- a knot more is linked
pub linked_leads : {free : ℕ → Type 0} {before after : List ℕ} {z : ℕ} → Leads free before → Linked before after z →
    Leads (λ y. free y × (y ≡ z → ⊥)) after
linked_leads {free} {before} {after} {z} l link =
    record {
      long = link.long;
      on = λ k hk. ⊎_elim (λ e. subst (λ (n : ℕ). k < n) (sym (link.at k hk ∙ cond_true _ _ _ e)) (ltb-true k z (and_both (ltb k z) _ e).0))
          (λ e. subst (λ (n : ℕ). k < n) (sym (link.at k hk ∙ cond_false _ _ _ e)) (l.on k hk)) (either (ltb k z && ltb z (get_or before k 0)));
      past = λ k y hk lo hy hi.
          ⊎_elim
          (λ e.
          let short = subst (λ (n : ℕ). y < n) (link.at k hk ∙ cond_true _ _ _ e) hi in
          let far = ltb-true z (get_or before k 0) (and_both (ltb k z) _ e).1 in
          (l.past k y hk lo hy (omega arith), λ q. omega arith))
          (λ e.
          let there = subst (λ (n : ℕ). y < n) (link.at k hk ∙ cond_false _ _ _ e) hi in
          (l.past k y hk lo hy there, λ q. true_not_false _ (and_of _ _ (lt-ltb k z (omega arith)) (lt-ltb z (get_or before k 0) (omega arith))) e))
          (either (ltb k z && ltb z (get_or before k 0)));
    }

-- links that lead past all
pub unlinked_leads : {links : List ℕ} → links ≡ unlinked → Leads (λ y. Unit) links
unlinked_leads e =
    rw e (record { long = length-replicate {A = ℕ} 131 131; on = λ k hk. rw (all_same 131 k hk) hk; past = λ k y hk lo hy hi. tt })
  where
    all_same : (n k : ℕ) → k < n → ◌≡◌ {A = ℕ} (get_or (replicate n 131) k 0) 131
    all_same zero k lt = absurd (omega arith)
    all_same (suc n) zero lt = refl
    all_same (suc n) (suc k) lt = all_same n k (omega arith)

-- a fresh map has lines at the knots of its edges and next to them
pub fresh_bare : (w h : ℕ) (d : Direction) (y : ℕ) → 0 < y → (y ≡ 1 → ⊥) → (y ≡ side d w h + 1 → ⊥) → (y ≡ side d w h + 2 → ⊥) → Bare (fresh_mesh w h) d y
unfolding fresh_mesh
fresh_bare w h d y pos a b c k =
    rw (ne_eqb y 0 (λ e. omega arith), ne_eqb y 1 a, ne_eqb y (side d w h + 1) b, ne_eqb y (side d w h + 2) c)

-- A split draws nothing but at its own knot, in its own direction.
module _ (w h : ℕ) (s : Split) (M N : Mesh) (more : (d : Direction) (z k : ℕ) → N d z k ≡ (M d z k || draws w h d z k s)) where
  still_bare : (d : Direction) (y : ℕ) → Bare M d y → (eqb s.direction (number d) && eqb y (s.position + 1)) ≡ false → Bare N d y
  unfolding draws
  still_bare d y bare off k = more d y k ∙ rw (bare k, off)

  pub own_bare : (d : Direction) (y : ℕ) → Bare M d y → (y ≡ s.position + 1 → ⊥) → Bare N d y
  own_bare d y bare ne =
      still_bare d y bare (rw (ne_eqb _ _ ne) (and-false (eqb s.direction (number d))))

  pub other_bare : (d : Direction) (y : ℕ) → (s.direction ≡ number d → ⊥) → Bare M d y → Bare N d y
  other_bare d y ne bare = still_bare d y bare (rw (ne_eqb _ _ ne))
