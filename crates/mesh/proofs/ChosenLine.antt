-- Document 01, "Values, readings, splits": the lines that a split may take are those that an exact split would be accepted with.
use Prim.Native.Nat.{ℕ, ◌≤◌}
use native.Mathlib.Omega.{arith}
use mathlib.Core.Path.{◌≡◌, refl, sym, ap, subst}
use mathlib.Core.Logic.{◌↔◌, inl, inr, ⊎_elim}
use mathlib.Core.Bool.{true, false, not}
use mathlib.Core.List.{List, ◌∷◌, Memᴰ}
use borrow.Author.Tests.{lt-leb}
use lib.Dec.{leb}
use lib.ListN.{length}
use Rattle.mesh.specs.declared.Split.{Split}
use Rattle.mesh.specs.declared.Blend.{Blend}
use Rattle.axis.specs.Range.{any}
use Rattle.mesh.specs.Lines.{Layout, Mesh, direction, in_range, mesh_of}
use Rattle.mesh.specs.declared.Direction.{Direction}
use Rattle.mesh.specs.Blends.{is_cut, RiseB}
use Rattle.mesh.specs.Order.{Coarser}
use Rattle.axis.proofs.Tests.{and_of, any_at, any_of}
use Rattle.mesh.proofs.Cuts.{cut_exactly, proper_rises}
use Rattle.mesh.proofs.Order.{finer_cuts}
use Rattle.mesh.proofs.SoundMaps.{live_proper}
use Rattle.mesh.proofs.Containing.{contains_spanning, chosen_least}
use Rattle.mesh.specs.Splits.{live_of, with_line, given, exact_number}
use Rattle.mesh.specs.Lengthening.{candidate, run, Contains, chosen}
use Rattle.mesh.proofs.OneLineMore.{Ranged, Row, ranged, more_finer, step_drawn, step_either}
use Rattle.mesh.proofs.Passing.{given_says, exact_says, candidate_says, spanning_fits, ends_in}

-- A finer mesh cuts what a coarser one cuts.
finer_cut : (M N : Mesh) → Coarser M N → (B : Blend) → RiseB B → is_cut M B ≡ true → is_cut N B ≡ true
finer_cut M N finer B h e =
    let r = (cut_exactly M B h).0 e in (cut_exactly N B h).1 r.0 r.1 (finer_cuts M N finer r.0 r.1 B r.2)

-- A line that contains one in range is in range,
pub contains_fits : (P : Layout) (s c : Split) → in_range P.w P.h s ≡ true → Contains P s c → in_range P.w P.h c ≡ true
contains_fits P s c fits i =
    let ends = ends_in P s fits in
    rw (contains_spanning P s c i) (spanning_fits P s c.from c.to fits (omega (arith, i.begins, i.ends)) i.within)

-- draws, run out, all that it draws,
pub contains_finer : (P : Layout) (s c : Split) → in_range P.w P.h s ≡ true → Contains P s c → Coarser (mesh_of (with_line P s)) (mesh_of (with_line P c))
contains_finer P s c fits i e z k on =
    ⊎_elim (more_finer P c e z k)
    (λ q. subst (λ (f : Direction). mesh_of (with_line P c) f z k ≡ true) (sym q.0)
    (subst (λ (y : ℕ). mesh_of (with_line P c) d y k ≡ true) (omega (arith, q.1, i.same_place)) (step_drawn P c d longer k (row q.2))))
    (step_either P s d (ranged P.w P.h s fits) e z k on)
  where
    d : Direction
    d = direction s.direction

    longer : Ranged P.w P.h (direction s.direction) c
    longer = subst (λ (n : ℕ). Ranged P.w P.h (direction n) c) i.same_way (ranged P.w P.h c (contains_fits P s c fits i))

    row : Row (run P s) s k → Row (run P s) c k
    row (inl o) = inl (omega arith, omega arith)
    row (inr (inl o)) = inr (inl (o.0, omega arith))
    row (inr (inr o)) = inr (inr (o.0, omega arith))

-- and so cuts what it cuts.
pub contains_cuts : (P : Layout) → 1 ≤ P.w → 1 ≤ P.h → (s c : Split) → in_range P.w P.h s ≡ true → Contains P s c →
    any (is_cut (mesh_of (with_line P s))) (live_of P) ≡ true → any (is_cut (mesh_of (with_line P c))) (live_of P) ≡ true
contains_cuts P hw hh s c fits i e =
    let cut = any_at (is_cut (mesh_of (with_line P s))) (live_of P) e in
    let rises = proper_rises P.w P.h cut.0 (live_proper P.w P.h hw hh (mesh_of P) cut.0 cut.1) in
    any_of (is_cut (mesh_of (with_line P c))) (live_of P) cut.0 cut.1
    (finer_cut (mesh_of (with_line P s)) (mesh_of (with_line P c)) (contains_finer P s c fits i) cut.0 rises cut.2)

-- So a candidate passes every check of an exact split, and a line that does is a candidate;
pub candidate_exact : (P : Layout) → 1 ≤ P.w → 1 ≤ P.h → (s c : Split) → given P s ≡ 0 → Contains P s c → candidate P c ≡ true ↔ (exact_number P c ≡ 0)
unfolding candidate exact_number given
candidate_exact P hw hh s c e i = (
  λ t.
      let g = given_says P s e in
      let a = candidate_says P c t in
      let room : leb 60 (length P.splits) ≡ false = lt-leb _ _ g.room in
      rw (contains_fits P s c g.fits i, room, a.apart, a.ends, contains_cuts P hw hh s c g.fits i g.cut, a.is_sound),
  λ q. let f = exact_says P c q in and_of _ _ (and_of _ _ f.0.ends (ap not f.0.apart)) f.1,
)

-- and so does the line that a split takes.
pub chosen_exact : (P : Layout) → 1 ≤ P.w → 1 ≤ P.h → (s c : Split) (a : ℕ) (cs : List Split) → given P s ≡ 0 → chosen P s a ≡ c ∷ cs →
    exact_number P c ≡ 0
chosen_exact P hw hh s c a cs e first =
    let ends = ends_in P s (given_says P s e).fits in
    let f = ((chosen_least P s a (omega arith)).taken c (rw first (Memᴰ.head refl))).0 in
    (candidate_exact P hw hh s c e f.0).0 f.1
