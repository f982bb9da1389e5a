-- The mesh of a layout with one split more: which unit steps the split adds.
use Prim.Native.Nat.{ℕ, ◌+◌, ◌≤◌, ◌<◌}
use native.Mathlib.Omega.{arith}
use mathlib.Core.Path.{◌≡◌, refl, sym, ap, fun_ext, ◌∙◌}
use mathlib.Core.Logic.{◌⊎◌, inl, inr, ⊎_elim}
use mathlib.Core.Bool.{Bool, true, ◌||◌, or_assoc, or-false}
use mathlib.Core.List.{List, [], ◌∷◌, ◌++◌}
use lib.Dec.{ltb, eqb}
use borrow.Author.Tests.{eqb-true, eq-eqb, leb-true, le-leb, ltb-true, lt-ltb}
use Rattle.axis.specs.Range.{any}
use Rattle.axis.specs.declared.Side.{Side}
use Rattle.axis.specs.declared.Side.TheVariants.{Lower as lower, Upper as upper}
use Rattle.axis.proofs.Tests.{either, and_both, and_of, or_either, or_left, or_right, any_append}
use Rattle.axis.proofs.Runs.{if_equal}
use Rattle.mesh.specs.Lines.{number, other, side, direction, Mesh, mesh, fresh_mesh, draws, start, end, in_range, Layout, layout, mesh_of}
use Rattle.mesh.specs.declared.Direction.{Direction}
use Rattle.mesh.specs.declared.Direction.TheVariants.{Upright as upright, Level as level}
use Rattle.mesh.specs.Splits.{with_line}
use Rattle.mesh.specs.Order.{Coarser}
use Rattle.mesh.specs.Bytes.{bytes_mesh}
use Rattle.mesh.specs.Carried.{Leads, Bare, InBytes}
use Rattle.mesh.specs.declared.Split.{Split}
use Rattle.mesh.proofs.Ranges.{in_range_says}

-- the direction of a split in range has its number
pub direction_named : (w h : ℕ) (s : Split) → in_range w h s ≡ true → s.direction ≡ number (direction s.direction)
unfolding in_range
direction_named w h s e =
    ⊎_elim (λ q. rw q (eqb-true _ _ q)) (λ q. rw q (eqb-true _ _ (and_both _ _ (rw q at e)).0)) (either (eqb s.direction 0))

number_one : (d e : Direction) → number d ≡ number e → d ≡ e
number_one upright upright q = refl
number_one upright level q = absurd (omega arith)
number_one level upright q = absurd (omega arith)
number_one level level q = refl

-- A split in range draws the unit steps from its first knot, and run out where it ends at a side.
pub record Ranged (w h : ℕ) (d : Direction) (s : Split) : Type 0 where
  pub way : s.direction ≡ number d
  pub inner : (1 < s.position + 1) × (s.position + 1 ≤ side d w h)
  pub range : (1 ≤ s.from + 1) × (s.from + 1 < s.to + 1) × (s.to + 1 ≤ side (other d) w h + 1)

pub ranged : (w h : ℕ) (s : Split) → in_range w h s ≡ true → Ranged w h (direction s.direction) s
ranged w h s e =
    let way = direction_named w h s e in
    let r = in_range_says w h (direction s.direction) s e way in
    record { way = way; inner = (omega arith, omega arith); range = (omega arith, omega arith, omega arith) }

-- the ends of a split, in knots
abbrev pub end_of : Side → Split → ℕ
end_of lower s = s.from + 1
end_of upper s = s.to + 1

-- which of the rows a split draws
abbrev pub Row : ℕ → Split → ℕ → Type 0
Row run s k = ((s.from + 1 ≤ k) × (k < s.to + 1)) ⊎ (((k ≡ 0) × (s.from + 1 ≡ 1)) ⊎ ((k ≡ run + 1) × (s.to + 1 ≡ run + 1)))

module _ (w h : ℕ) (d : Direction) (s : Split) (r : Ranged w h d s) where
  abbrev run : ℕ
  run = side (other d) w h

  pub draws_says : (e : Direction) (z k : ℕ) → draws w h e z k s ≡ true → (e ≡ d) × (z ≡ s.position + 1) × Row run s k
  unfolding draws
  draws_says e z k t =
      let a = and_both _ _ t in
      let b = and_both _ _ a.0 in
      let c = and_both _ _ b.0 in
      let same : e ≡ d = number_one e d (sym (eqb-true _ _ c.0) ∙ r.way) in
      (same, eqb-true _ _ c.1, row k (leb-true _ _ b.1) (ap (λ (f : Direction). ltb k (end (side (other f) w h) s)) (sym same) ∙ a.1))
    where
      row : (k : ℕ) → start s ≤ k → ltb k (end run s) ≡ true → Row run s k
      row k lo t =
          let hi = ltb-true k (end run s) t in
          ⊎_elim
          (λ p. let zero = eqb-true s.from 0 p in
          if_equal k 0 (λ e. inr (inl (e, omega arith))) (λ pos. upwards k hi (omega arith)))
          (λ p. upwards k hi (rw p at lo))
          (either (eqb s.from 0))
        where
          upwards : (k : ℕ) → k < end run s → s.from + 1 ≤ k → Row run s k
          upwards k hi le =
              ⊎_elim
              (λ p. let last = eqb-true s.to run p in
              let lt : k < run + 2 = rw p at hi in
              if_equal k (run + 1) (λ e. inr (inr (e, omega arith))) (λ ne. inl (le, omega arith)))
              (λ p. inl (le, rw p at hi))
              (either (eqb s.to run))

  pub draws_of : (k : ℕ) → Row run s k → draws w h d (s.position + 1) k s ≡ true
  unfolding draws
  draws_of k o =
      and_of _ _ (and_of _ _ (and_of _ _ (eq-eqb _ _ r.way) (eq-eqb (s.position + 1) (s.position + 1) refl)) (le-leb _ _ (first k o)))
      (lt-ltb _ _ (last k o))
    where
      first : (k : ℕ) → Row run s k → start s ≤ k
      first k (inl i) = ⊎_elim (λ p. rw p (omega arith)) (λ p. rw p i.0) (either (eqb s.from 0))
      first k (inr (inl i)) = rw (eq-eqb s.from 0 (omega arith)) (omega arith)
      first k (inr (inr i)) = ⊎_elim (λ p. rw p (omega arith)) (λ p. rw p (omega arith)) (either (eqb s.from 0))

      last : (k : ℕ) → Row run s k → k < end run s
      last k (inl i) = ⊎_elim (λ p. rw p (omega arith)) (λ p. rw p i.1) (either (eqb s.to run))
      last k (inr (inl i)) = ⊎_elim (λ p. rw p (omega arith)) (λ p. rw p (omega arith)) (either (eqb s.to run))
      last k (inr (inr i)) = rw (eq-eqb s.to run (omega arith)) (omega arith)

-- The steps of a layout with the split are its own and those that the split draws.
pub more_steps : (P : Layout) (s : Split) (e : Direction) (z k : ℕ) → mesh_of (with_line P s) e z k ≡ (mesh_of P e z k || draws P.w P.h e z k s)
unfolding mesh
more_steps P s e z k =
    let test = draws P.w P.h e z k in
    ap (λ (b : Bool). fresh_mesh P.w P.h e z k || b)
    (any_append test P.splits (s ∷ []) ∙ ap (λ (b : Bool). any test P.splits || b) (or-false (test s))) ∙
    sym (or_assoc (fresh_mesh P.w P.h e z k) (any test P.splits) (test s))

module _ (P : Layout) (s : Split) where
  pub more_finer : Coarser (mesh_of P) (mesh_of (with_line P s))
  more_finer d z k e = more_steps P s d z k ∙ or_left _ _ e

  module _ (d : Direction) (r : Ranged P.w P.h d s) where
    pub step_drawn : (k : ℕ) → Row (side (other d) P.w P.h) s k → mesh_of (with_line P s) d (s.position + 1) k ≡ true
    step_drawn k o = more_steps P s d (s.position + 1) k ∙ or_right (mesh_of P d (s.position + 1) k) _ (draws_of P.w P.h d s r k o)

    pub step_either : (e : Direction) (z k : ℕ) → mesh_of (with_line P s) e z k ≡ true →
        (mesh_of P e z k ≡ true) ⊎ ((e ≡ d) × (z ≡ s.position + 1) × Row (side (other d) P.w P.h) s k)
    step_either e z k on =
        ⊎_elim inl (λ t. inr (draws_says P.w P.h d s r e z k t))
        (or_either (mesh_of P e z k) (draws P.w P.h e z k s) (sym (more_steps P s e z k) ∙ on))

-- bytes and links with one line more
pub in_bytes_more : (w h : ℕ) (ss : List Split) (s : Split) {ups lvs cols rows ups' lvs' cols' rows' : List ℕ} → InBytes (mesh w h ss) ups lvs cols rows →
    ((e : Direction) (y k : ℕ) → bytes_mesh ups' lvs' e y k ≡ (bytes_mesh ups lvs e y k || draws w h e y k s)) →
    ((M N : Mesh) → ((e : Direction) (y k : ℕ) → N e y k ≡ (M e y k || draws w h e y k s)) → Leads (Bare M upright) cols → Leads (Bare M level) rows →
    Leads (Bare N upright) cols' × Leads (Bare N level) rows') → InBytes (mesh w h (ss ++ s ∷ [])) ups' lvs' cols' rows'
in_bytes_more w h ss s was drawn linked =
    let P = layout w h ss in
    let leads = linked (mesh w h ss) (mesh w h (ss ++ s ∷ [])) (more_steps P s) was.over_columns was.over_rows in
    record {
      drawn = fun_ext (λ e. fun_ext (λ y. fun_ext (λ k. drawn e y k ∙ rw was.drawn (sym (more_steps P s e y k)))));
      over_columns = leads.0;
      over_rows = leads.1;
    }
