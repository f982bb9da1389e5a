-- `mesh::carried::Drawing::add_line` meets its contract: the split is drawn in both directions' bytes, and its knot is linked in its own direction.
use Rattle.std.proofs.Common.{ℕ, ◌+◌, ◌≤◌, ◌<◌, ◌≡◌, refl, sym, ap, ◌∙◌, List, arith}
use mathlib.Core.Bool.{true, ◌||◌}
use Rattle.axis.specs.Limits.{largest_side}
use Rattle.mesh.specs.Lines.{in_range, draws, direction, number}
use Rattle.mesh.specs.declared.Direction.{Direction}
use Rattle.mesh.specs.declared.Direction.TheVariants.{Upright as upright, Level as level}
use Rattle.mesh.specs.Bytes.{step_on, bytes_mesh}
use Rattle.mesh.specs.declared.Split.{Split}
use Rattle.mesh.proofs.Ranges.{in_range_small, in_range_says, in_range_rows}
use Rattle.mesh.proofs.Linking.{leads_over, linked_leads, own_bare, other_bare}
use Rattle.mesh.proofs.carried.Drawing.add_line.Goals as goal

-- both meshes drawn, each with what the split draws in its direction
both_drawn : (ups ups' lvs lvs' : List ℕ) (w h : ℕ) (s : Split) →
    ((z k : ℕ) → step_on ups' z k ≡ (step_on ups z k || draws w h upright z k s)) →
    ((z k : ℕ) → step_on lvs' z k ≡ (step_on lvs z k || draws w h level z k s)) →
    (d : Direction) (z k : ℕ) → bytes_mesh ups' lvs' d z k ≡ (bytes_mesh ups lvs d z k || draws w h d z k s)
unfolding bytes_mesh
both_drawn ups ups' lvs lvs' w h s f g upright = f
both_drawn ups ups' lvs lvs' w h s f g level = g

-- a split in range has its knot
in_knots : (w h : ℕ) (s : Split) → in_range w h s ≡ true → w ≤ largest_side → h ≤ largest_side → s.position + 1 < 131
in_knots w h s e wide high = omega (arith, (in_range_small w h s e wide high).position)

-- it has one direction
no_level : (n : ℕ) → direction n ≡ upright → n ≡ 1 → ⊥
no_level n d e = omega (arith, ap number (sym (ap direction e) ∙ d))

no_upright : (n : ℕ) → direction n ≡ level → n ≡ 0 → ⊥
no_upright n d e = omega (arith, ap number (sym (ap direction e) ∙ d))

pub draw_split-requires : goal.draw_split-requires
draw_split-requires g c =
    let t = c.args.self.now in
    let s = c.args.s in
    let pre = c.requires in
    let rows = in_range_rows t.w t.h s t.uprights pre.4 pre.0.0 in
    (rows.0, pre.2, λ e. let r = in_range_says t.w t.h upright s pre.4 e in (omega arith, r.1, r.2))

pub draw_split-requires-2 : goal.draw_split-requires-2
draw_split-requires-2 g c =
    let t = c.args.self.now in
    let s = c.args.s in
    let pre = c.requires in
    let rows = in_range_rows t.w t.h s t.levels pre.4 pre.0.1 in
    (rows.0, pre.1, λ e. let r = in_range_says t.w t.h level s pre.4 e in (omega arith, r.1, r.2))

pub overflow_add-z : goal.overflow_add-z
overflow_add-z g c = let t = c.args.self.now in omega (arith, in_knots t.w t.h c.args.s c.requires.4 c.requires.1 c.requires.2)

pub link-requires : goal.link-requires
link-requires g c = let t = c.args.self.now in (omega arith, in_knots t.w t.h c.args.s c.requires.4 c.requires.1 c.requires.2)

pub link-requires-in-Level : goal.link-requires-in-Level
link-requires-in-Level g c = let t = c.args.self.now in (omega arith, in_knots t.w t.h c.args.s c.requires.4 c.requires.1 c.requires.2)

pub returns-in-Upright : goal.returns-in-Upright
returns-in-Upright g c =
    let t = c.args.self.now in
    let s = c.args.s in
    let ups = c.draw_split.ensures in
    let lvs = c.draw_split-2.ensures in
    let way = sym c.way.ensures ∙ c.in-Upright.is in
    record {
      kept = record { is_w = refl; is_h = refl; is_places = refl; long = (ups.0, lvs.0) };
      is_count = refl;
      drawn = both_drawn _ _ _ _ _ _ _ (ups.1 _ _ refl) (lvs.1 _ _ refl);
      linked = λ M N more over_columns over_rows. (
        leads_over (λ y pos free. own_bare t.w t.h s M N more upright y free.0 free.1) (linked_leads over_columns c.link.ensures),
        leads_over (λ y pos free. other_bare t.w t.h s M N more level y (no_level s.direction way) free) over_rows,
      );
    }

pub returns-in-Level : goal.returns-in-Level
returns-in-Level g c =
    let t = c.args.self.now in
    let s = c.args.s in
    let ups = c.draw_split.ensures in
    let lvs = c.draw_split-2.ensures in
    let way = sym c.way.ensures ∙ c.in-Level.is in
    record {
      kept = record { is_w = refl; is_h = refl; is_places = refl; long = (ups.0, lvs.0) };
      is_count = refl;
      drawn = both_drawn _ _ _ _ _ _ _ (ups.1 _ _ refl) (lvs.1 _ _ refl);
      linked = λ M N more over_columns over_rows. (
        leads_over (λ y pos free. other_bare t.w t.h s M N more upright y (no_upright s.direction way) free) over_columns,
        leads_over (λ y pos free. own_bare t.w t.h s M N more level y free.0 free.1) (linked_leads over_rows c.link-in-Level.ensures),
      );
    }
