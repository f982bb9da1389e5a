-- `mesh::carried::Drawing::draw_sides` meets its contract: the lines of a fresh map are drawn, and their knots linked.
use Rattle.std.proofs.Common.{ℕ, ◌≡◌, refl, sym, List, []}
use mathlib.Core.Path.{subst, fun_ext}
use mathlib.Core.Bool.{or-false}
use Rattle.mesh.specs.Lines.{Mesh, fresh_mesh, mesh}
use Rattle.mesh.specs.declared.Direction.{Direction}
use Rattle.mesh.specs.declared.Direction.TheVariants.{Upright as upright, Level as level}
use Rattle.mesh.specs.Bytes.{step_on, bytes_mesh}
use Rattle.mesh.specs.Carried.{Leads, Bare, InBytes}
use Rattle.mesh.proofs.carried.Drawing.draw_sides.Goals as goal

both_fresh : (w h : ℕ) (ups lvs : List ℕ) → ((z k : ℕ) → step_on ups z k ≡ fresh_mesh w h upright z k) →
    ((z k : ℕ) → step_on lvs z k ≡ fresh_mesh w h level z k) → bytes_mesh ups lvs ≡ fresh_mesh w h
unfolding bytes_mesh
both_fresh w h ups lvs f g = fun_ext by_direction
  where
    by_direction : (d : Direction) → bytes_mesh ups lvs d ≡ fresh_mesh w h d
    by_direction upright = fun_ext (λ z. fun_ext (λ k. f z k))
    by_direction level = fun_ext (λ z. fun_ext (λ k. g z k))

no_splits : (w h : ℕ) → mesh w h [] ≡ fresh_mesh w h
unfolding mesh
no_splits w h = fun_ext (λ d. fun_ext (λ z. fun_ext (λ k. or-false (fresh_mesh w h d z k))))

drawn_fresh : (w h : ℕ) {ups lvs cols rows : List ℕ} → bytes_mesh ups lvs ≡ fresh_mesh w h → Leads (Bare (fresh_mesh w h) upright) cols →
    Leads (Bare (fresh_mesh w h) level) rows → InBytes (mesh w h []) ups lvs cols rows
drawn_fresh w h {ups} {lvs} {cols} {rows} on p q =
    subst (λ (M : Mesh). InBytes M ups lvs cols rows) (sym (no_splits w h)) (record { drawn = on; over_columns = p; over_rows = q })

pub returns : goal.returns
returns g c =
    let t = c.args.self.now in
    let on = both_fresh t.w t.h _ _ (c.draw_fresh.ensures.1 upright _ _ refl refl) (c.draw_fresh-2.ensures.1 level _ _ refl refl) in
    record {
      kept = record { is_w = refl; is_h = refl; is_places = refl; long = (c.draw_fresh.ensures.0, c.draw_fresh-2.ensures.0) };
      is_count = refl;
      lines = drawn_fresh t.w t.h on (c.link_fresh.ensures upright _ _ refl) (c.link_fresh-2.ensures level _ _ refl);
    }
