-- `mesh::carried::Drawing::ends_on_lines` meets its contract: one end, then the other.
use Rattle.std.proofs.Common.{ℕ, ◌+◌, ◌-◌, ◌≡◌, refl, sym, ◌∙◌, Bool, true, false, ◌||◌, arith}
use borrow.Author.Tests.{lt-ltb}
use Rattle.axis.specs.Range.{some}
use Rattle.mesh.specs.Lines.{Mesh, on_line, ended}
use Rattle.mesh.specs.declared.Direction.{Direction}
use Rattle.mesh.proofs.carried.Drawing.ends_on_lines.Goals as goal

-- a point lies on a line where the step before it or the one after it is on
turned : (a b : Bool) → (a || b) ≡ (b || (a || false))
turned true true = refl
turned true false = refl
turned false true = refl
turned false false = refl

point_by : (M : Mesh) (d : Direction) (z p : ℕ) → on_line M d z (p + 1) ≡ some p 2 (M d z)
unfolding on_line
point_by M d z p =
    let back : p + 1 - 1 ≡ p = omega arith in
    rw (lt-ltb 0 (p + 1) (omega arith), back) (turned (M d z (p + 1)) (M d z p))

pub returns-then-some_on : goal.returns-then-some_on
unfolding ended
returns-then-some_on g c =
    let across = rw c.way.ensures at c.other-across.ensures in
    let first = rw across at (sym c.some_on.ensures ∙ c.if-some_on.true) in
    c.some_on-then-some_on.ensures ∙ rw (across, point_by _ _ (c.args.s.from + 1) _, point_by, first)

pub returns-else-some_on : goal.returns-else-some_on
unfolding ended
returns-else-some_on g c =
    let across = rw c.way.ensures at c.other-across.ensures in
    let first = rw across at (sym c.some_on.ensures ∙ c.if-some_on.false) in
    c.if-some_on.false ∙ rw (point_by _ _ (c.args.s.from + 1) _, first)
