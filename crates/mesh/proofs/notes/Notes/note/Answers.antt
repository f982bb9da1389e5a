-- `mesh::notes::Notes::note` meets its contract: at most one of the two notes is written, since a knot is not on both sides of a middle.
use Rattle.std.proofs.Common.{ℕ, ◌≡◌, sym, ◌∙◌, List, [], ◌∷◌, arith, le-ltb}
use borrow.Author.Tests.{ltb-true}
use mathlib.Core.Bool.{true, false, and-false}
use lib.Dec.{ltb}
use lib.ListN.{set}
use Rattle.axis.specs.Triple.{knot_in}
use Rattle.axis.specs.declared.Side.{Side}
use Rattle.axis.specs.declared.Side.TheVariants.{Lower as lower, Upper as upper}
use Rattle.axis.specs.declared.Triple.{Triple}
use Rattle.axis.proofs.Tests.{and_both}
use Rattle.mesh.specs.declared.Direction.{Direction}
use Rattle.mesh.specs.Blends.{crossed, along}
use Rattle.mesh.specs.Carried.{noted, note_all}
use Rattle.mesh.specs.declared.Blend.{Blend}
use Rattle.mesh.proofs.notes.Notes.note.Goals as goal

above_only : (z : ℕ) (t : Triple) → knot_in upper z t ≡ true → knot_in lower z t ≡ false
above_only z t e =
    let lt = ltb-true t.m z (and_both (ltb t.m z) (ltb z t.r) e).0 in rw (le-ltb z t.m (omega arith), and-false (ltb t.l z))

-- a blend is noted, or passed over
noted_there : (e : Side) (d : Direction) (z k : ℕ) (notes : List ℕ) (x : Blend) → knot_in e z (crossed d x) ≡ true → k ≡ (along d x).m →
    set notes k (noted x) ≡ note_all e d z notes (x ∷ [])
unfolding note_all
noted_there e d z k notes x on there = rw (on, there)

passed_over : (e : Side) (d : Direction) (z : ℕ) (notes : List ℕ) (x : Blend) → knot_in e z (crossed d x) ≡ false → notes ≡ note_all e d z notes (x ∷ [])
unfolding note_all
passed_over e d z notes x off = rw off

pub returns-then-has_inside : goal.returns-then-has_inside
returns-then-has_inside c =
    let a = c.args in
    let over = c.has_inside.ensures ∙ rw c.crossed-t.ensures in
    let on = sym over ∙ c.if-has_inside.true in (
      rw c.to_note.ensures (noted_there _ _ _ _ _ _ on (c.from-k.ensures ∙ rw c.along.ensures)),
      passed_over _ _ _ _ _ (above_only a.z (crossed a.d a.x) on),
    )

pub returns-then-has_inside-2 : goal.returns-then-has_inside-2
returns-then-has_inside-2 c =
    let below = c.has_inside-else-has_inside.ensures ∙ rw c.crossed-t.ensures in (
      passed_over _ _ _ _ _ (sym (c.has_inside.ensures ∙ rw c.crossed-t.ensures) ∙ c.if-has_inside.false),
      rw c.to_note-then-has_inside-2.ensures (noted_there _ _ _ _ _ _ (sym below ∙ c.if-has_inside-2.true) (c.from-k.ensures ∙ rw c.along.ensures)),
    )

pub returns-else-has_inside-2 : goal.returns-else-has_inside-2
returns-else-has_inside-2 c = (
  passed_over _ _ _ _ _ (sym (c.has_inside.ensures ∙ rw c.crossed-t.ensures) ∙ c.if-has_inside.false),
  passed_over _ _ _ _ _ (sym (c.has_inside-else-has_inside.ensures ∙ rw c.crossed-t.ensures) ∙ c.if-has_inside-2.false),
)
