-- `mesh::read::KeptIterator::next` meets its contract: the next place that holds a blend, past columns that are done.
use Rattle.std.proofs.Common.{◌≡◌, ◌∷◌, sym, ap, ◌∙◌, length, arith, rules}
use Rattle.mesh.specs.Carried.{kept_left, CanWalk}
use Rattle.mesh.specs.Bytes.{unpacked}
use Rattle.mesh.proofs.Reading.{column_leads, row_leads, kept_none, kept_column, kept_empty, kept_holds}
use Rattle.mesh.proofs.read.KeptIterator.next.Goals as goal

pub bounds-t-m : goal.bounds-t-m
bounds-t-m g c = let wide = c.requires.0.wide in let high = c.requires.0.high in omega (arith, c.requires.1)

-- the blend here, and those that are left behind it
turn : {g : _} (c : goal.After-unpack g) → kept_left c.args.self.now ≡ c.unpack.result ∷ kept_left (record {
  drawing = c.loop-self.self.drawing;
  m = c.loop-self.self.m;
  n = c.from-self.result;
})
turn c =
    let t = c.args.self.now.drawing.now in
    let l = c.loop-self in
    rw (c.unpack.ensures, l.invariant.same, c.from-self.ensures) (sym l.invariant.left ∙
    kept_holds t.w t.h t.places c.requires.0 l.self.m l.self.n c.loop-self-test.true c.if-n-t.true c.if-c-ne0.true)

pub returns-then-c-ne0-clause-steps : goal.returns-then-c-ne0-clause-steps
unfolding unpacked
returns-then-c-ne0-clause-steps g c =
    let wide = c.requires.0.wide in
    let high = c.requires.0.high in
    (turn c, rw c.unpack.ensures (omega arith, omega arith))

pub returns-then-c-ne0-clause-goes : goal.returns-then-c-ne0-clause-goes
returns-then-c-ne0-clause-goes g c =
    let t = c.args.self.now.drawing.now in
    let l = c.loop-self in
    let on = row_leads t.w t.h t.places c.requires.0 l.self.n c.if-n-t.true in
    let can : CanWalk (record { drawing = l.self.drawing; m = l.self.m; n = c.from-self.result }) =
    rw l.invariant.same (c.requires.0, c.requires.1, l.invariant.begun.0, omega (arith, c.from-self.ensures)) in
    let less = ap length (turn c) in
    record { on = λ fin. (can, search rules, omega (arith, less)); keeps = can; rests = search rules }

pub loop-self-preserved-else-c-ne0 : goal.loop-self-preserved-else-c-ne0
loop-self-preserved-else-c-ne0 g c =
    let t = c.args.self.now.drawing.now in
    let l = c.loop-self in
    let on = row_leads t.w t.h t.places c.requires.0 l.self.n c.if-n-t.true in
    record {
      begun = (l.invariant.begun.0, omega (arith, c.from-self.ensures));
      same = l.invariant.same;
      left = rw c.from-self.ensures
          (sym (kept_empty t.w t.h t.places c.requires.0 l.self.m l.self.n c.loop-self-test.true c.if-n-t.true c.if-c-ne0.false) ∙ l.invariant.left);
    }

pub loop-self-preserved : goal.loop-self-preserved
loop-self-preserved g c =
    let t = c.args.self.now.drawing.now in
    let l = c.loop-self in
    let on = column_leads t.w t.h t.places c.requires.0 l.self.m c.loop-self-test.true in
    record {
      begun = (omega (arith, c.from-self-else-n-t.ensures), omega arith);
      same = l.invariant.same;
      left = rw c.from-self-else-n-t.ensures
          (sym (kept_column t.w t.h t.places c.requires.0 l.self.m l.self.n c.loop-self-test.true c.if-n-t.false) ∙ l.invariant.left);
    }

pub returns-clause-steps : goal.returns-clause-steps
returns-clause-steps g c =
    let t = c.args.self.now.drawing.now in
    let l = c.loop-self in
    let none = kept_none t.w t.h t.places l.self.m l.self.n c.loop-self-test.false in
    ((sym l.invariant.left ∙ none, rw l.invariant.same none), tt)
