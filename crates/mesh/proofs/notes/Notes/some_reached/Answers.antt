-- `mesh::notes::Notes::some_reached` meets its contract.
use Rattle.std.proofs.Common.{◌+◌, ◌-◌, ◌≡◌, sym, ◌∙◌, arith}
use Rattle.axis.proofs.Tests.{some_turn}
use Rattle.mesh.proofs.notes.Notes.some_reached.Invariants.{at}
use Rattle.mesh.proofs.notes.Notes.some_reached.Goals as goal
use Rattle.mesh.proofs.notes.Notes.some_reached.Goals.{then-is_reached-via-then-is_reached, then-is_reached-via-else-is_reached+then-is_reached-2}

pub returns-then-is_reached : goal.returns-then-is_reached
returns-then-is_reached c =
    let a = c.args in
    let l = c.loop-k in
    let turn = some_turn l.k (a.to - l.k) (at a.self.now.lows a.self.now.highs a.d a.from a.to) (omega arith) in
    sym (sym l.invariant ∙ turn ∙ elim c.then-is_reached.branch [
      | then-is_reached-via-then-is_reached w ↦ rw (sym c.is_reached.ensures ∙ w.if-is_reached.true)
      | then-is_reached-via-else-is_reached+then-is_reached-2 w ↦
          rw (sym c.is_reached.ensures ∙ w.if-is_reached.false, sym w.is_reached-else-is_reached.ensures ∙ w.if-is_reached-2.true)
    ])

pub loop-k-preserved : goal.loop-k-preserved
loop-k-preserved c =
    let a = c.args in
    let l = c.loop-k in
    let less : a.to - l.k - 1 ≡ a.to - (l.k + 1) = omega arith in
    let turn = some_turn l.k (a.to - l.k) (at a.self.now.lows a.self.now.highs a.d a.from a.to) (omega arith) in
    sym (sym l.invariant ∙ turn ∙
    rw (less, sym c.is_reached.ensures ∙ c.if-is_reached.false, sym c.is_reached-else-is_reached.ensures ∙ c.if-is_reached-2.false))
