-- The blends that are left are those that were left at first.
use Rattle.std.proofs.Common.{◌+◌, ◌*◌, ◌-◌, ◌≡◌, ◌≤◌}
use Rattle.mesh.specs.Carried.{kept_from, kept_left}
use Rattle.mesh.proofs.read.KeptIterator.next.Given as goal

abbrev pub invariant-loop-self : goal.invariant-loop-self
invariant-loop-self g l = record {
  begun : (1 ≤ l.self.m) × (1 ≤ l.self.n);
  same : l.self.drawing ≡ l.fn.self.drawing;
  left : kept_from l.t.w l.t.h l.t.places l.self.m l.self.n ≡ kept_left l.fn.self;
}

-- one column after the other, and in each one place after the other
abbrev pub decreases-loop-self : goal.decreases-loop-self
decreases-loop-self g l = (l.t.w + 2 - l.self.m) * 300 + (300 - l.self.n)
