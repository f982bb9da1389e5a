-- `mesh::carried::Drawing::runs_to` meets its contract: one step on at a time, while steps are on.
use Rattle.std.proofs.Common.{ℕ, zero, suc, ◌+◌, ◌-◌, ◌<◌, ◌≡◌, sym, ◌∙◌, Bool, true, false, arith}
use Rattle.mesh.specs.Carried.{runs_to}
use Rattle.mesh.proofs.carried.Drawing.runs_to.Goals as goal

-- one turn on
turn : (line : ℕ → Bool) (k n m : ℕ) → n ≡ suc m → line k ≡ true → runs_to line (k + 1) m ≡ runs_to line k n
unfolding runs_to
turn line k n m same e = rw (same, e)

stop : (line : ℕ → Bool) (k n : ℕ) → 0 < n → line k ≡ false → k ≡ runs_to line k n
unfolding runs_to
stop line k zero lt e = absurd (omega arith)
stop line k (suc n) lt e = rw e

pub returns-then-not-on : goal.returns-then-not-on
returns-then-not-on g c =
    let l = c.loop-k in
    (stop _ l.k (131 - l.k) (omega arith) (rw c.way-in-loop-k.ensures at (sym c.if-not-on.ensures)) ∙ l.invariant, omega arith)

pub loop-k-preserved : goal.loop-k-preserved
loop-k-preserved g c =
    let l = c.loop-k in
    turn _ l.k (131 - l.k) (131 - (l.k + 1)) (omega arith) (rw c.way-in-loop-k.ensures at (sym c.if-not-on.ensures)) ∙ l.invariant

pub returns : goal.returns
unfolding runs_to
returns g c =
    let l = c.loop-k in
    let ends = c.end-k.ensures in
    let last : l.k ≡ 131 = omega arith in
    (sym (rw last) ∙ l.invariant, omega arith)
