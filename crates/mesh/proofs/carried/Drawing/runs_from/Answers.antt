-- `mesh::carried::Drawing::runs_from` meets its contract: one step back at a time, while steps are on.
use Rattle.std.proofs.Common.{ℕ, zero, suc, ◌+◌, ◌-◌, ◌<◌, ◌≡◌, sym, ◌∙◌, Bool, true, false, arith}
use Rattle.mesh.specs.Carried.{runs_from}
use Rattle.mesh.proofs.carried.Drawing.runs_from.Goals as goal

-- one turn back
turn : (line : ℕ → Bool) (k : ℕ) → 0 < k → line (k - 1) ≡ true → runs_from line (k - 1) ≡ runs_from line k
unfolding runs_from
turn line zero lt e = absurd (omega arith)
turn line (suc k) lt e = let same : suc k - 1 ≡ k = omega arith in rw (same, let on : line k ≡ true = rw same at e in on)

stop : (line : ℕ → Bool) (k : ℕ) → 0 < k → line (k - 1) ≡ false → k - 1 + 1 ≡ runs_from line k
unfolding runs_from
stop line zero lt e = absurd (omega arith)
stop line (suc k) lt e =
    let same : suc k - 1 ≡ k = omega arith in
    let on : suc k - 1 + 1 ≡ suc k = omega arith in
    on ∙ rw (let off : line k ≡ false = rw same at e in off)

pub returns-then-not-on : goal.returns-then-not-on
returns-then-not-on g c =
    stop _ c.loop-k.k (omega arith) (rw c.way.ensures at (sym c.if-not-on.ensures)) ∙ c.loop-k.invariant

pub loop-k-preserved : goal.loop-k-preserved
loop-k-preserved g c =
    turn _ c.loop-k.k (omega arith) (rw c.way.ensures at (sym c.if-not-on.ensures)) ∙ c.loop-k.invariant

pub returns : goal.returns
unfolding runs_from
returns g c = let none : c.loop-k.k ≡ 0 = omega arith in sym (rw none) ∙ c.loop-k.invariant
