-- Which of the lines that cut a triple comes first: the nearest below the middle, else the nearest above it; 0 where none cuts (no line at −1
-- does). Which one is taken first makes no difference to what is left of a blend.
use Rattle.std.specs.Prelude.{ℕ, zero, suc, ◌+◌, ◌-◌, Bool, cond, eqb, Option, Some, None}
use Rattle.axis.specs.declared.Triple.{Triple}

unfoldable pub below : (ℕ → Bool) → ℕ → ℕ → ℕ
below line l zero = 0
below line l (suc n) = let rest = below line l n in cond (line (l + suc n)) (l + suc n) rest

unfoldable pub above : (ℕ → Bool) → ℕ → ℕ → ℕ
above line r zero = 0
above line r (suc n) = let rest = above line r n in cond (line (r - suc n)) (r - suc n) rest

unfoldable pub nearest : (ℕ → Bool) → Triple → ℕ
nearest line t =
    let high = above line t.r (t.r - t.m - 1) in
    let low = below line t.l (t.m - t.l - 1) in
    cond (eqb low 0) high low

-- such a line, if any
abbrev pub any_line : ℕ → Option ℕ
any_line zero = None
any_line (suc z) = Some (suc z)
