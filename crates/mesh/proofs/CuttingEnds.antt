-- Cutting ends, whatever the order (document 01, "Blends"): each step lowers a number that the
-- areas of the supports give, and as long as a line cuts some blend there is a step.
use Prim.Native.Nat.{ℕ, zero, suc, ◌+◌, ◌^◌, ◌≤◌, ◌<◌}
use native.Mathlib.Omega.{arith}
use native.Mathlib.Nat.{pow-suc, one-le-pow, pow-le-pow_right}
use mathlib.Core.Path.{◌≡◌, refl, subst, sym}
use mathlib.Core.Logic.{◌⊎◌, inl, inr, ⊎_elim}
use mathlib.Core.List.Memᴰ
use mathlib.Core.List.{List, [], ◌∷◌, ◌++◌, Memᴰ}
use Rattle.axis.specs.declared.Side.TheVariants.{Lower as lower, Upper as upper}
use Rattle.mesh.specs.Lines.{Mesh}
use Rattle.mesh.specs.Blends.{halve, size, Rising}
use Rattle.mesh.specs.Order.{Uncut, Step, replace, drop, Steps, done, step, Cutting, taken, most_steps, CuttingEnds}
use Rattle.mesh.specs.declared.Blend.{Blend}
use Rattle.mesh.proofs.Cuts.{cut_fact, halve_smaller}
use Rattle.mesh.proofs.Order.{cut_or_not, middle, step_rises}

-- two smaller areas count less than one larger
two_smaller : (a b c : ℕ) → a < c → b < c → 3 ^ a + 3 ^ b < 3 ^ c
two_smaller a b zero la lb = absurd (omega arith)
two_smaller a b (suc c) la lb =
    let x : 3 ^ a ≤ 3 ^ c = pow-le-pow_right (omega arith) (omega arith) in
    let y : 3 ^ b ≤ 3 ^ c = pow-le-pow_right (omega arith) (omega arith) in
    omega (arith, pow-suc 3 c, one-le-pow c 3 (omega arith))

most_joined : (xs ys : List Blend) → most_steps (xs ++ ys) ≡ most_steps xs + most_steps ys
most_joined [] ys = omega arith
most_joined (B ∷ xs) ys = omega (arith, most_joined xs ys)

-- A step lowers the bound,
step_lowers : {M : Mesh} {xs ys : List Blend} → Step M xs ys → Rising xs → most_steps ys < most_steps xs
step_lowers {M} (replace xs B ys d z p) h =
    let r = h B (middle xs B ys refl) in
    let i = (cut_fact M d z B p).inside in
    let less = two_smaller _ _ _ (halve_smaller d lower z B r i) (halve_smaller d upper z B r i) in
    omega (arith, most_joined xs (B ∷ ys), most_joined xs (halve d lower z B ∷ halve d upper z B ∷ ys))
step_lowers (drop xs B ys m) h =
    omega (arith, most_joined xs (B ∷ ys), most_joined xs ys, one-le-pow (size B) 3 (omega arith))

-- so a way has no more steps than the bound at its start.
steps_lower : {M : Mesh} {xs ys : List Blend} (way : Steps M xs ys) → Rising xs →
    taken way + most_steps ys ≤ most_steps xs
steps_lower done h = omega arith
steps_lower (step t ts) h = omega (arith, step_lowers t h, steps_lower ts (step_rises t h))

steps_rise : {M : Mesh} {xs ys : List Blend} → Steps M xs ys → Rising xs → Rising ys
steps_rise done h = h
steps_rise (step t ts) h = steps_rise ts (step_rises t h)

-- a step behind one blend more
behind : {M : Mesh} {xs ys : List Blend} (B : Blend) → Step M xs ys → Step M (B ∷ xs) (B ∷ ys)
behind B (replace xs C ys d z p) = replace (B ∷ xs) C ys d z p
behind B (drop xs C ys m) = drop (B ∷ xs) C ys (Memᴰ.tail m)

-- No line cuts any of some blends, or there is a step.
end_or_step : (M : Mesh) (bs : List Blend) → Rising bs →
    ((C : Blend) → Memᴰ C bs → Uncut M C) ⊎ ((cs : List Blend) × Step M bs cs)
end_or_step M [] h = inl (λ C m. absurd (Memᴰ.not-nil m))
end_or_step M (B ∷ bs) h =
    ⊎_elim
    (λ u. ⊎_elim
    (λ us. inl (λ C m. ⊎_elim (λ e. subst (Uncut M) (sym e) u) (us C) (Memᴰ.cases_cons m)))
    (λ s. inr (B ∷ s.0, behind B s.1))
    (end_or_step M bs (λ C m. h C (Memᴰ.tail m))))
    (λ c. inr (halve c.0 lower c.1 B ∷ halve c.0 upper c.1 B ∷ bs, replace [] B bs c.0 c.1 c.2))
    (cut_or_not M B (h B (Memᴰ.head refl)))

-- So some blends can be cut to the end.
to_the_end : (f : ℕ) (M : Mesh) (bs : List Blend) → Rising bs → most_steps bs < f → (cs : List Blend) × Cutting M bs cs
to_the_end zero M bs h lt = absurd (omega arith)
to_the_end (suc f) M bs h lt =
    ⊎_elim (λ u. (bs, record { steps = done; end = u }))
    (λ s. let r = to_the_end f M s.0 (step_rises s.1 h) (omega (arith, step_lowers s.1 h)) in
    (r.0, record { steps = step s.1 r.1.steps; end = r.1.end }))
    (end_or_step M bs h)

pub cutting_ends : (M : Mesh) (bs : List Blend) → Rising bs → CuttingEnds M bs
cutting_ends M bs h =
    record {
      finite = λ way. omega (arith, steps_lower way h);
      goes_on = λ {cs} way. to_the_end (suc (most_steps cs)) M cs (steps_rise way h) (omega arith);
    }
