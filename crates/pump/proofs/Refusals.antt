-- What a refusal leaves and what an accepted call gives.
use Prim.Native.Nat.{ℕ, ◌≤◌}
use native.Mathlib.Omega.{arith}
use mathlib.Core.Path.{◌≡◌, sym, ap, ◌∙◌}
use mathlib.Core.Logic.{⊎_elim}
use mathlib.Core.Bool.{true, false, cond}
use borrow.Author.Tests.{leb-true, leb-false, le-leb, ltb-false}
use lib.Dec.{leb, ltb}
use Rattle.std.specs.Prelude.{Result, Err}
use Rattle.axis.proofs.Tests.{either}
use Rattle.mesh.specs.declared.refusal.Refusal.{Refusal}
use Rattle.mesh.specs.Refusals.{number_of}
use Rattle.mesh.proofs.Refused.{refuses}
use Rattle.files.specs.Calls.{if_refused}
use Rattle.files.specs.Told.{number_in}
use Rattle.pump.specs.Border.{first_of}

module _ {A : Type 0} (x y : A) {n number : ℕ} (is : n ≡ number) where
  pub stays : (n ≡ 0 → ⊥) → x ≡ if_refused number x y
  stays ne = rw (← is, le-leb 1 n (omega arith))

  pub gives : n ≡ 0 → y ≡ if_refused number x y
  gives z = rw (← is, z)

-- the refusal of a check before which none refuses: what follows does not count
pub refuses_at : (e : Refusal) {n : ℕ} → number_of e ≡ n → (rest : ℕ) → number_of e ≡ if_refused n n rest
refuses_at e is rest = is ∙ stays _ rest is (refuses e)

-- what the code answers and leaves then
pub refused : {A B : Type 0} {r : Result A Refusal} {e : Refusal} → r ≡ Err e → {n : ℕ} → number_of e ≡ n → (x y : B) →
    (number_in r ≡ n) × (x ≡ if_refused n x y)
refused {e = e} is n x y = (ap number_in is ∙ n, stays x y n (refuses e))

-- a number that refuses does so twice
pub twice : {A : Type 0} (n : ℕ) (x y z : A) → if_refused n x (if_refused n y z) ≡ if_refused n x z
twice n x y z = ⊎_elim (λ (t : leb 1 n ≡ true). rw t) (λ (f : leb 1 n ≡ false). rw f) (either (leb 1 n))

-- none of three checks refuses where the first refusal is 0
pub none_refuses : (a b c : ℕ) → first_of a b c ≡ 0 → (a ≡ 0) × (b ≡ 0) × (c ≡ 0)
none_refuses a b c e =
    let z = not_first a (if_refused b b c) e in
    let y = not_first b c z.1 in
    (z.0, y.0, y.1)
  where
    not_first : (a c : ℕ) → if_refused a a c ≡ 0 → (a ≡ 0) × (c ≡ 0)
    not_first a c e =
        ⊎_elim (λ (t : leb 1 a ≡ true). let z : a ≡ 0 = rw t at e in absurd (omega (arith, leb-true 1 a t)))
        (λ (f : leb 1 a ≡ false). let le = leb-false 1 a f in (omega arith, rw f at e)) (either (leb 1 a))

-- the first two of three checks: one of them refuses, or the third one tells
module _ (a b c : ℕ) {n : ℕ} (is : n ≡ first_of a b 0) where
  pub two_refuse : (n ≡ 0 → ⊥) → n ≡ first_of a b c
  two_refuse ne =
      ⊎_elim (λ (t : leb 1 a ≡ true). is ∙ rw t)
      (λ (f : leb 1 a ≡ false).
      ⊎_elim (λ (t : leb 1 b ≡ true). is ∙ rw (f, t)) (λ (g : leb 1 b ≡ false). absurd (ne (is ∙ rw (f, g)))) (either (leb 1 b)))
      (either (leb 1 a))

  pub third_tells : n ≡ 0 → c ≡ first_of a b c
  third_tells z = let none = none_refuses a b 0 (sym is ∙ z) in rw (none.0, none.1)

-- lent bytes are enough where the third check, of their number, does not refuse
pub enough : (a b c lent size : ℕ) → c ≡ cond (ltb lent size) 12 0 → first_of a b c ≡ 0 → size ≤ lent
enough a b c lent size is e =
    ⊎_elim
    (λ (t : ltb lent size ≡ true). let z : ◌≡◌ {A = ℕ} 12 0 = sym (rw t at is) ∙ (none_refuses a b c e).2 in absurd (omega (arith, z)))
    (λ (f : ltb lent size ≡ false). ltb-false _ _ f) (either (ltb lent size))
