-- A whole number of either sign as the difference of two from 0, so that what is said of it can be shown of those.
use Prim.Native.Nat.{ℕ, suc, ◌+◌, ◌*◌}
use native.Mathlib.Omega.{arith}
use mathlib.Core.Path.{◌≡◌, sym, ap, ap₂, ◌∙◌}
use lib.IntN.{ℤ, pos, negsuc, neg_ℤ, nat_abs, ◌+ℤ◌, ◌-ℤ◌, ◌*ℤ◌, +ℤ_assoc, +ℤ_comm, +ℤ_idl, +ℤ_invl, +ℤ_invr, +ℤ-neg_ℤ_cancel}

pub record Difference (z : ℤ) : Type 0 where
  pub from : ℕ
  pub less : ℕ
  pub is : z +ℤ pos less ≡ pos from

-- a number from 0 is z exactly where that holds of the two
module _ {z : ℤ} (d : Difference z) (x : ℕ) where
  pub as_whole : pos x ≡ z → x + d.less ≡ d.from
  as_whole e = ap nat_abs (ap (λ (y : ℤ). y +ℤ pos d.less) e ∙ d.is)

  pub is_whole : x + d.less ≡ d.from → pos x ≡ z
  is_whole e =
      sym (+ℤ-neg_ℤ_cancel (pos x) (pos d.less)) ∙ ap (λ (y : ℤ). y -ℤ pos d.less) (ap pos e ∙ sym d.is) ∙ +ℤ-neg_ℤ_cancel z (pos d.less)

-- every number,
abbrev pub apart : (z : ℤ) → Difference z
apart (pos n) = record { from = n; less = 0; is = ap pos (omega arith) }
apart (negsuc n) = record { from = 0; less = suc n; is = +ℤ_invl (pos (suc n)) }

-- a sum,
pub plus_is : (x y : ℤ) (p n q m : ℕ) → x +ℤ pos n ≡ pos p → y +ℤ pos m ≡ pos q → x +ℤ y +ℤ pos (n + m) ≡ pos (p + q)
plus_is x y p n q m e f = +ℤ_assoc x y (pos (n + m)) ∙ ap (λ (z : ℤ). x +ℤ z) moved ∙ sym (+ℤ_assoc x (pos n) (y +ℤ pos m)) ∙ ap₂ ◌+ℤ◌ e f
  where
    moved : y +ℤ (pos n +ℤ pos m) ≡ pos n +ℤ (y +ℤ pos m)
    moved = sym (+ℤ_assoc y (pos n) (pos m)) ∙ ap (λ (z : ℤ). z +ℤ pos m) (+ℤ_comm y (pos n)) ∙ +ℤ_assoc (pos n) y (pos m)

abbrev pub plus : {x y : ℤ} → Difference x → Difference y → Difference (x +ℤ y)
plus {x} {y} d e =
    record { from = d.from + e.from; less = d.less + e.less; is = plus_is x y d.from d.less e.from e.less d.is e.is }

-- and a multiple.
pub times_is : (x : ℤ) (p n k : ℕ) → x +ℤ pos n ≡ pos p → x *ℤ pos k +ℤ pos (n * k) ≡ pos (p * k)
times_is (pos a) p n k e = ap pos (each (ap nat_abs e))
  where
    each : a + n ≡ p → a * k + n * k ≡ p * k
    each e = omega (arith, ap (λ (i : ℕ). i * k) e)
times_is (negsuc a) p n k e =
    ap (λ (i : ℕ). neg_ℤ down +ℤ pos i) (each (ap nat_abs raised)) ∙ sym (+ℤ_assoc (neg_ℤ down) down (pos (p * k))) ∙
    ap (λ (z : ℤ). z +ℤ pos (p * k)) (+ℤ_invl down) ∙ +ℤ_idl (pos (p * k))
  where
    down : ℤ
    down = pos (suc a * k)

    raised : pos n ≡ pos (suc a + p)
    raised =
        sym (+ℤ_idl (pos n)) ∙ ap (λ (z : ℤ). z +ℤ pos n) (sym (+ℤ_invr (pos (suc a)))) ∙ +ℤ_assoc (pos (suc a)) (negsuc a) (pos n) ∙
        ap (λ (z : ℤ). pos (suc a) +ℤ z) e

    each : n ≡ suc a + p → n * k ≡ suc a * k + p * k
    each e = omega (arith, ap (λ (i : ℕ). i * k) e)

abbrev pub times : {x : ℤ} → Difference x → (k : ℕ) → Difference (x *ℤ pos k)
times {x} d k = record { from = d.from * k; less = d.less * k; is = times_is x d.from d.less k d.is }
