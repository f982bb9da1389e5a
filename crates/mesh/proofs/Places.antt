-- Blends by their anchors: a packed support unpacks, and in a sound map no two blends have one anchor.
use Prim.Native.Nat.{ℕ, ◌+◌, ◌*◌, ◌/◌, ◌%◌, ◌≤◌, ◌<◌}
use native.Mathlib.Omega.{arith}
use mathlib.Core.Path.{◌≡◌}
use mathlib.Core.Logic.{⊎_elim}
use mathlib.Core.Bool.{true, false, not}
use mathlib.Core.List.{List, Memᴰ}
use borrow.Author.Tests.{not-true, lt-ltb}
use Rattle.axis.specs.Range.{all}
use Rattle.mesh.specs.Blends.{same, at}
use Rattle.mesh.specs.Sound.{nested, none_nested, sound, four_everywhere}
use Rattle.mesh.specs.Bytes.{packed, unpacked}
use Rattle.mesh.specs.Sound.{ProperIn}
use Rattle.mesh.specs.declared.Blend.{Blend}
use Rattle.axis.proofs.Tests.{either, true_not_false, and_both, all_at}
use Rattle.mesh.proofs.Cuts.{same_blend}
use Rattle.mesh.proofs.TableOrder.{Anchored}
use Rattle.mesh.specs.Blends.{OwnAnchors}

-- a proper blend's anchor lies in the domain
pub proper_anchored : (w h : ℕ) (B : Blend) → ProperIn w h B → Anchored w h B
proper_anchored w h B p =
    let a = p.across in
    let u = p.up in
    record { left = omega arith; right = omega arith; bottom = omega arith; top = omega arith }

-- a packed support unpacks
divides : (a b c d : ℕ) → a < 256 → b < 256 → c < 256 → d < 256 → let x = ((a * 256 + b) * 256 + c) * 256 + d in
    (x / 16777216 % 256 ≡ a) × (x / 65536 % 256 ≡ b) × (x / 256 % 256 ≡ c) × (x % 256 ≡ d)
divides a b c d ha hb hc hd = (omega arith, omega arith, omega arith, omega arith)

pub unpack_packed : (w h : ℕ) → w ≤ 128 → h ≤ 128 → (B : Blend) → ProperIn w h B → unpacked B.across.m B.up.m (packed B) ≡ B
unfolding unpacked
unpack_packed w h hw hh B p =
    let a = p.across in
    let u = p.up in
    let e = divides B.across.l B.across.r B.up.l B.up.r (omega arith) (omega arith) (omega arith) (omega arith) in
    λ i. record { across = record { l = e.0 i; m = B.across.m; r = e.1 i }; up = record { l = e.2 i; m = B.up.m; r = e.3 i } }

pub packed_positive : (B : Blend) → 0 < B.up.r → packed B ≡ 0 → ⊥
packed_positive B h e = omega arith

-- `at` is one-to-one on knots
pub at_inj : (i j k l : ℕ) → j < 131 → l < 131 → at i j ≡ at k l → (i ≡ k) × (j ≡ l)
at_inj i j k l hj hl e = (omega arith, omega arith)

-- no anchor of the list is strictly inside another's support
pub unnested : (bs : List Blend) → none_nested bs ≡ true → (B C : Blend) → Memᴰ B bs → Memᴰ C bs → nested B C ≡ false
unfolding none_nested
unnested bs e B C mB mC =
    not-true _
    (all_at (λ (Y : Blend). not (nested B Y)) bs (all_at (λ (X : Blend). all (λ (Y : Blend). not (nested X Y)) bs) bs e B mB) C mC)

-- so in a sound map no two blends have one anchor: it would be strictly inside both supports
pub sound_own : (w h : ℕ) (bs : List Blend) → ((C : Blend) → Memᴰ C bs → ProperIn w h C) → sound w h bs ≡ true → OwnAnchors bs
unfolding sound
sound_own w h bs ok s B C mB mC q r =
    ⊎_elim (λ e. same_blend B C e)
    (λ e. absurd (true_not_false (nested B C) (overlap e) (unnested bs (and_both (four_everywhere w h bs) (none_nested bs) s).1 B C mB mC)))
    (either (same B C))
  where
    overlap : same B C ≡ false → nested B C ≡ true
    overlap e =
        let a = (ok C mC).across in
        let u = (ok C mC).up in
        rw (e, q, r, lt-ltb _ _ a.low, lt-ltb _ _ a.high, lt-ltb _ _ u.low, lt-ltb _ _ u.high)
