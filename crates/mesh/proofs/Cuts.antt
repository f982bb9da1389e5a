-- One blend: when it is proper, its cuts as facts, its halves, and the line that cuts first.
use Prim.Native.Nat.{ℕ, ◌-◌, ◌≤◌, ◌<◌}
use native.Mathlib.Omega.{arith}
use native.Mathlib.Nat.{mul-pos, mul-lt-mul_of_pos_left, mul-lt-mul_of_pos_right}
use mathlib.Core.Path.{◌≡◌, refl, sym, ap, subst, ◌∙◌}
use mathlib.Core.Logic.{◌⊎◌, inl, inr, ⊎_elim}
use mathlib.Core.Bool.{true, false, ◌&&◌, not}
use borrow.Author.Tests.{not-true, ne_eqb, eqb-false}
use lib.Dec.{eqb}
use Rattle.axis.specs.Triple.{half, inside, between, rising, same_triple, Rise, Knots}
use Rattle.axis.specs.declared.Side.{Side}
use Rattle.mesh.specs.Lines.{other, Mesh}
use Rattle.mesh.specs.declared.Direction.{Direction}
use Rattle.mesh.specs.declared.Direction.TheVariants.{Upright as upright, Level as level}
use Rattle.mesh.specs.Blends.{blend, crossed, along, covers_blend, cuts, halve, cutter, is_cut, size, same, RiseB}
use Rattle.mesh.specs.Sound.{proper, nested, ProperIn}
use Rattle.axis.specs.declared.Triple.{Triple}
use Rattle.mesh.specs.declared.Blend.{Blend}
use Rattle.axis.proofs.Tests.{either, true_not_false, false_of, and_both, and_of, or_either, or_left, or_right, every_at, every_of}
use Rattle.axis.proofs.Nearest.{nearest_first}
use Rattle.axis.proofs.Triples.{rising_facts, rising_of, rise_of, rises_wider, rises_within, Inside, inside_fact, inside_test, Within, within_refl, within_trans, same_triple_lem, triple_same, half_rises, half_within, half_narrower, half_knots, keeps_middle, From, whole, part, cut_again, cut_once}

-- both triples of a proper blend rise, within the knots of its sides
pub proper_facts : (w h : ℕ) (B : Blend) → proper w h B ≡ true → ProperIn w h B
proper_facts w h B e =
    let b = and_both (rising w B.across) (rising h B.up) e in
    record { across = rising_facts w B.across b.0; up = rising_facts h B.up b.1 }

pub proper_of : (w h : ℕ) (B : Blend) → ProperIn w h B → proper w h B ≡ true
proper_of w h B p = and_of _ _ (rising_of w B.across p.across) (rising_of h B.up p.up)

pub rise_b_of : {w h : ℕ} {B : Blend} → ProperIn w h B → RiseB B
rise_b_of p = record { across = rise_of p.across; up = rise_of p.up }

pub proper_rises : (w h : ℕ) (B : Blend) → proper w h B ≡ true → RiseB B
proper_rises w h B e = rise_b_of (proper_facts w h B e)

pub proper_wider : {w h wide high : ℕ} {B : Blend} → w ≤ wide → h ≤ high → ProperIn w h B → ProperIn wide high B
proper_wider lw lh p = record { across = rises_wider lw p.across; up = rises_wider lh p.up }

pub crossed_rises : (d : Direction) (B : Blend) → RiseB B → Rise (crossed d B)
crossed_rises upright B h = h.across
crossed_rises level B h = h.up

-- the test of equal blends is equality
pub same_blend : (A B : Blend) → same A B ≡ true → A ≡ B
same_blend A B e =
    let b = and_both (same_triple A.across B.across) (same_triple A.up B.up) e in
    λ i. record { across = same_triple_lem A.across B.across b.0 i; up = same_triple_lem A.up B.up b.1 i }

pub blend_same : (A B : Blend) → A ≡ B → same A B ≡ true
blend_same A B p = rw (← p) (and_of _ _ (triple_same A.across) (triple_same A.up))

-- what it says that the anchor of B is strictly inside the support of C
pub nested_facts : (B C : Blend) → nested B C ≡ true →
    (same B C ≡ false) × (between B.across.m C.across ≡ true) × (between B.up.m C.up ≡ true)
nested_facts B C e =
    let a = and_both (not (same B C) && between B.across.m C.across) (between B.up.m C.up) e in
    let b = and_both (not (same B C)) (between B.across.m C.across) a.0 in
    (not-true _ b.0, b.1, a.1)

-- a rising blend's support is not empty
pub size_positive : (B : Blend) → RiseB B → 0 < size B
size_positive B h = mul-pos (omega arith) (omega arith)

-- the support of C lies within that of B
pub record WithinB (B C : Blend) : Type 0 where
  pub across : Within B.across C.across
  pub up : Within B.up C.up

pub within_b_refl : (B : Blend) → WithinB B B
within_b_refl B = record { across = within_refl B.across; up = within_refl B.up }

pub within_b_trans : {B C D : Blend} → WithinB B C → WithinB C D → WithinB B D
within_b_trans p q = record { across = within_trans p.across q.across; up = within_trans p.up q.up }

pub proper_within : {w h : ℕ} {B C : Blend} → ProperIn w h B → RiseB C → WithinB B C → ProperIn w h C
proper_within p r s =
    record { across = rises_within p.across r.across s.across; up = rises_within p.up r.up s.up }

pub crossed_within : (d : Direction) {B C : Blend} → WithinB B C → Within (crossed d B) (crossed d C)
crossed_within upright w = w.across
crossed_within level w = w.up

-- the line at z has each unit step from l to r
abbrev pub Covered : Mesh → Direction → ℕ → Triple → Type 0
Covered M d z t = (k : ℕ) → t.l ≤ k → k < t.r → M d z k ≡ true

pub covered_fact : (M : Mesh) (d : Direction) (z : ℕ) (B : Blend) → covers_blend M d B z ≡ true → Covered M d z (along d B)
covered_fact M d z B e k lo hi = every_at (along d B).l ((along d B).r - (along d B).l) (M d z) e k lo (omega arith)

pub covered_test : (M : Mesh) (d : Direction) (z : ℕ) (B : Blend) → Covered M d z (along d B) → covers_blend M d B z ≡ true
covered_test M d z B f = every_of (along d B).l ((along d B).r - (along d B).l) (M d z) (λ k lo hi. f k lo (omega arith))

-- the line at z cuts the blend
pub record Cut (M : Mesh) (d : Direction) (z : ℕ) (B : Blend) : Type 0 where
  pub inside : Inside z (crossed d B)
  pub covered : Covered M d z (along d B)

pub cut_fact : (M : Mesh) (d : Direction) (z : ℕ) (B : Blend) → cuts M d z B ≡ true → Cut M d z B
unfolding cuts
cut_fact M d z B e =
    let p = and_both (inside z (crossed d B)) (covers_blend M d B z) e in
    record { inside = inside_fact z (crossed d B) p.0; covered = covered_fact M d z B p.1 }

pub cut_test : (M : Mesh) (d : Direction) (z : ℕ) (B : Blend) → Cut M d z B → cuts M d z B ≡ true
unfolding cuts
cut_test M d z B c = and_of _ _ (inside_test z (crossed d B) c.inside) (covered_test M d z B c.covered)

-- A half rises, lies within the support, and is smaller.
pub halve_rises : (d : Direction) (s : Side) (z : ℕ) (B : Blend) → RiseB B → Inside z (crossed d B) → RiseB (halve d s z B)
unfolding halve
halve_rises upright s z B h i = record { across = half_rises s z B.across h.across i; up = h.up }
halve_rises level s z B h i = record { across = h.across; up = half_rises s z B.up h.up i }

pub halve_within : (d : Direction) (s : Side) (z : ℕ) (B : Blend) → RiseB B → Inside z (crossed d B) → WithinB B (halve d s z B)
unfolding halve
halve_within upright s z B h i = record { across = half_within s z B.across h.across i; up = within_refl B.up }
halve_within level s z B h i = record { across = within_refl B.across; up = half_within s z B.up h.up i }

pub halve_proper : {w h : ℕ} (d : Direction) (s : Side) (z : ℕ) (B : Blend) → ProperIn w h B → Inside z (crossed d B) →
    ProperIn w h (halve d s z B)
halve_proper d s z B p i = proper_within p (halve_rises d s z B (rise_b_of p) i) (halve_within d s z B (rise_b_of p) i)

pub halve_smaller : (d : Direction) (s : Side) (z : ℕ) (B : Blend) → RiseB B → Inside z (crossed d B) → size (halve d s z B) < size B
unfolding halve
halve_smaller upright s z B h i = mul-lt-mul_of_pos_right (half_narrower s z B.across h.across i) (omega arith)
halve_smaller level s z B h i = mul-lt-mul_of_pos_left (half_narrower s z B.up h.up i) (omega arith)

-- Coverage passes to a half.
pub halve_covered : (M : Mesh) (d e : Direction) (s : Side) (y z : ℕ) (B : Blend) → RiseB B → Inside z (crossed d B) → Covered M e y (along e B) →
    Covered M e y (along e (halve d s z B))
halve_covered M d e s y z B h i f k lo hi =
    let w = crossed_within (other e) (halve_within d s z B h i) in
    f k (omega arith) (omega arith)

-- One of the halves keeps the anchor.
pub halve_anchor : (d : Direction) (z : ℕ) (B : Blend) → (s : Side) × ((halve d s z B).across.m ≡ B.across.m) × ((halve d s z B).up.m ≡ B.up.m)
unfolding halve
halve_anchor upright z B = let k = keeps_middle z B.across in (k.0, k.1, refl)
halve_anchor level z B = let k = keeps_middle z B.up in (k.0, refl, k.1)

-- Two directions that cross: a cut of one leaves the cuts of the other, and the two halvings do not meet.
pub data Crossing : Direction → Direction → Type 0 where
  upright_level : Crossing upright level
  level_upright : Crossing level upright

pub crossing_back : {d e : Direction} → Crossing d e → Crossing e d
crossing_back upright_level = level_upright
crossing_back level_upright = upright_level

pub cut_stays : (M : Mesh) {d e : Direction} → Crossing d e → (s : Side) (y z : ℕ) (B : Blend) → RiseB B → Inside y (crossed e B) →
    Cut M d z B → Cut M d z (halve e s y B)
unfolding halve
cut_stays M upright_level s y z B h i c =
    record { inside = c.inside; covered = halve_covered M level upright s z y B h i c.covered }
cut_stays M level_upright s y z B h i c =
    record { inside = c.inside; covered = halve_covered M upright level s z y B h i c.covered }

pub halves_commute : {d e : Direction} → Crossing d e → (s u : Side) (y z : ℕ) (B : Blend) → halve d u z (halve e s y B) ≡ halve e s y (halve d u z B)
unfolding halve
halves_commute upright_level s u y z B = refl
halves_commute level_upright s u y z B = refl

-- B with another triple for its crossed one, as a cut of the direction makes it
abbrev pub put : Direction → Blend → Triple → Blend
put upright B t = blend t B.up
put level B t = blend B.across t

halve_put : (d : Direction) (B : Blend) (s : Side) (z : ℕ) (t : Triple) → halve d s z (put d B t) ≡ put d B (half s z t)
unfolding halve
halve_put upright B s z t = refl
halve_put level B s z t = refl

put_own : (d : Direction) (B : Blend) → put d B (crossed d B) ≡ B
put_own upright B = refl
put_own level B = refl

cut_put : (M : Mesh) (d : Direction) (B : Blend) (z : ℕ) (t : Triple) → Inside z t → Covered M d z (along d B) → Cut M d z (put d B t)
cut_put M upright B z t i f = record { inside = i; covered = f }
cut_put M level B z t i f = record { inside = i; covered = f }

-- X is B, or a half of B by the line at y.
pub data FromB (M : Mesh) (d : Direction) (y : ℕ) (B X : Blend) : Type 0 where
  wholeB : X ≡ B → FromB M d y B X
  partB : (v : Side) → Cut M d y B → X ≡ halve d v y B → FromB M d y B X

from_put : (M : Mesh) (d : Direction) (y : ℕ) (B : Blend) (t X : Triple) → Covered M d y (along d B) → From y t X → FromB M d y (put d B t) (put d B X)
from_put M d y B t X f (whole e) = wholeB (ap (put d B) e)
from_put M d y B t X f (part v i e) = partB v (cut_put M d B y t i f) (ap (put d B) e ∙ sym (halve_put d B v y t))

pub halve_own : (d : Direction) (B : Blend) (s : Side) (z : ℕ) → put d B (half s z (crossed d B)) ≡ halve d s z B
halve_own d B s z = sym (halve_put d B s z (crossed d B)) ∙ ap (halve d s z) (put_own d B)

-- Two lines of one direction cut a blend, at y and at z. What the one at z leaves of a half by y, its halves or that half itself,
-- is a half by z, or what y leaves of one.
pub swap : (M : Mesh) (d : Direction) (s : Side) (y z : ℕ) (B : Blend) → Cut M d y B → Cut M d z B → (y ≡ z → ⊥) →
    (Cut M d z (halve d s y B) × ((u : Side) → (w : Side) × FromB M d y (halve d w z B) (halve d u z (halve d s y B)))) ⊎
    ((w : Side) × FromB M d y (halve d w z B) (halve d s y B))
swap M d s y z B p q apart =
    ⊎_elim
    (λ e. let k = inside_fact z (half s y (crossed d B)) e in
    inl (
      subst (Cut M d z) (halve_own d B s y) (cut_put M d B z (half s y (crossed d B)) k q.covered),
      λ u. let r = cut_again y z (crossed d B) p.inside q.inside apart s u k in
          (r.0, rw (← halve_own d B r.0 z, ← halve_own d B s y, halve_put d B u z (half s y (crossed d B))) (from_put M d y B _ _ p.covered r.1)),
    ))
    (λ e. let k : Inside z (half s y (crossed d B)) → ⊥ = λ i. true_not_false _ (inside_test _ _ i) e in
    let r = cut_once y z (crossed d B) p.inside q.inside apart s k in
    inr (r.0, rw (← halve_own d B r.0 z, ← halve_own d B s y) (from_put M d y B _ _ p.covered r.1)))
    (either (inside z (half s y (crossed d B))))

-- 0 says that no line of the direction cuts the blend; any other answer is a line that does.
pub cutter_none : (M : Mesh) (d : Direction) (B : Blend) → RiseB B → cutter M d B ≡ 0 → (z : ℕ) → cuts M d z B ≡ false
cutter_none M d B h e z =
    false_of (cuts M d z B) (λ c. let f = cut_fact M d z B c in
    true_not_false (covers_blend M d B z) (covered_test M d z B f.covered)
    ((nearest_first (covers_blend M d B) (crossed d B) (crossed_rises d B h)).none e z f.inside))

pub cutter_cuts : (M : Mesh) (d : Direction) (B : Blend) → RiseB B → (cutter M d B ≡ 0 → ⊥) → cuts M d (cutter M d B) B ≡ true
unfolding cuts
cutter_cuts M d B h ne =
    let r = (nearest_first (covers_blend M d B) (crossed d B) (crossed_rises d B h)).some ne in
    and_of _ _ (inside_test (cutter M d B) (crossed d B) r.0) r.1

-- A cut keeps what is true of each knot of an axis, if it is true of the cut's position.
pub halve_knots : (P : Direction → ℕ → Type 0) (d e : Direction) (s : Side) (z : ℕ) (B : Blend) → Knots (P d) (crossed d B) → P e z →
    Knots (P d) (crossed d (halve e s z B))
unfolding halve
halve_knots P upright upright s z B k p = half_knots (P upright) s z B.across k p
halve_knots P upright level s z B k p = k
halve_knots P level upright s z B k p = k
halve_knots P level level s z B k p = half_knots (P level) s z B.up k p

-- Whether lines cut a blend, by the line of each direction that cuts first:
module _ (M : Mesh) (B : Blend) where
  pub some_line : (d : Direction) → (cutter M d B ≡ 0 → ⊥) → is_cut M B ≡ true
  unfolding is_cut
  some_line upright ne = or_left _ _ (ap not (ne_eqb _ _ ne))
  some_line level ne = or_right (not (eqb (cutter M upright B) 0)) _ (ap not (ne_eqb _ _ ne))

  -- exactly where one of some direction, at some position, does.
  pub cut_exactly : RiseB B → (is_cut M B ≡ true → (d : Direction) × (z : ℕ) × (cuts M d z B ≡ true)) ×
      ((d : Direction) (z : ℕ) → cuts M d z B ≡ true → is_cut M B ≡ true)
  unfolding is_cut
  cut_exactly h = (
    λ e. ⊎_elim (by upright) (by level) (or_either (not (eqb (cutter M upright B) 0)) _ e),
    λ d z c. some_line d (λ none. true_not_false _ c (cutter_none M d B h none z)),
  )
    where
      by : (e : Direction) → not (eqb (cutter M e B) 0) ≡ true → (d : Direction) × (z : ℕ) × (cuts M d z B ≡ true)
      by e t = (e, cutter M e B, cutter_cuts M e B h (eqb-false _ _ (not-true _ t)))
