-- Two live blends over one square of a sound map, in one part across, one with its anchor below the square and one above it: the upper one starts at the
-- lower one's anchor, and the lower one ends at the upper one's. And how an upright ends: with two blends abreast of it.
use Prim.Native.Nat.{ℕ, ◌+◌, ◌-◌, ◌≤◌, ◌<◌}
use native.Mathlib.Omega.{arith}
use mathlib.Core.Path.{◌≡◌, sym, ap, subst}
use mathlib.Core.Logic.{◌⊎◌, inl, inr}
use mathlib.Core.Bool.{true, false}
use Rattle.axis.specs.Triple.{OnSide}
use Rattle.axis.specs.declared.Side.{Side}
use Rattle.axis.specs.declared.Side.TheVariants.{Lower as lower, Upper as upper}
use Rattle.axis.proofs.Tests.{true_not_false}
use Rattle.axis.proofs.Runs.{if_at_most, if_below, if_equal, Compared, less, equal, more, compare}
use Rattle.axis.proofs.Sides.{StepIn, KnotIn, opposite, mirror, column, own_column, past_column, on_column}
use Rattle.axis.proofs.Triples.{rise_of}
use Rattle.mesh.specs.Ends.{back}
use Rattle.mesh.specs.declared.Blend.{Blend}
use Rattle.mesh.proofs.View.{View, turn, flip, Live, Over, Knot, SoundView, TightView, flip_sound, flip_tight, flipped, on_mirror}

-- Over one square, in one part across: A with its anchor below the square, and C with its anchor above it.
module _ (Q : View) (s : SoundView Q) (x : Side) (j k : ℕ) (hj : OnSide Q.w j) (hk : OnSide Q.h k) (A C : Blend)
    (a : Over Q x upper j k A) (c : Over Q x lower j k C) where
  start_is_anchor : (Q.up C).l ≡ (Q.up A).m
  start_is_anchor = by (compare (Q.up C).l (Q.up A).m)
    where
      same : (y : Side) (i : ℕ) → OnSide Q.h i → {u v : Side} {k l : ℕ} {B C : Blend} → Over Q x u j k B → StepIn y i (Q.up B) → Over Q x v j l C →
          StepIn y i (Q.up C) → B ≡ C
      same y i hi {B = B} {C = C} b p c q =
          s.one x y j i B C hj hi (record { live = b.live; column = b.column; row = p }) (record { live = c.live; column = c.column; row = q })

      by : Compared (Q.up C).l (Q.up A).m → (Q.up C).l ≡ (Q.up A).m
      by (equal e) = e
      by (less lt) =
          let ra = s.y.rises A a.live in
          let rc = s.y.rises C c.live in
          let low : 2 ≤ (Q.up A).m =
          if_at_most 2 (Q.up A).m (λ le. le) (λ one. let n = s.y.near C c.live (omega arith) in absurd (omega arith)) in
          let i = (Q.up A).m - 1 in
          let is = same lower i (omega arith, omega arith) a (omega arith, omega arith) c (omega arith, omega arith) in
          absurd (omega (arith, ap (λ (B : Blend). (Q.up B).m) is))
      by (more gt) =
          let ra = s.y.rises A a.live in
          let rc = s.y.rises C c.live in
          let i = (Q.up C).l - 1 in
          let r = s.some x lower j i hj (omega arith, omega arith) in
          let D : Blend = r.0 in
          let o = r.1 in
          let rd = s.y.rises D o.live in
          if_equal (Q.up D).m (i + 1)
          (λ m. let is = same upper (i + 1) (omega arith, omega arith) o (omega arith, omega arith) a (omega arith, omega arith) in
          absurd (omega (arith, ap (λ (B : Blend). (Q.up B).m) is)))
          (λ m. let is = same lower (i + 1) (omega arith, omega arith) o (omega arith, omega arith) c (omega arith, omega arith) in
          absurd (omega (arith, ap (λ (B : Blend). (Q.up B).l) is)))

pub neighbours : (Q : View) (s : SoundView Q) {x : Side} {j k : ℕ} (hj : OnSide Q.w j) (hk : OnSide Q.h k) {A C : Blend} →
    Over Q x upper j k A → Over Q x lower j k C → ((Q.up C).l ≡ (Q.up A).m) × ((Q.up A).r ≡ (Q.up C).m)
neighbours Q s {x} {j} {k} hj hk {A} {C} a c =
    let e = start_is_anchor (flip Q) (flip_sound Q s) x j (Q.h + 1 - k) hj (on_mirror Q s k hk) C A (flipped Q s hk c) (flipped Q s hk a) in
    let ra = s.y.rises A a.live in
    let rc = s.y.rises C c.live in
    (start_is_anchor Q s x j k hj hk A C a c, omega arith)

-- the upright and the level through a blend's anchor lie on lines, over its support
pub grid_at : (Q : View) (s : SoundView Q) (B : Blend) → Live Q B → {z k : ℕ} → (Q.across B).m ≡ z → (Q.up B).l ≤ k → k < (Q.up B).r → Q.uprights z k ≡ true
grid_at Q s B m {z} {k} e lo hi = subst (λ (i : ℕ). Q.uprights i k ≡ true) e (s.x.grid B m k lo hi).m

pub level_at : (Q : View) (s : SoundView Q) (B : Blend) → Live Q B → {v j : ℕ} → (Q.up B).m ≡ v → (Q.across B).l ≤ j → j < (Q.across B).r → Q.levels v j ≡ true
level_at Q s B m {v} {j} e lo hi = subst (λ (i : ℕ). Q.levels i j ≡ true) e (s.y.grid B m j lo hi).m

-- A level of the grid of a live blend over column j is that of a live blend's anchor there: the blend's own, or its neighbour's.
pub grid_knot : (Q : View) (s : SoundView Q) (B : Blend) → Live Q B → (j v : ℕ) → OnSide Q.w j → (1 < v) × (v < Q.h + 1) →
    (Q.across B).l ≤ j → j < (Q.across B).r → (v ≡ (Q.up B).l) ⊎ ((v ≡ (Q.up B).m) ⊎ (v ≡ (Q.up B).r)) → (x : Side) × Knot Q x j v
grid_knot Q s B m j v hj hv lo hi at =
    if_below j (Q.across B).m (λ lt. (lower, by lower (lo, lt) at)) (λ le. (upper, by upper (le, hi) at))
  where
    by : (x : Side) → StepIn x j (Q.across B) → (v ≡ (Q.up B).l) ⊎ ((v ≡ (Q.up B).m) ⊎ (v ≡ (Q.up B).r)) → Knot Q x j v
    by x i (inl e) =
        let rise = s.y.rises B m in
        let r = s.some x upper j v hj (omega arith, omega arith) in
        let n = neighbours Q s hj (omega arith, omega arith) r.1 (record { live = m; column = i; row = (omega arith, omega arith) }) in
        record { blend = r.0; live = r.1.live; column = r.1.column; at = omega arith }
    by x i (inr (inl e)) = record { blend = B; live = m; column = i; at = sym e }
    by x i (inr (inr e)) =
        let rise = s.y.rises B m in
        let r = s.some x lower j (v - 1) hj (omega arith, omega arith) in
        let n = neighbours Q s hj (omega arith, omega arith) (record { live = m; column = i; row = (omega arith, omega arith) }) r.1 in
        record { blend = r.0; live = r.1.live; column = r.1.column; at = omega arith }

-- the row of a line before its end, and the row past it
abbrev pub inward : Side → ℕ → ℕ
inward lower a = a
inward upper a = a - 1

abbrev pub outward : Side → ℕ → ℕ
outward lower a = a - 1
outward upper a = a

-- Two blends abreast of the upright z, one on either side: their anchors are at level a, and they reach back to one level: they begin there, or
-- at a lower end of a line, they end there.
pub record Abreast (Q : View) (e : Side) (z a : ℕ) : Type 0 where
  pub reach : ℕ
  pub at : Side → Blend
  pub live : (x : Side) → Live Q (at x)
  pub over : (x : Side) → KnotIn x z (Q.across (at x))
  pub anchored : (x : Side) → (Q.up (at x)).m ≡ a
  pub reaches : (x : Side) → back e (Q.up (at x)) ≡ reach

-- the rows from there to the level
abbrev pub Back : Side → ℕ → ℕ → ℕ → Type 0
Back lower reach a k = (a ≤ k) × (k < reach)
Back upper reach a k = (reach ≤ k) × (k < a)

-- The upright z ends at level a, from below or from above: two blends are abreast of it there, and it covers them up to that level.
pub record Ended (Q : View) (e : Side) (z a : ℕ) : Type 0 where
  pub abreast : Abreast Q e z a
  pub covered : (k : ℕ) → Back e abreast.reach a k → Q.uprights z k ≡ true

module _ (Q : View) (t : TightView Q) (z a : ℕ) (hz : (1 < z) × (z < Q.w + 1)) (ha : (1 < a) × (a < Q.h + 1))
    (on : Q.uprights z (a - 1) ≡ true) (off : Q.uprights z a ≡ false) where
  s : SoundView Q
  s = t.is_sound

  -- no upright of a blend's grid at z goes past the level
  past : (B : Blend) → Live Q B → (Q.across B).m ≡ z → (Q.up B).l ≤ a → a < (Q.up B).r → ⊥
  past B m e lo hi = true_not_false _ (grid_at Q s B m e lo hi) off

  record Last : Type 0 where
    blend : Blend
    live : Live Q blend
    at : (Q.across blend).m ≡ z
    row : StepIn upper (a - 1) (Q.up blend)
    ends : (Q.up blend).r ≡ a

  last : Last
  last = by found.0 found.1
    where
      found : (y : Side) × Knot (turn Q) y (a - 1) z
      found = t.y z (a - 1) hz.0 hz.1 (omega arith, omega arith) on

      by : (y : Side) → Knot (turn Q) y (a - 1) z → Last
      by lower k =
          let r = s.y.rises k.blend k.live in
          absurd (past k.blend k.live k.at (omega arith) (omega arith))
      by upper k =
          let r = s.y.rises k.blend k.live in
          record {
            blend = k.blend;
            live = k.live;
            at = k.at;
            row = k.column;
            ends = if_below a (Q.up k.blend).r (λ lt. absurd (past k.blend k.live k.at (omega arith) lt)) (λ le. omega arith);
          }

  abbrev X : Blend
  X = last.blend

  record Beside (x : Side) : Type 0 where
    blend : Blend
    live : Live Q blend
    over : KnotIn x z (Q.across blend)
    anchored : (Q.up blend).m ≡ a
    begins : (Q.up blend).l ≡ (Q.up X).m

  beside : (x : Side) → Beside x
  beside x =
      let on = on_column x z Q.w (hz.0, omega arith) in
      let r = s.some x lower (column x z) (a - 1) on (omega arith, omega arith) in
      let C : Blend = r.0 in
      let o = r.1 in
      let n = neighbours Q s on (omega arith, omega arith)
      (record { live = last.live; column = own_column x z (Q.across X) (rise_of (s.x.rises X last.live)) last.at; row = last.row }) o in
      let ends = last.ends in
      let rise = s.y.rises C o.live in
      record {
        blend = C;
        live = o.live;
        over = past_column x z (Q.across C) (omega arith) o.column (λ e. past C o.live e (omega arith) (omega arith));
        anchored = omega arith;
        begins = n.0;
      }

  ended_above : Ended Q upper z a
  ended_above =
      let rx = s.y.rises X last.live in
      record {
        abreast =
            record {
              reach = (Q.up X).m;
              at = λ x. (beside x).blend;
              live = λ x. (beside x).live;
              over = λ x. (beside x).over;
              anchored = λ x. (beside x).anchored;
              reaches = λ x. (beside x).begins;
            };
        covered = λ k i. grid_at Q s X last.live last.at (omega arith) (omega (arith, last.ends));
      }

-- Seen from the other end:
unfoldable pub flip_abreast : (Q : View) (e : Side) (z a : ℕ) → Abreast Q e z a → Abreast (flip Q) (opposite e) z (Q.h + 2 - a)
flip_abreast Q e z a b =
    record {
      reach = Q.h + 2 - b.reach;
      at = b.at;
      live = b.live;
      over = b.over;
      anchored = λ x. ap (λ (n : ℕ). Q.h + 2 - n) (b.anchored x);
      reaches = by e b.reaches;
    }
  where
    by : (e : Side) → ((x : Side) → back e (Q.up (b.at x)) ≡ b.reach) → (x : Side) →
        back (opposite e) (mirror Q.h (Q.up (b.at x))) ≡ Q.h + 2 - b.reach
    by lower f x = ap (λ (n : ℕ). Q.h + 2 - n) (f x)
    by upper f x = ap (λ (n : ℕ). Q.h + 2 - n) (f x)

pub line_ends : (Q : View) (t : TightView Q) (z a : ℕ) → (1 < z) × (z < Q.w + 1) → (1 < a) × (a < Q.h + 1) → (e : Side) →
    Q.uprights z (inward e a) ≡ true → Q.uprights z (outward e a) ≡ false → Ended Q e z a
line_ends Q t z a hz ha upper on off = ended_above Q t z a hz ha on off
line_ends Q t z a hz ha lower on off =
    let r = ended_above (flip Q) (flip_tight Q t) z (Q.h + 2 - a) hz (omega arith, omega arith)
    (subst (λ (n : ℕ). Q.uprights z n ≡ true) (omega arith) on)
    (subst (λ (n : ℕ). Q.uprights z n ≡ false) (omega arith) off) in
    let b = r.abreast in
    record {
      abreast =
          record {
            reach = Q.h + 2 - b.reach;
            at = b.at;
            live = b.live;
            over = b.over;
            anchored = λ x. omega (arith, t.is_sound.y.rises (b.at x) (b.live x), b.anchored x);
            reaches = λ x. omega (arith, t.is_sound.y.rises (b.at x) (b.live x), b.reaches x);
          };
      covered = λ n range. subst (λ (u : ℕ). Q.uprights z u ≡ true) (omega arith) (r.covered (Q.h + 1 - n) (omega arith, omega arith));
    }
