-- What the tests of sides and splits say.
use Prim.Native.Nat.{ℕ, ◌+◌, ◌≤◌, ◌<◌}
use native.Mathlib.Omega.{arith}
use mathlib.Core.Path.{◌≡◌}
use mathlib.Core.Logic.{⊎_elim}
use mathlib.Core.Bool.{true, ◌&&◌}
use mathlib.Core.List.{List}
use borrow.Author.Tests.{ltb-true, leb-true, eqb-true}
use lib.Dec.{ltb, leb, eqb}
use Rattle.mesh.specs.Lines.{number, other, side, allowed_side, fits, in_range}
use Rattle.mesh.specs.declared.Direction.{Direction}
use Rattle.mesh.specs.declared.Direction.TheVariants.{Upright as upright, Level as level}
use Rattle.mesh.specs.Bytes.{Rows, Tall}
use Rattle.mesh.specs.declared.Split.{Split}
use Rattle.axis.proofs.Tests.{either, and_both}

-- sides are at most 128
pub side_most : (d : Direction) {w h : ℕ} → w ≤ 128 → h ≤ 128 → side d w h ≤ 128
side_most upright hw hh = hw
side_most level hw hh = hh

-- what the test of a side says
pub side_says : (s : ℕ) → allowed_side s ≡ true → (1 ≤ s) × (s ≤ 128)
side_says s e = let p = and_both (leb 1 s) (leb s 128) e in (leb-true 1 s p.0, leb-true s 128 p.1)

fits_says : (crossed run : ℕ) (s : Split) → fits crossed run s ≡ true →
    (s.position < crossed) × (s.from < s.to) × (s.to ≤ run) × (0 < s.position)
fits_says crossed run s e =
    let place = ltb 0 s.position && ltb s.position crossed in
    let p = and_both (place && ltb s.from s.to) (leb s.to run) e in
    let q = and_both place (ltb s.from s.to) p.0 in
    let r = and_both (ltb 0 s.position) (ltb s.position crossed) q.0 in
    (ltb-true s.position crossed r.1, ltb-true s.from s.to q.1, leb-true s.to run p.1, ltb-true 0 s.position r.0)

pub in_range_says : (w h : ℕ) (d : Direction) (s : Split) → in_range w h s ≡ true → s.direction ≡ number d →
    (s.position < side d w h) × (s.from < s.to) × (s.to ≤ side (other d) w h) × (0 < s.position)
unfolding in_range
in_range_says w h upright s e q = fits_says w h s (rw q at e)
in_range_says w h level s e q = fits_says h w s (rw q at e)

-- what a split in range keeps to, where the sides are allowed
pub record Small (s : Split) : Type 0 where
  pub direction : s.direction < 2
  pub position : s.position < 128
  pub rises : s.from < s.to
  pub to : s.to ≤ 128

small : (s : Split) (crossed run : ℕ) → s.direction < 2 → crossed ≤ 128 → run ≤ 128 →
    (s.position < crossed) × (s.from < s.to) × (s.to ≤ run) × (0 < s.position) → Small s
small s crossed run d hc hr r = record { direction = d; position = omega arith; rises = r.1; to = omega arith }

pub in_range_small : (w h : ℕ) (s : Split) → in_range w h s ≡ true → w ≤ 128 → h ≤ 128 → Small s
unfolding in_range
in_range_small w h s e hw hh =
    ⊎_elim
    (λ q. let n = eqb-true s.direction 0 q in small s w h (omega arith) hw hh (in_range_says w h upright s e n))
    (λ q. let n = eqb-true s.direction 1 (and_both _ _ (rw q at e)).0 in
    small s h w (omega arith) hh hw (in_range_says w h level s e n))
    (either (eqb s.direction 0))

-- the tables of a map have the rows of such a split: that of its position, and those of its ends
pub in_range_rows : (w h : ℕ) (s : Split) (xs : List ℕ) → in_range w h s ≡ true → Tall w h xs → Rows (s.position + 2) xs × Rows (s.to + 2) xs
unfolding in_range
in_range_rows w h s xs e tall =
    ⊎_elim
    (λ q. let r = in_range_says w h upright s e (eqb-true s.direction 0 q) in (omega arith, omega arith))
    (λ q. let r = in_range_says w h level s e (eqb-true s.direction 1 (and_both _ _ (rw q at e)).0) in (omega arith, omega arith))
    (either (eqb s.direction 0))
