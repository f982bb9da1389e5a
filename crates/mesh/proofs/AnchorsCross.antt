-- In a sound and tight map the anchors are exactly the crossings.
use Prim.Native.Nat.{ℕ, ◌+◌, ◌-◌, ◌≤◌, ◌<◌}
use native.Mathlib.Omega.{arith}
use mathlib.Core.Path.{◌≡◌, refl, sym, ap, subst}
use mathlib.Core.Bool.{true}
use Rattle.axis.specs.Triple.{OnSide}
use Rattle.axis.specs.declared.Side.{Side}
use Rattle.axis.specs.declared.Side.TheVariants.{Lower as lower, Upper as upper}
use Rattle.axis.proofs.Runs.{if_at_most, if_below, if_equal}
use Rattle.mesh.specs.declared.Blend.{Blend}
use Rattle.mesh.proofs.View.{View, turn, flip, Live, Over, Knot, SoundView, TightView, turned, turn_sound, turn_tight, flip_tight}
use Rattle.mesh.proofs.Neighbours.{neighbours, grid_at, level_at}

-- an upright and a level pass through a point of the domain; and a live blend has its anchor there
pub record Crossing (Q : View) (z v : ℕ) : Type 0 where
  pub across : (1 ≤ z) × (z ≤ Q.w + 1)
  pub up : (1 ≤ v) × (v ≤ Q.h + 1)
  pub below : Q.uprights z (v - 1) ≡ true
  pub above : Q.uprights z v ≡ true
  pub left : Q.levels v (z - 1) ≡ true
  pub right : Q.levels v z ≡ true

pub record Anchor (Q : View) (z v : ℕ) : Type 0 where
  pub blend : Blend
  pub live : Live Q blend
  pub across : (Q.across blend).m ≡ z
  pub up : (Q.up blend).m ≡ v

turn_crossing : {Q : View} {z v : ℕ} → Crossing Q z v → Crossing (turn Q) v z
turn_crossing c = record { across = c.up; up = c.across; below = c.left; above = c.right; left = c.below; right = c.above }

turn_anchor : {Q : View} {z v : ℕ} → Anchor (turn Q) v z → Anchor Q z v
turn_anchor a = record { blend = a.blend; live = a.live; across = a.up; up = a.across }

flip_crossing : (Q : View) {z v : ℕ} → Crossing Q z v → Crossing (flip Q) z (Q.h + 2 - v)
flip_crossing Q {z} {v} c =
    record {
      across = c.across;
      up = (omega arith, omega arith);
      below = subst (λ (k : ℕ). Q.uprights z k ≡ true) (omega arith) c.above;
      above = subst (λ (k : ℕ). Q.uprights z k ≡ true) (omega arith) c.below;
      left = subst (λ (k : ℕ). Q.levels k (z - 1) ≡ true) (omega arith) c.left;
      right = subst (λ (k : ℕ). Q.levels k z ≡ true) (omega arith) c.right;
    }

flip_anchor : (Q : View) {z v : ℕ} → v ≤ Q.h + 1 → Anchor (flip Q) z (Q.h + 2 - v) → Anchor Q z v
flip_anchor Q le a = record { blend = a.blend; live = a.live; across = a.across; up = omega arith }

abbrev Inner : View → ℕ → ℕ → Type 0
Inner Q z v = (1 < z) × (z ≤ Q.w) × (1 < v) × (v ≤ Q.h)

-- A blend over the column right of the crossing, with its anchor at the level and left of the upright: the upright would cut it.
module _ (Q : View) (t : TightView Q) (z v : ℕ) (i : Inner Q z v) (c : Crossing Q z v) (k : Knot Q upper z v) where
  s : SoundView Q
  s = t.is_sound

  abbrev B : Blend
  B = k.blend

  abbrev columns : OnSide Q.w z
  columns = (omega arith, omega arith)

  abbrev over : OnSide Q.h v
  over = (omega arith, omega arith)

  abbrev under : OnSide Q.h (v - 1)
  under = (omega arith, omega arith)

  at_over : Over Q upper upper z v B
  at_over = let r = s.y.rises B k.live in record { live = k.live; column = k.column; row = (omega arith, omega arith) }

  at_under : Over Q upper lower z (v - 1) B
  at_under = let r = s.y.rises B k.live in record { live = k.live; column = k.column; row = (omega arith, omega arith) }

  standing : {y : Side} {j : ℕ} → (n : Knot (turn Q) y j z) → Over Q upper y z j n.blend
  standing n =
      let r = s.x.rises n.blend n.live in
      record { live = n.live; column = (omega arith, omega arith); row = n.column }

  module _ (off : (Q.across B).m ≡ z → ⊥) where
    differ : {y : Side} {j : ℕ} → OnSide Q.h j → (n : Knot (turn Q) y j z) → Over Q upper y z j B → ⊥
    differ {y} {j} on n o =
        let is = s.one upper y z j B n.blend columns on o (standing n) in
        let q = ap (λ (C : Blend). (Q.across C).m) is in
        off (omega arith)

    cut : (n : Knot (turn Q) lower v z) (p : Knot (turn Q) upper (v - 1) z) → ⊥
    cut n p =
        let a = neighbours Q s columns over at_over (standing n) in
        let b = neighbours Q s columns under (standing p) at_under in
        let rb = s.x.rises B k.live in
        let rn = s.y.rises n.blend n.live in
        let rp = s.y.rises p.blend p.live in
        s.x.clear B k.live z (record { lo = omega arith; hi = omega arith; off = λ q. off (omega arith) })
        (λ r lo hi.
        if_below r v (λ lt. grid_at Q s p.blend p.live p.at (omega arith) (omega arith))
        (λ le. grid_at Q s n.blend n.live n.at (omega arith) (omega arith)))

    no : (y u : Side) → Knot (turn Q) y v z → Knot (turn Q) u (v - 1) z → ⊥
    no upper u n p = differ over n at_over
    no lower lower n p = differ under p at_under
    no lower upper n p = cut n p

    refuted : ⊥
    refuted =
        let n = t.y z v i.0 (omega arith) over c.above in
        let p = t.y z (v - 1) i.0 (omega arith) under c.below in
        no n.0 p.0 n.1 p.1

  beside_crossing : Anchor Q z v
  beside_crossing =
      if_equal (Q.across B).m z (λ e. record { blend = B; live = k.live; across = e; up = k.at }) (λ off. absurd (refuted off))

-- A crossing inside the domain:
module _ (Q : View) (t : TightView Q) (z v : ℕ) (i : Inner Q z v) (c : Crossing Q z v) where
  inner_crossing : Anchor Q z v
  inner_crossing = by found.0 found.1
    where
      s : SoundView Q
      s = t.is_sound

      found : (x : Side) × Knot Q x z v
      found = t.x v z i.2 (omega arith) (omega arith, omega arith) c.right

      -- seen from the other side
      swapped : (k : Knot Q lower z v) → (Q.across k.blend).l < z → Anchor Q z v
      swapped k lt =
          let P = flip (turn Q) in
          turn_anchor
          (flip_anchor (turn Q) (omega arith)
          (turn_anchor
          (beside_crossing (turn P) (turn_tight P (flip_tight (turn Q) (turn_tight Q t))) (Q.w + 2 - z) v (omega arith, omega arith, i.2, i.3)
          (turn_crossing (flip_crossing (turn Q) (turn_crossing c)))
          (record { blend = k.blend; live = k.live; column = (omega arith, omega arith); at = k.at }))))

      -- seen on its side
      sideways : (k : Knot Q lower z v) → z ≤ (Q.across k.blend).l → Anchor Q z v
      sideways k le =
          let r = s.some upper upper z v (omega arith, omega arith) (omega arith, omega arith) in
          let o = r.1 in
          let rise = s.y.rises k.blend k.live in
          let n = neighbours (turn Q) (turn_sound Q s) {x = upper} {j = v} {k = z} (omega arith, omega arith) (omega arith, omega arith)
          (turned Q o)
          (record { live = k.live; column = (omega arith, omega arith); row = k.column }) in
          turn_anchor
          (beside_crossing (turn Q) (turn_tight Q t) v z (i.2, i.3, i.0, i.1) (turn_crossing c)
          (record { blend = r.0; live = o.live; column = o.row; at = omega arith }))

      by : (x : Side) → Knot Q x z v → Anchor Q z v
      by upper k = beside_crossing Q t z v i c k
      by lower k = if_below (Q.across k.blend).l z (swapped k) (sideways k)

-- One on the left edge:
module _ (Q : View) (t : TightView Q) (v : ℕ) (i : (1 < v) × (v ≤ Q.h)) (c : Crossing Q 1 v) where
  edge_crossing : Anchor Q 1 v
  edge_crossing = by found.0 found.1
    where
      s : SoundView Q
      s = t.is_sound

      found : (x : Side) × Knot Q x 1 v
      found = t.x v 1 i.0 (omega arith) (omega arith, omega arith) c.right

      corner : (B : Blend) × Over Q upper upper 1 v B
      corner = s.some upper upper 1 v (omega arith, omega arith) (omega arith, omega arith)

      right : Knot Q lower 1 v → (Z : Blend) → Over Q upper upper 1 v Z → Anchor Q 1 v
      right k Z o =
          let rz = s.x.rises Z o.live in
          let ru = s.y.rises Z o.live in
          let rk = s.y.rises k.blend k.live in
          let rx = s.x.rises k.blend k.live in
          let n = neighbours (turn Q) (turn_sound Q s) {x = upper} {j = v} {k = 1} (omega arith, omega arith) (omega arith, omega arith)
          (turned Q o)
          (record { live = k.live; column = (omega arith, omega arith); row = k.column }) in
          if_equal (Q.up Z).m v (λ at. record { blend = Z; live = o.live; across = omega arith; up = at })
          (λ off. absurd (s.y.clear Z o.live v (record { lo = omega arith; hi = omega arith; off = λ same. off (sym same) })
          (λ j lo hi.
          if_equal j 0 (λ zero. subst (λ (u : ℕ). Q.levels v u ≡ true) (sym zero) c.left)
          (λ pos. level_at Q s k.blend k.live k.at (omega arith) (omega arith)))))

      by : (x : Side) → Knot Q x 1 v → Anchor Q 1 v
      by upper k =
          let r = s.x.rises k.blend k.live in
          record { blend = k.blend; live = k.live; across = omega arith; up = k.at }
      by lower k = right k corner.0 corner.1

-- Anywhere but on the far edges; and then by flipping anywhere.
low_crossing : (Q : View) (t : TightView Q) (z v : ℕ) → z ≤ Q.w → v ≤ Q.h → Crossing Q z v → Anchor Q z v
low_crossing Q t z v hz hv c =
    if_below 1 z
    (λ right. if_below 1 v (λ over. inner_crossing Q t z v (right, hz, over, hv) c)
    (λ low. let is : v ≡ 1 = omega arith in
    turn_anchor (subst (λ (n : ℕ). Anchor (turn Q) n z) (sym is)
    (edge_crossing (turn Q) (turn_tight Q t) z (right, hz) (turn_crossing (subst (Crossing Q z) is c))))))
    (λ first. let is : z ≡ 1 = omega arith in
    subst (λ (n : ℕ). Anchor Q n v) (sym is)
    (if_below 1 v (λ over. edge_crossing Q t v (over, hv) (subst (λ (n : ℕ). Crossing Q n v) is c))
    (λ low. let s = t.is_sound in
    let r = s.some upper upper 1 1 (omega arith, omega arith) (omega arith, omega arith) in
    let o = r.1 in
    let rx = s.x.rises r.0 o.live in
    let ry = s.y.rises r.0 o.live in
    record { blend = r.0; live = o.live; across = omega arith; up = omega arith })))

left_crossing : (Q : View) (t : TightView Q) (z v : ℕ) → z ≤ Q.w → Crossing Q z v → Anchor Q z v
left_crossing Q t z v hz c =
    let u = c.up in
    if_at_most v Q.h (λ le. low_crossing Q t z v hz le c)
    (λ far. flip_anchor Q u.1 (low_crossing (flip Q) (flip_tight Q t) z (Q.h + 2 - v) hz (omega arith) (flip_crossing Q c)))

pub crossing_anchored : (Q : View) (t : TightView Q) (z v : ℕ) → Crossing Q z v → Anchor Q z v
crossing_anchored Q t z v c =
    let a = c.across in
    if_at_most z Q.w (λ le. left_crossing Q t z v le c)
    (λ far. turn_anchor
    (flip_anchor (turn Q) a.1
    (turn_anchor
    (left_crossing (turn (flip (turn Q))) (turn_tight (flip (turn Q)) (flip_tight (turn Q) (turn_tight Q t))) (Q.w + 2 - z) v (omega arith)
    (turn_crossing (flip_crossing (turn Q) (turn_crossing c)))))))

-- An anchor is a crossing by its blend's grid.
pub anchor_crosses : (Q : View) (s : SoundView Q) (B : Blend) → Live Q B → Crossing Q (Q.across B).m (Q.up B).m
anchor_crosses Q s B m =
    let rx = s.x.rises B m in
    let ry = s.y.rises B m in
    record {
      across = (omega arith, omega arith);
      up = (omega arith, omega arith);
      below = grid_at Q s B m refl (omega arith) (omega arith);
      above = grid_at Q s B m refl (omega arith) (omega arith);
      left = level_at Q s B m refl (omega arith) (omega arith);
      right = level_at Q s B m refl (omega arith) (omega arith);
    }
