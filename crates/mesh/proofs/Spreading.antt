-- A line of a sound map that stands on the grid of a live blend in one of its rows does so in all of them, if it ends on levels of such grids.
use Prim.Native.Nat.{ℕ, zero, suc, ◌+◌, ◌-◌, ◌≤◌, ◌<◌}
use native.Mathlib.Omega.{arith}
use mathlib.Core.Path.{◌≡◌, sym, ap, subst}
use mathlib.Core.Logic.{◌⊎◌, inl, inr}
use mathlib.Core.Bool.{true, false}
use Rattle.axis.specs.Triple.{OnSide}
use Rattle.axis.specs.declared.Side.{Side}
use Rattle.axis.specs.declared.Side.TheVariants.{Lower as lower, Upper as upper}
use Rattle.axis.proofs.Tests.{true_not_false}
use Rattle.axis.proofs.Runs.{if_at_most, if_below, if_equal, Downward, throughout, until, downward}
use Rattle.axis.proofs.Sides.{column, StepIn, KnotIn, opposite, mirror, in_mirror, inside_of, step_beside, own_column, past_column, on_column}
use Rattle.axis.proofs.Triples.{rise_of}
use Rattle.mesh.specs.declared.Blend.{Blend}
use Rattle.mesh.proofs.View.{View, turn, flip, Live, Knot, SoundView, flip_sound}
use Rattle.mesh.proofs.Neighbours.{neighbours, grid_at}

-- some live blend has its anchor on the upright z and lies over row k
abbrev pub Used : View → ℕ → ℕ → Type 0
Used Q z k = (y : Side) × Knot (turn Q) y k z

-- beside the upright z, level a is that of a live blend's anchor
pub record Rests (Q : View) (z a : ℕ) : Type 0 where
  pub column : ℕ
  pub near : (column ≡ z) ⊎ (column + 1 ≡ z)
  pub part : Side
  pub knot : Knot Q part column a

-- so it is where the upright begins, and where it ends
abbrev pub RestsBelow : View → ℕ → Type 0
RestsBelow Q z = (a : ℕ) → 1 < a → a < Q.h + 1 → Q.uprights z (a - 1) ≡ false → Q.uprights z a ≡ true → Rests Q z a

abbrev pub RestsAbove : View → ℕ → Type 0
RestsAbove Q z = (a : ℕ) → 1 < a → a < Q.h + 1 → Q.uprights z (a - 1) ≡ true → Q.uprights z a ≡ false → Rests Q z a

-- One row down:
module _ (Q : View) (s : SoundView Q) (z : ℕ) (hz : (1 < z) × (z ≤ Q.w)) (rests : RestsBelow Q z)
    (v : ℕ) (hv : (1 < v) × (v ≤ Q.h)) (on : Q.uprights z (v - 1) ≡ true) where
  below_it : Knot (turn Q) upper v z → Used Q z (v - 1)
  below_it k =
      let r = s.y.rises k.blend k.live in
      if_below (Q.up k.blend).m v (λ lt. (upper, record { blend = k.blend; live = k.live; column = (omega arith, omega arith); at = k.at }))
      (λ le. (lower, record { blend = k.blend; live = k.live; column = (omega arith, omega arith); at = k.at }))

  -- a blend that begins at the row, with its anchor on the upright
  module _ (Y : Knot (turn Q) lower v z) (starts : (Q.up Y.blend).l ≡ v) where
    abbrev in_row : OnSide Q.h v
    in_row = (omega arith, omega arith)

    -- and the blends below it on either side: their anchors are at level v, and they end at its anchor
    record Under (x : Side) : Type 0 where
      blend : Blend
      live : Live Q blend
      over : KnotIn x z (Q.across blend)
      anchored : (Q.up blend).m ≡ v
      ends : (Q.up blend).r ≡ (Q.up Y.blend).m

    under : (x : Side) → Used Q z (v - 1) ⊎ Under x
    under x =
        let on_side = on_column x z Q.w hz in
        let r = s.some x upper (column x z) v on_side in_row in
        let o = r.1 in
        let n = neighbours Q s on_side in_row o
        (record { live = Y.live; column = own_column x z (Q.across Y.blend) (rise_of (s.x.rises Y.blend Y.live)) Y.at; row = Y.column }) in
        if_equal (Q.across r.0).m z (λ e. inl (below_it (record { blend = r.0; live = o.live; column = o.row; at = e })))
        (λ ne. inr
        (record {
          blend = r.0;
          live = o.live;
          over = past_column x z (Q.across r.0) (omega arith) o.column ne;
          anchored = omega arith;
          ends = n.1;
        }))

    -- the upright would cut one, if it covered the rows below
    bare : {x : Side} (u : Under x) → ((k : ℕ) → (Q.up u.blend).l ≤ k → k < v → Q.uprights z k ≡ true) → ⊥
    bare {x} u below =
        let ry = s.y.rises Y.blend Y.live in
        s.x.clear u.blend u.live z (inside_of x z (Q.across u.blend) (rise_of (s.x.rises u.blend u.live)) u.over)
        (λ k lo hi. if_below k v (below k lo) (λ le. grid_at Q s Y.blend Y.live Y.at (omega arith) (omega arith)))

    next_to : (j : ℕ) → (j ≡ z) ⊎ (j + 1 ≡ z) → (j ≤ z) × (z ≤ j + 1)
    next_to j (inl e) = (omega arith, omega arith)
    next_to j (inr e) = (omega arith, omega arith)

    -- so it begins between their start and the row, on a level that has no blend's anchor there
    begins : (u : (x : Side) → Under x) (e : ℕ) → (Q.up (u upper).blend).l ≤ e → e < v → Q.uprights z e ≡ false →
        ((k : ℕ) → e < k → k < v → Q.uprights z k ≡ true) → ⊥
    begins u e lo hi off covered =
        let anchor = (u upper).anchored in
        let below : e < v - 1 =
        if_equal e (v - 1) (λ is. absurd (true_not_false _ (subst (λ (k : ℕ). Q.uprights z k ≡ true) (sym is) on) off)) (λ ne. omega arith) in
        let domain : 1 ≤ e =
        if_at_most 1 e (λ le. le) (λ none. let n = s.y.near (u upper).blend (u upper).live (omega arith) in absurd (omega arith)) in
        let r = rests (e + 1) (omega arith) (omega arith) (subst (λ (k : ℕ). Q.uprights z k ≡ false) (omega arith) off)
        (covered (e + 1) (omega arith) (omega arith)) in
        clash r r.part (u r.part) r.knot (reaches r.part) below domain
      where
        reaches : (x : Side) → (Q.up (u x).blend).l ≤ e
        reaches x = if_at_most (Q.up (u x).blend).l e (λ le. le) (λ gt. absurd (bare (u x) (λ k a b. covered k (omega arith) b)))

        clash : (r : Rests Q z (e + 1)) (x : Side) (w : Under x) → Knot Q x r.column (e + 1) → (Q.up w.blend).l ≤ e → e < v - 1 → 1 ≤ e → ⊥
        clash r x w k le lt one =
            let rise = s.y.rises k.blend k.live in
            let near = next_to r.column r.near in
            let is = s.one x lower r.column e k.blend w.blend (omega arith, omega arith) (omega arith, omega arith)
            (record { live = k.live; column = k.column; row = (omega arith, omega arith) })
            (record { live = w.live; column = step_beside x z r.column (Q.across w.blend) near w.over; row = (omega arith, omega arith) }) in
            let q = ap (λ (B : Blend). (Q.up B).m) is in
            omega arith

    starts_above : Used Q z (v - 1)
    starts_above = both (under lower) (under upper)
      where
        search : (u : (x : Side) → Under x) → Downward (Q.uprights z) (Q.up (u upper).blend).l v → ⊥
        search u (throughout f) = bare (u upper) f
        search u (until e lo hi off f) = begins u e lo hi off f

        pair : Under lower → Under upper → (x : Side) → Under x
        pair a b lower = a
        pair a b upper = b

        both : Used Q z (v - 1) ⊎ Under lower → Used Q z (v - 1) ⊎ Under upper → Used Q z (v - 1)
        both (inl r) o = r
        both (inr a) (inl r) = r
        both (inr a) (inr b) = absurd (search (pair a b) (downward (Q.uprights z) (Q.up b.blend).l v))

  one_down : Used Q z v → Used Q z (v - 1)
  one_down u = by u.0 u.1
    where
      by : (y : Side) → Knot (turn Q) y v z → Used Q z (v - 1)
      by upper k = below_it k
      by lower k =
          if_equal (Q.up k.blend).l v (starts_above k)
          (λ ne. (lower, record { blend = k.blend; live = k.live; column = (omega arith, omega arith); at = k.at }))

-- Down to any row, up to any row, and so anywhere along the line.
all_down : (Q : View) (s : SoundView Q) (z : ℕ) (hz : (1 < z) × (z ≤ Q.w)) → RestsBelow Q z → (n k : ℕ) → 1 ≤ k → k + n ≤ Q.h →
    ((i : ℕ) → k ≤ i → i < k + n → Q.uprights z i ≡ true) → Used Q z (k + n) → Used Q z k
all_down Q s z hz rests zero k one le on u = subst (Used Q z) (omega arith) u
all_down Q s z hz rests (suc n) k one le on u =
    all_down Q s z hz rests n k one (omega arith) (λ i lo hi. on i lo (omega arith))
    (subst (Used Q z) (omega arith)
    (one_down Q s z hz rests (k + suc n) (omega arith, le) (on (k + suc n - 1) (omega arith) (omega arith)) u))

flip_used : (Q : View) (s : SoundView Q) (z k : ℕ) → OnSide Q.h k → Used Q z k → Used (flip Q) z (Q.h + 1 - k)
flip_used Q s z k on u =
    let n = u.1 in (
      opposite u.0,
      record {
        blend = n.blend;
        live = n.live;
        column = in_mirror Q.h u.0 k (Q.up n.blend) (s.y.rises n.blend n.live) on n.column;
        at = n.at;
      },
    )

used_flip : (Q : View) (z k : ℕ) → OnSide Q.h k → Used (flip Q) z (Q.h + 1 - k) → Used Q z k
used_flip Q z k on u = (opposite u.0, record { blend = u.1.blend; live = u.1.live; column = by u.0 u.1.column; at = u.1.at })
  where
    by : (y : Side) → StepIn y (Q.h + 1 - k) (mirror Q.h (Q.up u.1.blend)) → StepIn (opposite y) k (Q.up u.1.blend)
    by lower i = (omega arith, omega arith)
    by upper i = (omega arith, omega arith)

flip_rests : (Q : View) (z : ℕ) → RestsAbove Q z → RestsBelow (flip Q) z
flip_rests Q z rests a lo hi off on =
    let r = rests (Q.h + 2 - a) (omega arith) (omega arith) (subst (λ (k : ℕ). Q.uprights z k ≡ true) (omega arith) on)
    (subst (λ (k : ℕ). Q.uprights z k ≡ false) (omega arith) off) in
    let k = r.knot in
    record {
      column = r.column;
      near = r.near;
      part = r.part;
      knot = record { blend = k.blend; live = k.live; column = k.column; at = omega arith };
    }

pub used_along : (Q : View) (s : SoundView Q) (z : ℕ) (hz : (1 < z) × (z ≤ Q.w)) → RestsBelow Q z → RestsAbove Q z → (a b : ℕ) → 1 ≤ a → b ≤ Q.h + 1 →
    ((k : ℕ) → a ≤ k → k < b → Q.uprights z k ≡ true) → (i : ℕ) → a ≤ i → i < b → Used Q z i → (k : ℕ) → a ≤ k → k < b → Used Q z k
used_along Q s z hz below above a b one le on i lo hi u k klo khi =
    if_at_most k i
    (λ down. all_down Q s z hz below (i - k) k (omega arith) (omega arith) (λ n nlo nhi. on n (omega arith) (omega arith))
    (subst (Used Q z) (omega arith) u))
    (λ up. used_flip Q z k (omega arith, omega arith)
    (all_down (flip Q) (flip_sound Q s) z hz (flip_rests Q z above) (k - i) (Q.h + 1 - k) (omega arith) (omega arith)
    (λ n nlo nhi. on (Q.h + 1 - n) (omega arith) (omega arith))
    (subst (Used (flip Q) z) (omega arith) (flip_used Q s z i (omega arith, omega arith) u))))
