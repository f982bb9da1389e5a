-- A line drawn in a gap at an upright position, between good ends: what it cuts, and that it leaves no square with two blends in one quadrant.
use Prim.Native.Nat.{ℕ, ◌+◌, ◌-◌, ◌≤◌, ◌<◌}
use native.Mathlib.Omega.{arith}
use mathlib.Core.Path.{◌≡◌, sym, ap, subst, ◌∙◌}
use mathlib.Core.Logic.{◌⊎◌, inl, inr, ⊎_elim}
use mathlib.Core.Bool.{Bool, true, false}
use Rattle.axis.specs.Triple.{triple, RisesIn, OnSide}
use Rattle.axis.specs.declared.Side.{Side}
use Rattle.axis.specs.declared.Side.TheVariants.{Lower as lower, Upper as upper}
use Rattle.axis.proofs.Tests.{true_not_false}
use Rattle.axis.proofs.Runs.{if_at_most, if_below, if_equal}
use Rattle.axis.proofs.Triples.{rise_of}
use Rattle.axis.proofs.Sides.{StepIn, KnotIn, opposite, from, to, knot_step, past_start, knots_from, part_within, inside_of, mirror, in_mirror}
use Rattle.mesh.specs.declared.Blend.{Blend}
use Rattle.mesh.proofs.View.{View, turn, flip, swap, Live, Over, SoundView, TightView, turned, turn_sound, flip_tight, swap_tight, flipped, on_mirror}
use Rattle.mesh.proofs.Neighbours.{neighbours, level_at, Abreast, Ended, line_ends, outward, flip_abreast}

module _ (Q : View) (t : TightView Q) where
  s : SoundView Q
  s = t.is_sound

  -- a blend over column z and a row in which the upright z has no step: z lies strictly inside one of its parts
  pub astride : (x : Side) (B : Blend) (z k : ℕ) → Live Q B → StepIn x z (Q.across B) → (Q.up B).l ≤ k → k < (Q.up B).r → Q.uprights z k ≡ false →
      KnotIn x z (Q.across B)
  astride x B z k m i lo hi off =
      past_start x z (Q.across B) i
      (λ same. true_not_false _ (subst (λ (n : ℕ). Q.uprights n k ≡ true) same (knots_from x (s.x.grid B m k lo hi))) off)

  -- Blends over one square, with their anchors both above it or both below it, have one part there, whichever it is.
  abbrev pub Agree : Side → Side → Blend → Blend → Type 0
  Agree x u B C = (from x (Q.across B) ≡ from u (Q.across C)) × (to x (Q.across B) ≡ to u (Q.across C))

  agree_back : (x u : Side) (B C : Blend) → Agree x u B C → Agree u x C B
  agree_back x u B C a = (sym a.0, sym a.1)

  left_right : (y : Side) (j k : ℕ) (B C : Blend) → OnSide Q.w j → OnSide Q.h k → Over Q upper y j k B → Over Q lower y j k C → Agree upper lower B C
  left_right y j k B C hj hk p q =
      let n = neighbours (turn Q) (turn_sound Q s) {x = y} {j = k} {k = j} hk hj
      (turned Q p) (turned Q q) in
      (sym n.0, n.1)

  over_one : (x u y : Side) (j k : ℕ) (B C : Blend) → OnSide Q.w j → OnSide Q.h k → Over Q x y j k B → Over Q u y j k C → Agree x u B C
  over_one upper lower y j k B C hj hk p q = left_right y j k B C hj hk p q
  over_one lower upper y j k B C hj hk p q = agree_back upper lower C B (left_right y j k C B hj hk q p)
  over_one lower lower y j k B C hj hk p q =
      let e = s.one lower y j k B C hj hk p q in (ap (λ (D : Blend). (Q.across D).l) e, ap (λ (D : Blend). (Q.across D).m) e)
  over_one upper upper y j k B C hj hk p q =
      let e = s.one upper y j k B C hj hk p q in (ap (λ (D : Blend). (Q.across D).m) e, ap (λ (D : Blend). (Q.across D).r) e)

  -- a blend over column z, and a level w strictly inside it
  pub record Holding (z w : ℕ) (x : Side) (B : Blend) : Type 0 where
    pub live : Live Q B
    pub column : StepIn x z (Q.across B)
    pub lo : (Q.up B).l < w
    pub hi : w < (Q.up B).r

  module _ (z w : ℕ) (hz : OnSide Q.w z) where
    inner_level : {x : Side} {B : Blend} → Holding z w x B → ((Q.up B).m ≡ w → ⊥) → (1 < w) × (w < Q.h + 1)
    inner_level {x} {B} b off =
        let r = s.y.rises B b.live in (
          if_below 1 w (λ lt. lt) (λ le. let n = s.y.near B b.live (omega arith) in absurd (off (omega arith))),
          if_below w (Q.h + 1) (λ lt. lt) (λ le. let n = s.y.far B b.live (omega arith) in absurd (off (omega arith))),
        )

    both_below : (x u : Side) (B C : Blend) → Holding z w x B → Holding z w u C → (Q.up B).m ≤ w → (Q.up C).m ≤ w → w ≤ Q.h → Agree x u B C
    both_below x u B C b c p q le =
        over_one x u upper z w B C hz (omega arith, omega arith)
        (record { live = b.live; column = b.column; row = (p, b.hi) }) (record { live = c.live; column = c.column; row = (q, c.hi) })

    both_above : (x u : Side) (B C : Blend) → Holding z w x B → Holding z w u C → w ≤ (Q.up B).m → w ≤ (Q.up C).m → 2 ≤ w → Agree x u B C
    both_above x u B C b c p q two =
        let rb = s.y.rises B b.live in
        over_one x u lower z (w - 1) B C hz (omega arith, omega arith)
        (record { live = b.live; column = b.column; row = (omega arith, omega arith) })
        (record { live = c.live; column = c.column; row = (omega arith, omega arith) })

    -- the blend with its anchor at the level, where the level has a step in the column
    record Standing : Type 0 where
      part : Side
      blend : Blend
      holds : Holding z w part blend
      at : (Q.up blend).m ≡ w

    standing : Q.levels w z ≡ true → (1 < w) × (w < Q.h + 1) → Standing
    standing on inner =
        let r = t.x w z inner.0 inner.1 hz on in
        let k = r.1 in
        let rise = s.y.rises k.blend k.live in
        record {
          part = r.0;
          blend = k.blend;
          holds = record { live = k.live; column = k.column; lo = omega arith; hi = omega arith };
          at = k.at;
        }

    to_standing : (x : Side) (B : Blend) → Holding z w x B → (o : Standing) → (1 < w) × (w < Q.h + 1) → Agree x o.part B o.blend
    to_standing x B b o inner =
        if_at_most (Q.up B).m w (λ le. both_below x o.part B o.blend b o.holds le (omega arith) (omega arith))
        (λ gt. both_above x o.part B o.blend b o.holds (omega arith) (omega arith) (omega arith))

    -- Any two blends over the column that hold the level have one part there;
    pub agree : Q.levels w z ≡ true → (x u : Side) (B C : Blend) → Holding z w x B → Holding z w u C → Agree x u B C
    agree on x u B C b c =
        if_equal (Q.up B).m w (λ e. if_equal (Q.up C).m w (same e) (λ off. through (inner_level c off))) (λ off. through (inner_level b off))
      where
        through : (1 < w) × (w < Q.h + 1) → Agree x u B C
        through inner =
            let o = standing on inner in
            let p = to_standing x B b o inner in
            let q = to_standing u C c o inner in
            (p.0 ∙ sym q.0, p.1 ∙ sym q.1)

        same : (Q.up B).m ≡ w → (Q.up C).m ≡ w → Agree x u B C
        same e f =
            if_at_most w Q.h (both_below x u B C b c (omega arith) (omega arith))
            (λ gt. both_above x u B C b c (omega arith) (omega arith) (omega arith))

    -- and the level covers it.
    pub level_covers : Q.levels w z ≡ true → (x : Side) (B : Blend) → Holding z w x B → (j : ℕ) → from x (Q.across B) ≤ j → j < to x (Q.across B) →
        Q.levels w j ≡ true
    level_covers on x B b j lo hi =
        if_equal (Q.up B).m w (λ e. part_on x B b.live e lo hi)
        (λ ne. let inner = inner_level b ne in
        let o = standing on inner in
        let a = to_standing x B b o inner in
        part_on o.part o.blend o.holds.live o.at (subst (λ (n : ℕ). n ≤ j) a.0 lo) (subst (λ (n : ℕ). j < n) a.1 hi))
      where
        part_on : (x : Side) (C : Blend) → Live Q C → (Q.up C).m ≡ w → from x (Q.across C) ≤ j → j < to x (Q.across C) → Q.levels w j ≡ true
        part_on x C m at lo hi = let p = part_within x (Q.across C) (rise_of (s.x.rises C m)) in level_at Q s C m at (omega arith) (omega arith)

  -- Two blends abreast of the upright z at level a:
  module _ (z a : ℕ) (hz : OnSide Q.w z) (ha : (1 < a) × (a < Q.h + 1)) (e : Abreast Q upper z a) where
    under : (x : Side) (k : ℕ) → e.reach ≤ k → k < a → Over Q x lower z k (e.at x)
    under x k lo hi =
        let at = e.anchored x in
        let start = e.reaches x in
        record { live = e.live x; column = knot_step x z _ (e.over x); row = (omega arith, omega arith) }

    -- a blend over the upright on both sides of the level is one of them,
    pub met : (x : Side) (B : Blend) → Live Q B → KnotIn x z (Q.across B) → (Q.up B).l < a → a < (Q.up B).r → B ≡ e.at x
    met x B m p lo hi =
        let at = e.anchored x in
        let start = e.reaches x in
        let rise = s.y.rises (e.at x) (e.live x) in
        if_at_most a (Q.up B).m
        (λ le. s.one x lower z (a - 1) B (e.at x) hz (omega arith, omega arith)
        (record { live = m; column = knot_step x z _ p; row = (omega arith, omega arith) }) (under x (a - 1) (omega arith) (omega arith)))
        (λ lt. let n = neighbours Q s hz (omega arith, omega arith) (record { live = m; column = knot_step x z _ p; row = (omega arith, omega arith) })
        (under x (a - 1) (omega arith) (omega arith)) in
        absurd (omega arith))

    -- and no level has a step beside it between their start and their anchors.
    pub between_none : (w : ℕ) → Q.levels w z ≡ true → e.reach < w → w < a → ⊥
    between_none w on lo hi =
        let first = e.reaches upper in
        let anchored = e.anchored upper in
        let inside : 1 ≤ e.reach =
        if_at_most 1 e.reach (λ le. le) (λ none. let n = s.y.near (e.at upper) (e.live upper) (omega arith) in absurd (omega arith)) in
        let r = t.x w z (omega arith) (omega arith) hz on in
        let k = r.1 in
        let anchor = e.anchored r.0 in
        let rise = s.y.rises k.blend k.live in
        let is = s.one r.0 lower z (w - 1) k.blend (e.at r.0) hz (omega arith, omega arith)
        (record { live = k.live; column = k.column; row = (omega arith, omega arith) }) (under r.0 (w - 1) (omega arith) (omega arith)) in
        let q = ap (λ (B : Blend). (Q.up B).m) is in
        omega arith

-- the same at the lower end of a line
module _ (Q : View) (t : TightView Q) (z a : ℕ) (hz : OnSide Q.w z) (ha : (1 < a) × (a < Q.h + 1)) where
  abbrev mirrored : (1 < Q.h + 2 - a) × (Q.h + 2 - a < Q.h + 1)
  mirrored = (omega arith, omega arith)

  pub met_at : (e : Side) (b : Abreast Q e z a) (x : Side) (B : Blend) → Live Q B → KnotIn x z (Q.across B) → (Q.up B).l < a → a < (Q.up B).r → B ≡ b.at x
  unfolding flip_abreast
  met_at upper b x B m p lo hi = met Q t z a hz ha b x B m p lo hi
  met_at lower b x B m p lo hi =
      met (flip Q) (flip_tight Q t) z (Q.h + 2 - a) hz mirrored (flip_abreast Q lower z a b) x B m p (omega arith) (omega arith)

  pub above_none : (b : Abreast Q lower z a) (w : ℕ) → Q.levels w z ≡ true → a < w → w < b.reach → ⊥
  unfolding flip_abreast
  above_none b w on lo hi =
      let end : (Q.up (b.at upper)).r ≡ b.reach = b.reaches upper in
      let r = t.is_sound.y.rises (b.at upper) (b.live upper) in
      between_none (flip Q) (flip_tight Q t) z (Q.h + 2 - a) hz mirrored (flip_abreast Q lower z a b) (Q.h + 2 - w)
      (subst (λ (n : ℕ). Q.levels n z ≡ true) (omega arith) on) (omega arith) (omega arith)

-- the edges of the domain
abbrev pub edge_of : View → Side → ℕ
edge_of Q lower = 1
edge_of Q upper = Q.h + 1

-- A good end of a line at z: the edge of the domain, a line that goes on, or two blends abreast of it.
pub data Good (Q : View) (e : Side) (z a : ℕ) : Type 0 where
  edge : a ≡ edge_of Q e → Good Q e z a
  line : (1 < a) × (a < Q.h + 1) → Q.uprights z (outward e a) ≡ true → Good Q e z a
  blends : (1 < a) × (a < Q.h + 1) → Q.uprights z (outward e a) ≡ false → Abreast Q e z a → Good Q e z a

flip_outward : (e : Side) (h a : ℕ) → (1 ≤ a) × (a ≤ h + 1) → outward e a ≡ h + 1 - outward (opposite e) (h + 2 - a)
flip_outward lower h a ha = omega arith
flip_outward upper h a ha = omega arith

pub flip_good : (Q : View) (e : Side) (z a : ℕ) → (1 ≤ a) × (a ≤ Q.h + 1) → Good Q e z a → Good (flip Q) (opposite e) z (Q.h + 2 - a)
flip_good Q lower z a ha (edge q) = edge (omega arith)
flip_good Q upper z a ha (edge q) = edge (omega arith)
flip_good Q e z a ha (line i on) = line (omega arith, omega arith) (subst (λ (n : ℕ). Q.uprights z n ≡ true) (flip_outward e Q.h a ha) on)
flip_good Q e z a ha (blends i off b) =
    blends (omega arith, omega arith) (subst (λ (n : ℕ). Q.uprights z n ≡ false) (flip_outward e Q.h a ha) off) (flip_abreast Q e z a b)

pub swap_good : (Q : View) (s : SoundView Q) (e : Side) (z a : ℕ) → z ≤ Q.w + 2 → Good Q e z a → Good (swap Q) e (Q.w + 2 - z) a
swap_good Q s lower z a hz (edge q) = edge q
swap_good Q s upper z a hz (edge q) = edge q
swap_good Q s e z a hz (line i on) = line i (subst (λ (n : ℕ). Q.uprights n (outward e a) ≡ true) (omega arith) on)
swap_good Q s e z a hz (blends i off b) =
    blends i (subst (λ (n : ℕ). Q.uprights n (outward e a) ≡ false) (omega arith) off)
    (record {
      reach = b.reach;
      at = λ x. b.at (opposite x);
      live = λ x. b.live (opposite x);
      over = over;
      anchored = λ x. b.anchored (opposite x);
      reaches = λ x. b.reaches (opposite x);
    })
  where
    over : (x : Side) → KnotIn x (Q.w + 2 - z) (mirror Q.w (Q.across (b.at (opposite x))))
    over lower = let r = s.x.rises (b.at upper) (b.live upper) in let o = b.over upper in (omega arith, omega arith)
    over upper = let r = s.x.rises (b.at lower) (b.live lower) in let o = b.over lower in (omega arith, omega arith)

-- A line drawn at z over the rows a to b of a gap, between good ends; `drawn` are the upright's steps with it, run out as document 01 says.
pub record Drawn (Q : View) (z a b : ℕ) (drawn : ℕ → Bool) : Type 0 where
  pub inner : (1 < z) × (z ≤ Q.w)
  pub range : (1 ≤ a) × (a < b) × (b ≤ Q.h + 1)
  pub free : (k : ℕ) → a ≤ k → k < b → Q.uprights z k ≡ false
  pub old : (k : ℕ) → Q.uprights z k ≡ true → drawn k ≡ true
  pub new : (k : ℕ) → a ≤ k → k < b → drawn k ≡ true
  pub out_below : a ≡ 1 → drawn 0 ≡ true
  pub out_above : b ≡ Q.h + 1 → drawn (Q.h + 1) ≡ true
  pub only : (k : ℕ) → k ≤ Q.h + 1 → drawn k ≡ true →
      (Q.uprights z k ≡ true) ⊎ (((a ≤ k) × (k < b)) ⊎ (((k ≡ 0) × (a ≡ 1)) ⊎ ((k ≡ Q.h + 1) × (b ≡ Q.h + 1))))
  pub low_end : Good Q lower z a
  pub high_end : Good Q upper z b

-- a row that is drawn, below a line that does not start at the edge or above one that does not end there, was on before
was_on : (Q : View) {z a b : ℕ} {drawn : ℕ → Bool} → Drawn Q z a b drawn → (k : ℕ) → ((1 < a) × (k < a)) ⊎ ((b ≤ k) × (k ≤ Q.h)) → drawn k ≡ true →
    Q.uprights z k ≡ true
was_on Q d k (inl off) on =
    ⊎_elim (λ q. q) (⊎_elim (λ q. absurd (omega arith)) (⊎_elim (λ q. absurd (omega arith)) (λ q. absurd (omega arith)))) (d.only k (omega arith) on)
was_on Q d k (inr off) on =
    ⊎_elim (λ q. q) (⊎_elim (λ q. absurd (omega arith)) (⊎_elim (λ q. absurd (omega arith)) (λ q. absurd (omega arith)))) (d.only k (omega arith) on)

-- the line cuts a blend that it enters
abbrev pub CutBy : View → (ℕ → Bool) → Blend → Type 0
CutBy Q drawn B = (k : ℕ) → (Q.up B).l ≤ k → k < (Q.up B).r → drawn k ≡ true

module _ (Q : View) (t : TightView Q) (z a b : ℕ) (drawn : ℕ → Bool) (d : Drawn Q z a b drawn) where
  sound : SoundView Q
  sound = t.is_sound

  abbrev column : OnSide Q.w z
  column = (omega arith, omega arith)

  -- A level strictly inside a cut blend does not lie below the line,
  level_low : (x : Side) (B : Blend) → Live Q B → KnotIn x z (Q.across B) → CutBy Q drawn B → (w : ℕ) → Q.levels w z ≡ true →
      (Q.up B).l < w → w < (Q.up B).r → a ≤ w
  level_low x B m p c w on lo hi = if_at_most a w (λ le. le) (λ lt. absurd (under lt))
    where
      reach : w < a → a < (Q.up B).r
      reach lt =
          if_below a (Q.up B).r (λ lt. lt)
          (λ le. absurd (sound.x.clear B m z (inside_of x z (Q.across B) (rise_of (sound.x.rises B m)) p)
          (λ k klo khi. was_on Q d k (inl (omega arith, omega arith)) (c k klo khi))))

      under : w < a → ⊥
      under lt =
          let up = reach lt in
          let inner : (1 < a) × (a < Q.h + 1) = (omega arith, omega arith) in
          let on_below = was_on Q d (a - 1) (inl (omega arith, omega arith)) (c (a - 1) (omega arith) (omega arith)) in
          let e = line_ends Q t z a (omega arith, omega arith) inner upper on_below (d.free a (omega arith) (omega arith)) in
          let is = met_at Q t z a column inner upper e.abreast x B m p (omega arith) up in
          let start = ap (λ (C : Blend). (Q.up C).l) is in
          let reaches = e.abreast.reaches x in
          between_none Q t z a column inner e.abreast w on (omega arith) lt

-- Seen from the other end, and from the other side:
pub flip_drawn : (Q : View) (z a b : ℕ) (drawn : ℕ → Bool) → Drawn Q z a b drawn → Drawn (flip Q) z (Q.h + 2 - b) (Q.h + 2 - a) (λ k. drawn (Q.h + 1 - k))
flip_drawn Q z a b drawn d =
    record {
      inner = d.inner;
      range = (omega arith, omega arith, omega arith);
      free = λ k lo hi. d.free (Q.h + 1 - k) (omega arith) (omega arith);
      old = λ k. d.old (Q.h + 1 - k);
      new = λ k lo hi. d.new (Q.h + 1 - k) (omega arith) (omega arith);
      out_below = λ e. subst (λ (n : ℕ). drawn n ≡ true) (omega arith) (d.out_above (omega arith));
      out_above = λ e. subst (λ (n : ℕ). drawn n ≡ true) (omega arith) (d.out_below (omega arith));
      only = λ k le e.
          ⊎_elim inl
          (⊎_elim (λ q. inr (inl (omega arith, omega arith)))
          (⊎_elim (λ q. inr (inr (inr (omega arith, omega arith)))) (λ q. inr (inr (inl (omega arith, omega arith))))))
          (d.only (Q.h + 1 - k) (omega arith) e);
      low_end = flip_good Q upper z b (omega arith, omega arith) d.high_end;
      high_end = flip_good Q lower z a (omega arith, omega arith) d.low_end;
    }

pub swap_drawn : (Q : View) (s : SoundView Q) (z a b : ℕ) (drawn : ℕ → Bool) → Drawn Q z a b drawn → Drawn (swap Q) (Q.w + 2 - z) a b drawn
swap_drawn Q s z a b drawn d =
    record {
      inner = (omega arith, omega arith);
      range = d.range;
      free = λ k lo hi. subst (λ (n : ℕ). Q.uprights n k ≡ false) (omega arith) (d.free k lo hi);
      old = λ k on. d.old k (subst (λ (n : ℕ). Q.uprights n k ≡ true) (omega arith) on);
      new = d.new;
      out_below = d.out_below;
      out_above = d.out_above;
      only = λ k le e. ⊎_elim (λ q. inl (subst (λ (n : ℕ). Q.uprights n k ≡ true) (omega arith) q)) inr (d.only k le e);
      low_end = swap_good Q s lower z a (omega arith) d.low_end;
      high_end = swap_good Q s upper z b (omega arith) d.high_end;
    }

pub flip_cut : (Q : View) (s : SoundView Q) (drawn : ℕ → Bool) (B : Blend) → Live Q B → CutBy Q drawn B → CutBy (flip Q) (λ k. drawn (Q.h + 1 - k)) B
flip_cut Q s drawn B m c k lo hi = c (Q.h + 1 - k) (omega arith) (omega arith)

cut_flip : (Q : View) (s : SoundView Q) (drawn : ℕ → Bool) (B : Blend) → Live Q B → CutBy (flip Q) (λ k. drawn (Q.h + 1 - k)) B → CutBy Q drawn B
cut_flip Q s drawn B m c k lo hi =
    let r = s.y.rises B m in
    subst (λ (n : ℕ). drawn n ≡ true) (omega arith) (c (Q.h + 1 - k) (omega arith) (omega arith))

module _ (Q : View) (t : TightView Q) (z a b : ℕ) (drawn : ℕ → Bool) (d : Drawn Q z a b drawn) where
  -- nor above it.
  level_high : (x : Side) (B : Blend) → Live Q B → KnotIn x z (Q.across B) → CutBy Q drawn B → (w : ℕ) → Q.levels w z ≡ true →
      (Q.up B).l < w → w < (Q.up B).r → w ≤ b
  level_high x B m p c w on lo hi =
      let r = t.is_sound.y.rises B m in
      let le = level_low (flip Q) (flip_tight Q t) z (Q.h + 2 - b) (Q.h + 2 - a) (λ k. drawn (Q.h + 1 - k)) (flip_drawn Q z a b drawn d) x B m p
      (flip_cut Q t.is_sound drawn B m c) (Q.h + 2 - w) (subst (λ (n : ℕ). Q.levels n z ≡ true) (omega arith) on) (omega arith) (omega arith) in
      omega arith

  -- A blend that the upright enters is covered below the line, unless it is one abreast of the line's lower end;
  rows_below : (x : Side) (B : Blend) → Live Q B → KnotIn x z (Q.across B) → (Q.up B).l < a → a < (Q.up B).r →
      ((1 < a) × (a < Q.h + 1) → (e : Abreast Q lower z a) → Q.uprights z (a - 1) ≡ false → B ≡ e.at x → ⊥) → (k : ℕ) → (Q.up B).l ≤ k → k < a →
      drawn k ≡ true
  rows_below x B m p lo hi apart k klo khi = by d.low_end
    where
      by : Good Q lower z a → drawn k ≡ true
      by (edge e) = subst (λ (n : ℕ). drawn n ≡ true) (omega arith) (d.out_below e)
      by (line i on) =
          let e = line_ends Q t z a (omega arith, omega arith) i upper on (d.free a (omega arith) (omega arith)) in
          let is = met_at Q t z a (omega arith, omega arith) i upper e.abreast x B m p lo hi in
          let start = ap (λ (C : Blend). (Q.up C).l) is in
          let reach : (Q.up (e.abreast.at x)).l ≡ e.abreast.reach = e.abreast.reaches x in
          d.old k (e.covered k (omega arith, khi))
      by (blends i off e) = absurd (apart i e off (met_at Q t z a (omega arith, omega arith) i lower e x B m p lo hi))

  -- and above it, if its anchor lies below the upper end, only past the edge.
  rows_above : (x : Side) (B : Blend) → Live Q B → KnotIn x z (Q.across B) → (Q.up B).m < b → (k : ℕ) → b ≤ k → k < (Q.up B).r → drawn k ≡ true
  rows_above x B m p lo k klo khi = by d.high_end
    where
      rise : ((Q.up B).l < b) × (b < (Q.up B).r)
      rise = let r = t.is_sound.y.rises B m in (omega arith, omega arith)

      no : (e : Side) → (1 < b) × (b < Q.h + 1) → Abreast Q e z b → ⊥
      no e i r =
          let is = met_at Q t z b (omega arith, omega arith) i e r x B m p rise.0 rise.1 in
          let q = ap (λ (C : Blend). (Q.up C).m) is in
          let at = r.anchored x in
          omega arith

      by : Good Q upper z b → drawn k ≡ true
      by (edge e) = let r = t.is_sound.y.rises B m in subst (λ (n : ℕ). drawn n ≡ true) (omega arith) (d.out_above e)
      by (line i on) =
          absurd (no lower i (line_ends Q t z b (omega arith, omega arith) i lower on (d.free (b - 1) (omega arith) (omega arith))).abreast)
      by (blends i off r) = absurd (no upper i r)

  -- X is cut, and w is a level strictly inside it that has a step beside the line. In the square above and right of that point, the blend with
  -- its anchor below and left of the square is cut as well.
  module _ (x : Side) (X : Blend) (m : Live Q X) (p : KnotIn x z (Q.across X)) (c : CutBy Q drawn X)
      (w : ℕ) (on : Q.levels w z ≡ true) (lo : (Q.up X).l < w) (hi : w < (Q.up X).r) (row : w ≤ Q.h) where
    abbrev side : OnSide Q.w z
    side = (omega arith, omega arith)

    abbrev Y : Blend
    Y = ((sound Q t z a b drawn d).some upper upper z w side (omega arith, omega arith)).0

    over : Over Q upper upper z w Y
    over = ((sound Q t z a b drawn d).some upper upper z w side (omega arith, omega arith)).1

    record Entered (B : Blend) : Type 0 where
      astride : KnotIn upper z (Q.across B)
      cut : CutBy Q drawn B

    -- where the level is that of the line's upper end, and the line goes on from there
    beside : (B : Blend) → Over Q upper upper z w B → w ≡ b → (1 < b) × (b < Q.h + 1) → Ended Q lower z b → Entered B
    beside B o e inner r =
        let v = sound Q t z a b drawn d in
        let A = r.abreast.at upper in
        let anchor = r.abreast.anchored upper in
        let rise = v.y.rises A (r.abreast.live upper) in
        let is = v.one upper upper z w B A side (omega arith, omega arith) o
        (record { live = r.abreast.live upper; column = knot_step upper z (Q.across A) (r.abreast.over upper); row = (omega arith, omega arith) }) in
        known B o e is (subst (λ (D : Blend). KnotIn upper z (Q.across D)) {x = A} (sym is) (r.abreast.over upper))
      where
        known : (B : Blend) → Over Q upper upper z w B → w ≡ b → B ≡ r.abreast.at upper → KnotIn upper z (Q.across B) → Entered B
        known B o e is par =
            let anchor = r.abreast.anchored upper in
            let reach : (Q.up (r.abreast.at upper)).r ≡ r.abreast.reach = r.abreast.reaches upper in
            let middle = ap (λ (D : Blend). (Q.up D).m) is in
            let top = ap (λ (D : Blend). (Q.up D).r) is in
            record {
              astride = par;
              cut = λ k klo khi.
                  if_below k b
                  (λ lt. if_at_most a k (λ le. d.new k le lt)
                  (λ below. rows_below upper B o.live par (omega arith) (omega arith)
                  (λ i e off same. let at = ap (λ (D : Blend). (Q.up D).m) same in let an = e.anchored upper in omega arith) k klo below))
                  (λ le. d.old k (r.covered k (omega arith, omega arith)));
            }

    at_end : (B : Blend) → Over Q upper upper z w B → w ≡ b → Entered B
    at_end B o e =
        let inner : (1 < b) × (b < Q.h + 1) = (omega arith, omega arith) in
        let going = was_on Q d b (inr (omega arith, omega arith)) (c b (omega arith) (omega arith)) in
        beside B o e inner (line_ends Q t z b (omega arith, omega arith) inner lower going (d.free (b - 1) (omega arith) (omega arith)))

    -- where it lies along the line
    along_line : (B : Blend) → Over Q upper upper z w B → a ≤ w → w < b → Entered B
    along_line B o le lt =
        let rb = (sound Q t z a b drawn d).y.rises B o.live in
        let par = astride Q t upper B z w o.live o.column (omega arith) (omega arith) (d.free w le lt) in
        record {
          astride = par;
          cut = λ k klo khi.
              if_below k a (λ below. rows_below upper B o.live par (omega arith) (omega arith) (apart par) k klo below)
              (λ le. if_below k b (d.new k le) (λ past. rows_above upper B o.live par (omega arith) k past khi));
        }
      where
        -- a blend abreast of the lower end has no level beside the line above its anchor
        apart : KnotIn upper z (Q.across B) → (1 < a) × (a < Q.h + 1) → (e : Abreast Q lower z a) → Q.uprights z (a - 1) ≡ false → B ≡ e.at upper → ⊥
        apart par i e off is =
            let reach : (Q.up (e.at upper)).r ≡ e.reach = e.reaches upper in
            let top = ap (λ (D : Blend). (Q.up D).r) is in
            if_below a w (λ gt. above_none Q t z a side i e w on gt (omega arith))
            (λ is_a. true_not_false (Q.uprights z (a - 1)) (was_on Q d (a - 1) (inl (omega arith, omega arith)) (c (a - 1) (omega arith) (omega arith))) off)

    entered_there : Entered Y
    entered_there =
        let low = level_low Q t z a b drawn d x X m p c w on lo hi in
        let high = level_high x X m p c w on lo hi in
        if_below w b (along_line Y over low) (λ le. at_end Y over (omega arith))

    pub also_cut : (next : ℕ) → ((v : ℕ) → w < v → v < next → Q.levels v z ≡ true → ⊥) →
        (j k : ℕ) → z ≤ j → j < to x (Q.across X) → w ≤ k → k < next → OnSide Q.w j → OnSide Q.h k →
        (B : Blend) → Over Q upper upper j k B → KnotIn upper z (Q.across B) × CutBy Q drawn B
    also_cut next none j k jlo jhi klo khi hj hk B o =
        let v = sound Q t z a b drawn d in
        let r = v.y.rises Y over.live in
        let rx = v.x.rises Y over.live in
        let row_of = over.row in
        let in_there = entered_there in
        let par = in_there.astride in
        let same = agree Q t z w side on x upper X Y (record { live = m; column = knot_step x z _ p; lo = lo; hi = hi })
        (record { live = over.live; column = over.column; lo = omega arith; hi = over.row.1 }) in
        let above : k < (Q.up Y).r =
        if_below k (Q.up Y).r (λ lt. lt)
        (λ le. absurd (none (Q.up Y).r over.row.1 (omega arith) (v.y.grid Y over.live z (omega arith) (omega arith)).r)) in
        let is = v.one upper upper j k B Y hj hk o (record { live = over.live; column = (omega arith, omega arith); row = (omega arith, above) }) in
        (subst (λ (C : Blend). KnotIn upper z (Q.across C)) (sym is) par, subst (CutBy Q drawn) (sym is) in_there.cut)

-- What a cut blend leaves beside the line, about level w: it reaches over the part of the blend's triple in which the line lies, up from level u to
-- level v, and no other level between those has a step beside the line.
pub record Piece (Q : View) (z : ℕ) (drawn : ℕ → Bool) (x : Side) (X : Blend) (u w v : ℕ) : Type 0 where
  pub live : Live Q X
  pub astride : KnotIn x z (Q.across X)
  pub cut : CutBy Q drawn X
  pub lo : (Q.up X).l < w
  pub hi : w < (Q.up X).r
  pub rises : (u < w) × (w < v) × (v ≤ Q.h + 2)
  pub left : Q.levels w (z - 1) ≡ true
  pub right : Q.levels w z ≡ true
  pub alone_left : (i : ℕ) → u < i → i < v → Q.levels i (z - 1) ≡ true → i ≡ w
  pub alone_right : (i : ℕ) → u < i → i < v → Q.levels i z ≡ true → i ≡ w

-- A square in one of its quadrants: the blend of the map before with the square in the same quadrant is cut as well.
abbrev Taken : View → ℕ → (ℕ → Bool) → Side → Side → ℕ → ℕ → Type 0
Taken Q z drawn p q j k = (B : Blend) → Over Q p q j k B → KnotIn p z (Q.across B) × CutBy Q drawn B

module _ (z a b u w v : ℕ) where
  upper_upper : (Q : View) (t : TightView Q) (drawn : ℕ → Bool) → Drawn Q z a b drawn → (x : Side) (X : Blend) → Piece Q z drawn x X u w v →
      (j k : ℕ) → OnSide Q.w j → OnSide Q.h k → StepIn upper j (triple (from x (Q.across X)) z (to x (Q.across X))) → StepIn upper k (triple u w v) →
      Taken Q z drawn upper upper j k
  upper_upper Q t drawn d x X p j k hj hk i e B o =
      also_cut Q t z a b drawn d x X p.live p.astride p.cut w p.right p.lo p.hi (omega arith) v
      (λ n lo hi on. let same = p.alone_right n (omega arith) hi on in omega arith)
      j k i.0 i.1 e.0 e.1 hj hk B o

flip_piece : (Q : View) (s : SoundView Q) (z : ℕ) (drawn : ℕ → Bool) (x : Side) (X : Blend) (u w v : ℕ) → Piece Q z drawn x X u w v →
    Piece (flip Q) z (λ k. drawn (Q.h + 1 - k)) x X (Q.h + 2 - v) (Q.h + 2 - w) (Q.h + 2 - u)
flip_piece Q s z drawn x X u w v p =
    record {
      live = p.live;
      astride = p.astride;
      cut = flip_cut Q s drawn X p.live p.cut;
      lo = omega arith;
      hi = omega arith;
      rises = (omega arith, omega arith, omega arith);
      left = subst (λ (n : ℕ). Q.levels n (z - 1) ≡ true) (omega arith) p.left;
      right = subst (λ (n : ℕ). Q.levels n z ≡ true) (omega arith) p.right;
      alone_left = λ i a b on. let e = p.alone_left (Q.h + 2 - i) (omega arith) (omega arith) on in omega arith;
      alone_right = λ i a b on. let e = p.alone_right (Q.h + 2 - i) (omega arith) (omega arith) on in omega arith;
    }

swap_piece : (Q : View) (z : ℕ) → (1 < z) × (z ≤ Q.w) → (drawn : ℕ → Bool) (x : Side) (X : Blend) (u w v : ℕ) →
    Piece Q z drawn x X u w v → Piece (swap Q) (Q.w + 2 - z) drawn (opposite x) X u w v
swap_piece Q z i drawn x X u w v p =
    record {
      live = p.live;
      astride = by x p.astride;
      cut = p.cut;
      lo = p.lo;
      hi = p.hi;
      rises = p.rises;
      left = subst (λ (n : ℕ). Q.levels w n ≡ true) (omega arith) p.right;
      right = subst (λ (n : ℕ). Q.levels w n ≡ true) (omega arith) p.left;
      alone_left = λ v a b on. p.alone_right v a b (subst (λ (n : ℕ). Q.levels v n ≡ true) (omega arith) on);
      alone_right = λ v a b on. p.alone_left v a b (subst (λ (n : ℕ). Q.levels v n ≡ true) (omega arith) on);
    }
  where
    by : (x : Side) → KnotIn x z (Q.across X) → KnotIn (opposite x) (Q.w + 2 - z) (mirror Q.w (Q.across X))
    by lower a = (omega arith, omega arith)
    by upper a = (omega arith, omega arith)

module _ (Q : View) (t : TightView Q) (z a b : ℕ) (drawn : ℕ → Bool) (d : Drawn Q z a b drawn) (x : Side) (X : Blend) (u w v : ℕ)
    (p : Piece Q z drawn x X u w v) (j k : ℕ) (hj : OnSide Q.w j) (hk : OnSide Q.h k) where
  upper_any : (q : Side) → StepIn upper j (triple (from x (Q.across X)) z (to x (Q.across X))) → StepIn q k (triple u w v) →
      Taken Q z drawn upper q j k
  upper_any upper i e B o = upper_upper z a b u w v Q t drawn d x X p j k hj hk i e B o
  upper_any lower i e B o =
      let s = t.is_sound in
      let got = upper_upper z (Q.h + 2 - b) (Q.h + 2 - a) (Q.h + 2 - v) (Q.h + 2 - w) (Q.h + 2 - u) (flip Q) (flip_tight Q t) (λ n. drawn (Q.h + 1 - n))
      (flip_drawn Q z a b drawn d) x X (flip_piece Q s z drawn x X u w v p) j (Q.h + 1 - k) hj (on_mirror Q s k hk) i (omega arith, omega arith) B
      (flipped Q s hk o) in
      (got.0, cut_flip Q s drawn B o.live got.1)

swap_any : (Q : View) (t : TightView Q) (z a b : ℕ) (drawn : ℕ → Bool) (d : Drawn Q z a b drawn) (x : Side) (X : Blend) (u w v : ℕ)
    (p : Piece Q z drawn x X u w v) (j k : ℕ) (hj : OnSide Q.w j) (hk : OnSide Q.h k) (q : Side) →
    StepIn lower j (triple (from x (Q.across X)) z (to x (Q.across X))) → StepIn q k (triple u w v) → Taken Q z drawn lower q j k
swap_any Q t z a b drawn d x X u w v p j k hj hk q i e B o =
    let s = t.is_sound in
    let r = s.x.rises B o.live in
    let inner = d.inner in
    let got = upper_any (swap Q) (swap_tight Q t) (Q.w + 2 - z) a b drawn (swap_drawn Q s z a b drawn d) (opposite x) X u w v
    (swap_piece Q z inner drawn x X u w v p) (Q.w + 1 - j) k (omega arith, omega arith) hk q (turned x (s.x.rises X p.live) i) e B
    (record { live = o.live; column = in_mirror Q.w lower j (Q.across B) r hj o.column; row = o.row }) in
    ((omega arith, omega arith), got.1)
  where
    turned : (x : Side) → RisesIn Q.w (Q.across X) → StepIn lower j (triple (from x (Q.across X)) z (to x (Q.across X))) →
        StepIn upper (Q.w + 1 - j) (triple (from (opposite x) (mirror Q.w (Q.across X))) (Q.w + 2 - z) (to (opposite x) (mirror Q.w (Q.across X))))
    turned lower r i = (omega arith, omega arith)
    turned upper r i = (omega arith, omega arith)

pub taken_too : (Q : View) (t : TightView Q) (z a b : ℕ) (drawn : ℕ → Bool) (d : Drawn Q z a b drawn) (x : Side) (X : Blend) (u w v : ℕ)
    (p : Piece Q z drawn x X u w v) (j k : ℕ) (hj : OnSide Q.w j) (hk : OnSide Q.h k) (g q : Side) →
    StepIn g j (triple (from x (Q.across X)) z (to x (Q.across X))) → StepIn q k (triple u w v) →
    (B : Blend) → Over Q g q j k B → KnotIn g z (Q.across B) × CutBy Q drawn B
taken_too Q t z a b drawn d x X u w v p j k hj hk lower q i e = swap_any Q t z a b drawn d x X u w v p j k hj hk q i e
taken_too Q t z a b drawn d x X u w v p j k hj hk upper q i e = upper_any Q t z a b drawn d x X u w v p j k hj hk q i e
