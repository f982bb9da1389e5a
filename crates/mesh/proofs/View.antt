-- A map as it is seen from one of its sides: upright, turned (the axes change places) or flipped (upside down). A fact about every view is so a
-- fact about all that it turns and flips into, and is shown once.
use Prim.Native.Nat.{ℕ, ◌+◌, ◌-◌, ◌≤◌, ◌<◌}
use native.Mathlib.Omega.{arith}
use mathlib.Core.Path.{◌≡◌, subst}
use mathlib.Core.Bool.{Bool, true}
use mathlib.Core.List.{List, Memᴰ}
use Rattle.axis.specs.Triple.{RisesIn, Knots, OnSide}
use Rattle.axis.specs.declared.Side.{Side}
use Rattle.axis.specs.declared.Side.TheVariants.{Lower as lower, Upper as upper}
use Rattle.axis.specs.declared.Triple.{Triple}
use Rattle.axis.proofs.Triples.{Inside}
use Rattle.axis.proofs.Sides.{StepIn, mirror, in_mirror, mirror_in, opposite}
use Rattle.mesh.specs.declared.Blend.{Blend}

-- The sides, the two triples of a blend, the unit steps of uprights and of levels, and the live blends.
pub record View : Type 0 where
  pub w : ℕ
  pub h : ℕ
  pub across : Blend → Triple
  pub up : Blend → Triple
  pub uprights : ℕ → ℕ → Bool
  pub levels : ℕ → ℕ → Bool
  pub blends : List Blend

abbrev pub turn : View → View
turn Q = record { w = Q.h; h = Q.w; across = Q.up; up = Q.across; uprights = Q.levels; levels = Q.uprights; blends = Q.blends }

abbrev pub flip : View → View
flip Q =
    record {
      w = Q.w;
      h = Q.h;
      across = Q.across;
      up = λ B. mirror Q.h (Q.up B);
      uprights = λ z k. Q.uprights z (Q.h + 1 - k);
      levels = λ z k. Q.levels (Q.h + 2 - z) k;
      blends = Q.blends;
    }

-- the other two sides: left and right change places
abbrev pub swap : View → View
swap Q = turn (flip (turn Q))

abbrev pub Live : View → Blend → Type 0
Live Q B = Memᴰ B Q.blends

-- a live blend over the unit square at (j, k), by the quadrant in which the square lies
pub record Over (Q : View) (x y : Side) (j k : ℕ) (B : Blend) : Type 0 where
  pub live : Live Q B
  pub column : StepIn x j (Q.across B)
  pub row : StepIn y k (Q.up B)

-- What is known of the live blends on one axis: their triples rise; they reach past the domain only with the anchor on its edge; their
-- grids lie on lines; and no line cuts them.
pub record OneWay (Q : View) : Type 0 where
  pub wide : 1 ≤ Q.w
  pub rises : (B : Blend) → Live Q B → RisesIn Q.w (Q.across B)
  pub near : (B : Blend) → Live Q B → (Q.across B).l ≡ 0 → (Q.across B).m ≡ 1
  pub far : (B : Blend) → Live Q B → (Q.across B).r ≡ Q.w + 2 → (Q.across B).m ≡ Q.w + 1
  pub grid : (B : Blend) → Live Q B → (k : ℕ) → (Q.up B).l ≤ k → k < (Q.up B).r → Knots (λ (z : ℕ). Q.uprights z k ≡ true) (Q.across B)
  pub clear : (B : Blend) → Live Q B → (z : ℕ) → Inside z (Q.across B) →
      ((k : ℕ) → (Q.up B).l ≤ k → k < (Q.up B).r → Q.uprights z k ≡ true) → ⊥

-- A sound map: beside this, each unit square of the domain lies in each quadrant of exactly one live blend.
pub record SoundView (Q : View) : Type 0 where
  pub x : OneWay Q
  pub y : OneWay (turn Q)
  pub one : (x y : Side) (j k : ℕ) (B C : Blend) → OnSide Q.w j → OnSide Q.h k → Over Q x y j k B → Over Q x y j k C → B ≡ C
  pub some : (x y : Side) (j k : ℕ) → OnSide Q.w j → OnSide Q.h k → (B : Blend) × Over Q x y j k B

-- A level at v meets the column j in part x: a live blend there has its anchor at v.
pub record Knot (Q : View) (x : Side) (j v : ℕ) : Type 0 where
  pub blend : Blend
  pub live : Live Q blend
  pub column : StepIn x j (Q.across blend)
  pub at : (Q.up blend).m ≡ v

-- every step of a level inside the domain does so
abbrev pub TightLevels : View → Type 0
TightLevels Q = (v j : ℕ) → 1 < v → v < Q.h + 1 → OnSide Q.w j → Q.levels v j ≡ true → (x : Side) × Knot Q x j v

pub record TightView (Q : View) : Type 0 where
  pub is_sound : SoundView Q
  pub x : TightLevels Q
  pub y : TightLevels (turn Q)

-- turned twice, a view is itself
pub turned : (Q : View) {x y : Side} {j k : ℕ} {B : Blend} → Over Q x y j k B → Over (turn Q) y x k j B
turned Q o = record { live = o.live; column = o.row; row = o.column }

pub turn_sound : (Q : View) → SoundView Q → SoundView (turn Q)
turn_sound Q s =
    record {
      x = s.y;
      y = s.x;
      one = λ x y j k B C hj hk p q. s.one y x k j B C hk hj (turned (turn Q) p) (turned (turn Q) q);
      some = λ x y j k hj hk. let r = s.some y x k j hk hj in (r.0, turned Q r.1);
    }

pub turn_tight : (Q : View) → TightView Q → TightView (turn Q)
turn_tight Q t = record { is_sound = turn_sound Q t.is_sound; x = t.y; y = t.x }

module _ (Q : View) (s : SoundView Q) where
  rising : (B : Blend) → Live Q B → RisesIn Q.h (Q.up B)
  rising = s.y.rises

  flip_across : OneWay (flip Q)
  flip_across =
      record {
        wide = s.x.wide;
        rises = s.x.rises;
        near = s.x.near;
        far = s.x.far;
        grid = λ B m k lo hi. s.x.grid B m (Q.h + 1 - k) (omega arith) (omega arith);
        clear = λ B m z i c.
            let r = rising B m in
            s.x.clear B m z i
            (λ k lo hi. subst (λ (n : ℕ). Q.uprights z n ≡ true) (omega arith) (c (Q.h + 1 - k) (omega arith) (omega arith)));
      }

  flip_up : OneWay (turn (flip Q))
  flip_up =
      record {
        wide = s.y.wide;
        rises = λ B m. let r = rising B m in record { low = omega arith; high = omega arith; most = omega arith };
        near = λ B m e. let r = rising B m in let f = s.y.far B m (omega arith) in omega arith;
        far = λ B m e. let f = s.y.near B m (omega arith) in omega arith;
        grid = λ B m k lo hi.
            let r = rising B m in
            let g = s.y.grid B m k lo hi in
            record {
              l = subst (λ (n : ℕ). Q.levels n k ≡ true) (omega arith) g.r;
              m = subst (λ (n : ℕ). Q.levels n k ≡ true) (omega arith) g.m;
              r = subst (λ (n : ℕ). Q.levels n k ≡ true) (omega arith) g.l;
            };
        clear = λ B m z i c.
            let off = i.off in
            s.y.clear B m (Q.h + 2 - z) (record { lo = omega arith; hi = omega arith; off = λ e. off (omega arith) }) c;
      }

  pub on_mirror : (k : ℕ) → OnSide Q.h k → OnSide Q.h (Q.h + 1 - k)
  on_mirror k on = (omega arith, omega arith)

  flip_over : (x y : Side) (j k : ℕ) (B : Blend) → OnSide Q.h k → Over (flip Q) x y j k B → Over Q x (opposite y) j (Q.h + 1 - k) B
  flip_over x y j k B on o =
      record { live = o.live; column = o.column; row = mirror_in Q.h y k (Q.up B) (rising B o.live) on o.row }

  over_flip : (x y : Side) (j k : ℕ) (B : Blend) → OnSide Q.h k → Over Q x (opposite y) j (Q.h + 1 - k) B → Over (flip Q) x y j k B
  over_flip x y j k B on o = record { live = o.live; column = o.column; row = back y o.row }
    where
      back : (y : Side) → StepIn (opposite y) (Q.h + 1 - k) (Q.up B) → StepIn y k (mirror Q.h (Q.up B))
      back lower i = (omega arith, omega arith)
      back upper i = (omega arith, omega arith)

  pub flipped : {x y : Side} {j k : ℕ} {B : Blend} → OnSide Q.h k → Over Q x y j k B → Over (flip Q) x (opposite y) j (Q.h + 1 - k) B
  flipped {x} {y} {j} {k} {B} on o =
      record { live = o.live; column = o.column; row = in_mirror Q.h y k (Q.up B) (rising B o.live) on o.row }

  pub flip_sound : SoundView (flip Q)
  flip_sound =
      record {
        x = flip_across;
        y = flip_up;
        one = λ x y j k B C hj hk p q.
            s.one x (opposite y) j (Q.h + 1 - k) B C hj (on_mirror k hk) (flip_over x y j k B hk p) (flip_over x y j k C hk q);
        some = λ x y j k hj hk.
            let r = s.some x (opposite y) j (Q.h + 1 - k) hj (on_mirror k hk) in (r.0, over_flip x y j k r.0 hk r.1);
      }

module _ (Q : View) (t : TightView Q) where
  pub flip_tight : TightView (flip Q)
  flip_tight =
      record {
        is_sound = flip_sound Q t.is_sound;
        x = λ v j lo hi on e.
            let r = t.x (Q.h + 2 - v) j (omega arith) (omega arith) on e in
            (r.0, record { blend = r.1.blend; live = r.1.live; column = r.1.column; at = omega arith });
        y = λ v j lo hi on e.
            let r = t.y v (Q.h + 1 - j) lo hi (omega arith, omega arith) e in
            let B = r.1.blend in (
              opposite r.0,
              record {
                blend = B;
                live = r.1.live;
                column =
                    subst (λ (n : ℕ). StepIn (opposite r.0) n (mirror Q.h (Q.up B))) (omega arith)
                    (in_mirror Q.h r.0 (Q.h + 1 - j) (Q.up B) (t.is_sound.y.rises B r.1.live) (omega arith, omega arith) r.1.column);
                at = r.1.at;
              },
            );
      }

pub swap_tight : (Q : View) → TightView Q → TightView (swap Q)
swap_tight Q t = turn_tight (flip (turn Q)) (flip_tight (turn Q) (turn_tight Q t))
