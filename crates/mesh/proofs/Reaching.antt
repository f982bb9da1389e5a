-- Which blends a split's line cuts, by the knots from which and to which it runs.
use Prim.Native.Nat.{ℕ, zero, suc, ◌+◌, ◌-◌, ◌≤◌, ◌<◌}
use native.Mathlib.Omega.{arith}
use mathlib.Core.Path.{◌≡◌, refl, sym, ap, ◌∙◌}
use mathlib.Core.Logic.{⊎_elim}
use mathlib.Core.Bool.{Bool, true, false, ◌&&◌, ◌||◌, or-false}
use mathlib.Core.List.{List, [], ◌∷◌, ◌++◌, Memᴰ}
use lib.Dec.{leb, eqb}
use borrow.Author.Tests.{eqb-true, eq-eqb, leb-true, le-leb, le-ltb, lt-leb}
use Rattle.axis.specs.Range.{any}
use Rattle.axis.specs.Triple.{inside}
use Rattle.mesh.specs.Lines.{number, direction, other, side, Mesh, mesh, draws, start, end, in_range, layout}
use Rattle.mesh.specs.declared.Direction.{Direction}
use Rattle.mesh.specs.declared.Direction.TheVariants.{Upright as upright, Level as level}
use Rattle.mesh.specs.Blends.{crossed, along, cuts, is_cut, live}
use Rattle.mesh.specs.Order.{Uncut}
use Rattle.mesh.specs.Carried.{runs_from, runs_to}
use Rattle.mesh.specs.declared.Split.{Split}
use Rattle.mesh.specs.declared.Blend.{Blend}
use Rattle.axis.proofs.Tests.{either, same_test, true_not_false, false_of, and_both, and_of, and_first, and_last, or_left, or_right, any_same, within, within_of}
use Rattle.axis.proofs.Runs.{if_below, if_at_most}
use Rattle.axis.proofs.Triples.{inside_fact, inside_test}
use Rattle.mesh.proofs.Cuts.{proper_facts, proper_rises, Covered, cut_fact, cut_test, cut_exactly}
use Rattle.mesh.proofs.OneLineMore.{ranged, more_steps}
use Rattle.mesh.proofs.SoundMaps.{live_left, live_proper}

-- the steps from the first knot on, up to the second, are on
abbrev On : (ℕ → Bool) → ℕ → ℕ → Type 0
On line lo hi = (y : ℕ) → lo ≤ y → y < hi → line y ≡ true

-- A line runs back with the steps that are on, and the step before is off or there is none;
record Back (line : ℕ → Bool) (k from : ℕ) : Type 0 where
  most : from ≤ k
  on : On line from k
  off : (y : ℕ) → y + 1 ≡ from → line y ≡ false

runs_back : (line : ℕ → Bool) (k : ℕ) → Back line k (runs_from line k)
unfolding runs_from
runs_back line zero = record { most = omega arith; on = λ y lo hi. absurd (omega arith); off = λ y e. absurd (omega arith) }
runs_back line (suc k) =
    ⊎_elim
    (λ e. let b = runs_back line k in
    rw e
    (record {
      most = omega arith;
      on = λ y lo hi. if_below y k (λ lt. b.on y lo lt) (λ ge. let q : y ≡ k = omega arith in rw q e);
      off = b.off;
    }))
    (λ e.
    rw e
    (record { most = omega arith; on = λ y lo hi. absurd (omega arith); off = λ y q. let p : y ≡ k = omega arith in rw p e }))
    (either (line k))

-- and on, for some steps at most.
record Onward (line : ℕ → Bool) (k n to : ℕ) : Type 0 where
  least : k ≤ to
  on : On line k to
  off : to < k + n → line to ≡ false

runs_on : (line : ℕ → Bool) (k n : ℕ) → Onward line k n (runs_to line k n)
unfolding runs_to
runs_on line k zero = record { least = omega arith; on = λ y lo hi. absurd (omega arith); off = λ lt. absurd (omega arith) }
runs_on line k (suc n) =
    ⊎_elim
    (λ e. let b = runs_on line (k + 1) n in
    rw e
    (record {
      least = omega arith;
      on = λ y lo hi. if_below k y (λ lt. b.on y (omega arith) hi) (λ ge. let q : y ≡ k = omega arith in rw q e);
      off = λ lt. b.off (omega arith);
    }))
    (λ e. rw e (record { least = omega arith; on = λ y lo hi. absurd (omega arith); off = λ lt. e }))
    (either (line k))

number_direction : (d : Direction) → direction (number d) ≡ d
number_direction upright = refl
number_direction level = refl

module _ (w h : ℕ) (hw : 1 ≤ w) (wide : w ≤ 128) (hh : 1 ≤ h) (high : h ≤ 128) (ss : List Split) (s : Split) (fits : in_range w h s ≡ true) where
  -- the mesh before the split and after it; its line's direction and knot, and the side that it runs along
  abbrev M : Mesh
  M = mesh w h ss

  abbrev N : Mesh
  N = mesh w h (ss ++ s ∷ [])

  abbrev d : Direction
  d = direction s.direction

  abbrev z : ℕ
  z = s.position + 1

  abbrev run : ℕ
  run = side (other d) w h

  abbrev pub from : ℕ
  from = runs_from (M d z) (start s)

  abbrev pub to : ℕ
  to = runs_to (M d z) (end run s) (131 - end run s)

  abbrev pub along? : Blend → Bool
  along? B = inside z (crossed d B) && leb from (along d B).l && leb (along d B).r to

  -- Off its own line the steps are those of before, and on it those besides from its first knot to its last.
  elsewhere : (e : Direction) (y k : ℕ) → (eqb s.direction (number e) && eqb y z) ≡ false → N e y k ≡ M e y k
  unfolding draws
  elsewhere e y k off = more_steps (layout w h ss) s e y k ∙ rw off (or-false (M e y k))

  own : (k : ℕ) → N d z k ≡ (M d z k || within (start s) (end run s) k)
  unfolding draws
  own k = more_steps (layout w h ss) s d z k ∙ rw (eq-eqb s.direction (number d) (ranged w h s fits).way, eq-eqb z z refl)

  sides : (e : Direction) → side e w h ≤ 128
  sides upright = wide
  sides level = high

  last_knot : end run s ≤ 131
  last_knot =
      let r = (ranged w h s fits).range in
      let most = sides (other d) in
      ⊎_elim (λ p. rw p (omega arith)) (λ p. rw p (omega arith)) (either (eqb s.to run))

  back : Back (M d z) (start s) from
  back = runs_back (M d z) (start s)

  onward : Onward (M d z) (end run s) (131 - end run s) to
  onward = runs_on (M d z) (end run s) (131 - end run s)

  -- a step that the split does not draw
  undrawn : (k : ℕ) → N d z k ≡ true → within (start s) (end run s) k ≡ false → M d z k ≡ true
  undrawn k on off = sym (own k ∙ rw off (or-false (M d z k))) ∙ on

  before : (k : ℕ) → k < start s → within (start s) (end run s) k ≡ false
  before k lt = and_first _ _ (lt-leb (start s) k lt)

  after : (k : ℕ) → end run s ≤ k → within (start s) (end run s) k ≡ false
  after k le = and_last (leb (start s) k) _ (le-ltb k (end run s) le)

  -- all steps of the run are on
  whole : On (N d z) from to
  whole k lo hi =
      own k ∙
      if_below k (start s) (λ lt. or_left _ _ (back.on k lo lt))
      (λ ge. if_below k (end run s) (λ lt. or_right (M d z k) _ (within_of _ _ k ge lt)) (λ le. or_left _ _ (onward.on k le hi)))

  module _ (B : Blend) (m : Memᴰ B (live w h M)) where
    uncut : Uncut M B
    uncut = ((live_left w h hw hh M B).0 m).2.uncut

    -- a line that cuts it has a step that was off
    new : (e : Direction) (y : ℕ) → cuts N e y B ≡ true → ((k : ℕ) → (along e B).l ≤ k → k < (along e B).r → N e y k ≡ true → M e y k ≡ true) → ⊥
    new e y c old =
        let f = cut_fact N e y B c in
        true_not_false _ (cut_test M e y B (record { inside = f.inside; covered = λ k lo hi. old k lo hi (f.covered k lo hi) })) (uncut e y)

    knots : (e : Direction) → (crossed e B).r ≤ 130
    knots upright = let a = (proper_facts w h B (live_proper w h hw hh M B m)).across in omega arith
    knots level = let u = (proper_facts w h B (live_proper w h hw hh M B m)).up in omega arith

    -- a live blend, which no line cut before, is cut exactly where it lies along the run
    pub reach_cuts : cuts N d z B ≡ along? B
    reach_cuts =
        same_test _ _
        (λ c. let f = cut_fact N d z B c in
        and_of _ _ (and_of _ _ (inside_test z (crossed d B) f.inside) (le-leb _ _ (first c f.covered))) (le-leb _ _ (last c f.covered)))
        (λ t.
        let a = and_both (inside z (crossed d B) && leb from (along d B).l) (leb (along d B).r to) t in
        let b = and_both (inside z (crossed d B)) (leb from (along d B).l) a.0 in
        let lo = leb-true from (along d B).l b.1 in
        let hi = leb-true (along d B).r to a.1 in
        cut_test N d z B (record { inside = inside_fact z (crossed d B) b.0; covered = λ k l r. whole k (omega arith) (omega arith) }))
      where
        first : cuts N d z B ≡ true → Covered N d z (along d B) → from ≤ (along d B).l
        first c on =
            let b = back in
            if_at_most from (along d B).l (λ le. le)
            (λ lt.
            absurd
            (new d z c
            (λ k lo hi now.
            if_below k (start s) (λ early. undrawn k now (before k early))
            (λ ge.
            absurd
            (true_not_false _ (undrawn (from - 1) (on (from - 1) (omega arith) (omega arith)) (before (from - 1) (omega arith)))
            (b.off (from - 1) (omega arith)))))))

        last : cuts N d z B ≡ true → Covered N d z (along d B) → (along d B).r ≤ to
        last c on =
            let b = onward in
            let most = last_knot in
            if_at_most (along d B).r to (λ le. le)
            (λ lt.
            absurd
            (new d z c
            (λ k lo hi now.
            if_below k (end run s)
            (λ early.
            absurd
            (true_not_false _ (undrawn to (on to (omega arith) lt) (after to b.least)) (b.off (omega (arith, knots (other d))))))
            (λ late. undrawn k now (after k late)))))

    -- and by no other line
    only_own : (e : Direction) (y : ℕ) → cuts N e y B ≡ true → cuts N d z B ≡ true
    only_own e y c =
        ⊎_elim
        (λ t.
        let p = and_both (eqb s.direction (number e)) (eqb y z) t in
        let there : d ≡ e = ap direction (eqb-true s.direction (number e) p.0) ∙ number_direction e in
        rw (there, ← eqb-true y z p.1) c)
        (λ t. absurd (new e y c (λ k lo hi now. sym (elsewhere e y k t) ∙ now)))
        (either (eqb s.direction (number e) && eqb y z))

    pub reach_uncut : along? B ≡ false → Uncut N B
    reach_uncut off e y = false_of _ (λ c. true_not_false _ (sym reach_cuts ∙ only_own e y c) off)

  pub reach_some : any (is_cut N) (live w h M) ≡ any along? (live w h M)
  reach_some =
      any_same (is_cut N) along? (live w h M)
      (λ B m. let exactly = cut_exactly N B (proper_rises w h B (live_proper w h hw hh M B m)) in
      same_test _ _ (λ t. let r = exactly.0 t in only_own B m r.0 r.1 r.2) (exactly.1 d z) ∙ reach_cuts B m)
