-- The least sound line: of the candidates one lies in all the others and adds the fewest live blends. A split takes it, or none where the allowance is less.
use Prim.Native.Nat.{ℕ, ◌+◌, ◌<◌}
use native.Mathlib.Omega.{arith}
use mathlib.Core.Path.{◌≡◌, refl, sym, ap, subst, ◌∙◌}
use mathlib.Core.Logic.{◌⊎◌, inl, inr, ⊎_elim}
use mathlib.Core.Bool.{cond, not}
use mathlib.Core.List.{[], ◌∷◌, Memᴰ}
use borrow.Author.Tests.{le-leb, lt-leb}
use lib.ListN.{length, length-map}
use Rattle.axis.specs.Range.{only}
use Rattle.axis.specs.declared.Side.{Side}
use Rattle.axis.specs.declared.Side.TheVariants.{Lower as lower, Upper as upper}
use Rattle.axis.proofs.Tests.{cond_true, cond_false}
use Rattle.axis.proofs.Runs.{if_at_most, if_equal}
use Rattle.mesh.specs.Lines.{direction, Layout}
use Rattle.mesh.specs.Splits.{live_of, with_line, given}
use Rattle.mesh.specs.Lengthening.{spanning, Contains, adds, known, new_anchors, steps_of, within, chosen, Candidate, Allowed, Least}
use Rattle.mesh.specs.Crossings.{anchor, Built}
use Rattle.mesh.specs.Ends.{nearest_good, LeastSoundLine}
use Rattle.mesh.specs.declared.Split.{Split}
use Rattle.mesh.proofs.Containing.{contains_spanning, contains_same, chosen_least}
use Rattle.mesh.proofs.Passing.{Given, given_says, candidate_says, ends_in}
use Rattle.mesh.proofs.OneLineMore.{more_finer, ranged}
use Rattle.mesh.proofs.ChosenLine.{contains_fits, contains_finer}
use Rattle.mesh.proofs.TwoLooks.{free, both_good, candidate_good, candidate_built, nearest_candidate, nearest_in}
use Rattle.mesh.proofs.MoreBlends.{more_blends, Past, longer_adds}

-- A split that passes 3 to 7:
module _ (P : Layout) (built : Built P) (s : Split) (passes : given P s ≡ 0) where
  g : Given P s
  g = given_says P s passes

  -- A candidate adds as many live blends as it makes new anchors,
  pub adds_new_anchors : (c : Split) → Candidate P s c → length (live_of (with_line P c)) ≡ length (live_of P) + length (new_anchors P c)
  adds_new_anchors c i =
      rw (length-map (only (λ B. not (known (live_of P) B)) (live_of (with_line P c))) anchor)
      (more_blends P.w P.h P.splits (with_line P c).splits built (candidate_built P built s passes c i) (more_finer P c))

  -- and more than one that lies in it and ends before it at some end,
  past_adds : (b : Split) (from to : ℕ) → Candidate P s b → Candidate P s (spanning b from to) → Contains P b (spanning b from to) →
      (e : Side) → Past b from to e → adds P b < adds P (spanning b from to)
  past_adds b from to i j o e p =
      let c = spanning b from to in
      let fits = contains_fits P s b g.fits i.0 in
      let fit = contains_fits P s c g.fits j.0 in
      let good = both_good P built b fits (candidate_says P b i.1).apart (candidate_good P built s passes b i) e in
      let more = longer_adds P built b (direction b.direction) from to (ranged P.w P.h b fits) (ranged P.w P.h c fit) o.begins o.ends
      (free P built c fit (candidate_says P c j.1).apart) e p good
      (candidate_built P built s passes b i) (candidate_built P built s passes c j) (contains_finer P b c fits o) in
      let kept = adds_new_anchors b i in
      omega arith

  -- so more than every other one that lies in it.
  more_adds : (b c : Split) → Candidate P s b → Candidate P s c → Contains P b c → (b ≡ c) ⊎ (adds P b < adds P c)
  more_adds b c i j o =
      subst (λ (x : Split). (b ≡ x) ⊎ (adds P b < adds P x)) (sym is) (by c.from c.to (subst (Candidate P s) is j) (subst (Contains P b) is o))
    where
      is : c ≡ spanning b c.from c.to
      is = contains_spanning P b c o

      by : (from to : ℕ) → Candidate P s (spanning b from to) → Contains P b (spanning b from to) →
          (b ≡ spanning b from to) ⊎ (adds P b < adds P (spanning b from to))
      by from to j o =
          if_equal b.from from
          (λ p. if_equal b.to to (λ q. inl (λ k. spanning b (p k) (q k))) (λ ne. inr (past_adds b from to i j o upper (omega (arith, o.ends)))))
          (λ ne. inr (past_adds b from to i j o lower (omega (arith, o.begins))))

  -- The line between the nearest good ends lies in every candidate; so it alone adds the fewest,
  fewest_alone : (c : Split) → Candidate P s c → (nearest_good P s ≡ c) ⊎ (adds P (nearest_good P s) < adds P c)
  fewest_alone c i = more_adds (nearest_good P s) c (nearest_candidate P built s passes) i (nearest_in P built s passes c i)

  -- it alone is the shortest,
  shortest_alone : (c : Split) → Candidate P s c → (nearest_good P s ≡ c) ⊎ (steps_of (nearest_good P s) < steps_of c)
  shortest_alone c i =
      let n = nearest_good P s in
      let own = (nearest_candidate P built s passes).0 in
      let rises = ends_in P s g.fits in
      if_at_most (steps_of c) (steps_of n)
      (λ le. inl (sym (contains_same P n c (nearest_in P built s passes c i) (omega (arith, own.begins, own.ends)) le))) (λ gt. inr gt)

  -- and within an allowance it is the line taken, or none is.
  is_taken : (a : ℕ) → chosen P s a ≡ cond (within s a (nearest_good P s)) (nearest_good P s ∷ []) []
  is_taken a =
      if_at_most (steps_of n) (steps_of s + a)
      (λ le. let f = least.one n (own, le) in
      let there : Memᴰ f.0 (chosen P s a) = subst (Memᴰ f.0) (sym f.1) (mathlib.Core.List.Memᴰ.head refl) in
      let is : n ≡ f.0 =
      ⊎_elim (λ q. q) (λ lt. absurd (omega (arith, least.fewest n f.0 there (own, le)))) (fewest_alone f.0 (least.taken f.0 there).0) in
      f.1 ∙ ap (λ (c : Split). c ∷ []) (sym is) ∙ sym (cond_true _ _ _ (le-leb _ _ le)))
      (λ gt. least.none.1 (too_long gt) ∙ sym (cond_false _ _ _ (lt-leb _ _ gt)))
    where
      n : Split
      n = nearest_good P s

      own : Candidate P s (nearest_good P s)
      own = nearest_candidate P built s passes

      least : Least P s a
      least = chosen_least P s a (omega (arith, ends_in P s g.fits))

      too_long : steps_of s + a < steps_of (nearest_good P s) → (b : Split) → Allowed P s a b → ⊥
      too_long gt b i =
          let shorter = shortest_alone b i.0 in
          ⊎_elim (λ q. omega (arith, i.1, ap steps_of q)) (λ lt. omega (arith, i.1)) shorter

  pub least_sound_line : LeastSoundLine P s
  least_sound_line =
      record {
        is_candidate = nearest_candidate P built s passes;
        in_all = nearest_in P built s passes;
        counts_new_anchors = adds_new_anchors;
        longer_adds = more_adds;
        taken = is_taken;
        fewest_alone = fewest_alone;
        shortest_alone = shortest_alone;
      }
