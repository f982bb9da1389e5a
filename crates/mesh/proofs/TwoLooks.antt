-- Two looks tell whether a line is sound, and the nearest good ends which line a split takes within its allowance.
use Prim.Native.Nat.{ℕ, ◌+◌, ◌-◌, ◌≤◌, ◌<◌}
use native.Mathlib.Omega.{arith}
use mathlib.Core.Path.{◌≡◌, refl, sym, ap, subst}
use mathlib.Core.Logic.{⊎_elim}
use mathlib.Core.Bool.{Bool, true, false, cond, ◌&&◌, not}
use borrow.Author.Tests.{eq-eqb}
use Rattle.axis.specs.Range.{any}
use Rattle.axis.specs.declared.Side.{Side}
use Rattle.axis.specs.declared.Side.TheVariants.{Lower as lower, Upper as upper}
use Rattle.axis.proofs.Tests.{true_not_false, false_of, and_both, and_of, same_test, some_fails, fails_some}
use Rattle.axis.proofs.Runs.{if_at_most}
use Rattle.axis.proofs.Nearest.{below_last, above_first}
use Rattle.mesh.specs.Lines.{other, direction, Layout, mesh_of, in_range, shares, ended, on_line}
use Rattle.mesh.specs.declared.Direction.{Direction}
use Rattle.mesh.specs.Blends.{is_cut}
use Rattle.mesh.specs.Splits.{live_of, with_line, sound_with, given, exact_number}
use Rattle.mesh.specs.Lengthening.{run, Contains, candidate, Candidate}
use Rattle.mesh.specs.Ends.{gap_ends, good_end, good_ends, between, gap, nearest_good, TwoLooks}
use Rattle.mesh.specs.declared.Split.{Split}
use Rattle.mesh.specs.Crossings.{Built}
use Rattle.mesh.proofs.Passing.{Given, given_says, candidate_says, ends_in}
use Rattle.mesh.proofs.ChosenLine.{contains_fits, contains_cuts, candidate_exact}
use Rattle.mesh.proofs.OneLineMore.{Ranged, ranged, end_of}
use Rattle.mesh.proofs.GoodEnds.{gap_either, gap_edge, gap_line, gap_good, good_sound, good_on_line, sound_good, built_on}

-- A split in range that shares no unit step with a line at its position:
module _ (P : Layout) (b : Built P) (s : Split) (fits : in_range P.w P.h s ≡ true) (apart : shares (mesh_of P) s ≡ false) where
  abbrev d : Direction
  d = direction s.direction

  abbrev z : ℕ
  z = s.position + 1

  r : Ranged P.w P.h d s
  r = ranged P.w P.h s fits

  pub free : (k : ℕ) → s.from + 1 ≤ k → k < s.to + 1 → mesh_of P d z k ≡ false
  unfolding shares
  free k lo hi = some_fails (s.from + 1) (s.to - s.from) (mesh_of P d z) apart k lo (omega arith)

  pub both_good : good_ends P s ≡ true → (e : Side) → good_end P d z e (end_of e s) ≡ true
  unfolding good_ends
  both_good t lower = (and_both (good_end P d z lower (s.from + 1)) (good_end P d z upper (s.to + 1)) t).0
  both_good t upper = (and_both (good_end P d z lower (s.from + 1)) (good_end P d z upper (s.to + 1)) t).1

  -- between good ends it is a candidate;
  pub good_candidate : good_ends P s ≡ true → candidate P s ≡ true
  unfolding candidate ended
  good_candidate t =
      let good = both_good t in
      and_of _ _ (and_of _ _ (and_of _ _ (good_on_line P b s d r free lower (good lower)) (good_on_line P b s d r free upper (good upper))) (ap not apart))
      (good_sound P b s d r free good)

  -- and where its ends lie on crossing lines and it cuts something, it leaves a sound map only between good ends.
  module _ (ends : ended (mesh_of P) s ≡ true) (some_cut : any (is_cut (mesh_of (with_line P s))) (live_of P) ≡ true) where
    on_lines : (e : Side) → on_line (mesh_of P) (other d) (end_of e s) z ≡ true
    unfolding ended
    on_lines lower = (and_both (on_line (mesh_of P) (other d) (s.from + 1) z) (on_line (mesh_of P) (other d) (s.to + 1) z) ends).0
    on_lines upper = (and_both (on_line (mesh_of P) (other d) (s.from + 1) z) (on_line (mesh_of P) (other d) (s.to + 1) z) ends).1

    pub sound_ends : sound_with P s ≡ true → good_ends P s ≡ true
    unfolding good_ends
    sound_ends still = and_of _ _ (sound_good P b s d r free on_lines some_cut still lower) (sound_good P b s d r free on_lines some_cut still upper)

    pub stays_built : sound_with P s ≡ true → Built (with_line P s)
    stays_built still = built_on P b s d r free on_lines some_cut still

-- A line through a given one between the nearest ends of a kind, among which are the gap's:
module _ (P : Layout) (b : Built P) (s : Split) (fits : in_range P.w P.h s ≡ true) (apart : shares (mesh_of P) s ≡ false)
    (ends : Side → ℕ → Bool) (gaps : (e : Side) (k : ℕ) → gap_ends P (direction s.direction) (s.position + 1) e k ≡ true → ends e k ≡ true) where
  abbrev way : Direction
  way = direction s.direction

  abbrev at : ℕ
  at = s.position + 1

  abbrev line : Split
  line = between ends P s

  pub low_end : (line.from ≤ s.from) × (ends lower (line.from + 1) ≡ true) × ((k : ℕ) → line.from < k → k ≤ s.from → ends lower (k + 1) ≡ false)
  low_end = below_last (λ k. ends lower (k + 1)) s.from (gaps lower 1 (gap_edge P way at lower 1 refl))

  pub high_end : (s.to ≤ line.to) × (line.to ≤ run P s) × (ends upper (line.to + 1) ≡ true) ×
      ((k : ℕ) → s.to ≤ k → k < line.to → ends upper (k + 1) ≡ false)
  high_end =
      let in_side = ends_in P s fits in
      let f = above_first (λ k. ends upper (k + 1)) (run P s + 1) (run P s + 1 - s.to) (omega arith) (omega arith)
      (subst (λ (k : ℕ). ends upper k ≡ true) (omega arith) (gaps upper (run P s + 1) (gap_edge P way at upper (run P s + 1) refl))) in
      (omega arith, omega arith, f.2, λ k lo hi. f.3 k (omega arith) hi)

  pub contains : Contains P s line
  contains = record { same_way = refl; same_place = refl; begins = low_end.0; ends = high_end.0; within = high_end.1 }

  -- it lies in the gap, so it shares no step with a line,
  in_gap : (k : ℕ) → line.from + 1 ≤ k → k < line.to + 1 → mesh_of P way at k ≡ false
  in_gap k lo hi = false_of _ refute
    where
      refute : mesh_of P way at k ≡ true → ⊥
      refute on =
          if_at_most k s.from
          (λ le. true_not_false _ (gaps lower (k + 1) (gap_line P way at lower (k + 1) (subst (λ (n : ℕ). mesh_of P way at n ≡ true) (omega arith) on)))
          (low_end.2 k (omega arith) le))
          (λ gt. if_at_most k s.to (λ le. true_not_false _ on (free P b s fits apart k (omega arith) (omega arith)))
          (λ past. true_not_false _ (subst (λ (n : ℕ). ends upper n ≡ true) (omega arith) (gaps upper k (gap_line P way at upper k on)))
          (high_end.3 (k - 1) (omega arith) (omega arith))))

  pub shares_none : shares (mesh_of P) line ≡ false
  unfolding shares
  shares_none =
      let in_side = ends_in P s fits in
      fails_some (line.from + 1) (line.to - line.from) (mesh_of P way at) (λ k lo hi. in_gap k lo (omega (arith, low_end.0, high_end.0)))

  -- so it is a candidate, if the ends are good ones.
  pub between_candidate : ((e : Side) (k : ℕ) → ends e k ≡ true → good_end P way at e k ≡ true) → candidate P line ≡ true
  unfolding good_ends
  between_candidate good =
      good_candidate P b line (contains_fits P s line fits contains) shares_none (and_of _ _ (good lower _ low_end.1) (good upper _ high_end.2))

-- The whole gap is a candidate, also where nothing is cut.
pub gap_sound : (P : Layout) (b : Built P) (s : Split) → in_range P.w P.h s ≡ true → shares (mesh_of P) s ≡ false →
    Candidate P s (gap P s)
unfolding gap
gap_sound P b s fits apart =
    let d = direction s.direction in
    let ends = gap_ends P d (s.position + 1) in
    (contains P b s fits apart ends (λ e k t. t), between_candidate P b s fits apart ends (λ e k t. t) (gap_good P d (s.position + 1)))

-- A split that passes 3 to 7:
module _ (P : Layout) (b : Built P) (s : Split) (e : given P s ≡ 0) where
  g : Given P s
  g = given_says P s e

  pub candidate_good : (c : Split) → Candidate P s c → good_ends P c ≡ true
  candidate_good c (i, t) =
      let f = candidate_says P c t in
      sound_ends P b c (contains_fits P s c g.fits i) f.apart f.ends (contains_cuts P b.wide b.high s c g.fits i g.cut) f.is_sound

  -- and it leaves a map that is sound and tight again
  pub candidate_built : (c : Split) → Candidate P s c → Built (with_line P c)
  candidate_built c (i, t) =
      let f = candidate_says P c t in
      stays_built P b c (contains_fits P s c g.fits i) f.apart f.ends (contains_cuts P b.wide b.high s c g.fits i g.cut) f.is_sound

  exact_is : sound_with P s ≡ good_ends P s
  exact_is =
      same_test _ _ (sound_ends P b s g.fits g.apart g.ends g.cut)
      (λ t. (candidate_says P s (good_candidate P b s g.fits g.apart t)).is_sound)

  refused_is : exact_number P s ≡ cond (good_ends P s) 0 8
  unfolding exact_number
  refused_is = rw (eq-eqb _ _ e, exact_is)

  abbrev gaps : Side → ℕ → Bool
  gaps = gap_ends P (direction s.direction) (s.position + 1)

  all_gaps : (k : Side) (n : ℕ) → gaps k n ≡ true → good_end P (direction s.direction) (s.position + 1) k n ≡ true
  all_gaps = gap_good P (direction s.direction) (s.position + 1)

  -- a candidate lies in the gap, and a line there between good ends is one
  in_whole_gap : (c : Split) → Candidate P s c → Contains P c (gap P s)
  unfolding gap shares
  in_whole_gap c (i, t) =
      let low = low_end P b s g.fits g.apart gaps (λ k n t. t) in
      let high = high_end P b s g.fits g.apart gaps (λ k n t. t) in
      let in_side = ends_in P s g.fits in
      let rows : (k : ℕ) → c.from + 1 ≤ k → k < c.to + 1 → mesh_of P (direction s.direction) (s.position + 1) k ≡ false =
      λ k lo hi. some_fails (c.from + 1) (c.to - c.from) _ (rw (i.same_way, i.same_place) at (candidate_says P c t).apart) k lo (omega arith) in
      record {
        same_way = sym i.same_way;
        same_place = sym i.same_place;
        begins = if_at_most (between gaps P s).from c.from (λ le. le)
            (λ gt. absurd (⊎_elim (λ one. omega arith) (λ on. true_not_false _ on (rows _ (omega arith) (omega arith)))
            (gap_either P (direction s.direction) (s.position + 1) lower ((between gaps P s).from + 1) low.1)));
        ends = if_at_most c.to (between gaps P s).to (λ le. le)
            (λ gt. absurd (⊎_elim (λ last. omega arith) (λ on. true_not_false _ on (rows _ (omega arith) (omega arith)))
            (gap_either P (direction s.direction) (s.position + 1) upper ((between gaps P s).to + 1) high.2)));
        within = rw i.same_way high.1;
      }

  gap_candidate : (c : Split) → Contains P s c → Contains P c (gap P s) → good_ends P c ≡ true → candidate P c ≡ true
  unfolding gap shares
  gap_candidate c i o t =
      good_candidate P b c (contains_fits P s c g.fits i)
      (rw (i.same_way, i.same_place)
      (fails_some (c.from + 1) (c.to - c.from) _ (λ k lo hi. in_gap P b s g.fits g.apart gaps (λ k n t. t) k (omega arith) (omega arith)))) t

  abbrev good_ends_there : Side → ℕ → Bool
  good_ends_there = good_end P (direction s.direction) (s.position + 1)

  pub nearest_candidate : Candidate P s (nearest_good P s)
  unfolding nearest_good
  nearest_candidate =
      (contains P b s g.fits g.apart good_ends_there all_gaps, between_candidate P b s g.fits g.apart good_ends_there all_gaps (λ k n t. t))

  pub nearest_in : (c : Split) → Candidate P s c → Contains P (nearest_good P s) c
  unfolding nearest_good good_ends
  nearest_in c (i, t) =
      let good = candidate_good c (i, t) in
      let f : (good_ends_there lower (c.from + 1) && good_ends_there upper (c.to + 1)) ≡ true = rw (i.same_way, i.same_place) at good in
      let a = and_both _ _ f in
      let low = low_end P b s g.fits g.apart good_ends_there all_gaps in
      let high = high_end P b s g.fits g.apart good_ends_there all_gaps in
      record {
        same_way = i.same_way;
        same_place = i.same_place;
        begins = if_at_most _ _ (λ le. le) (λ gt. absurd (true_not_false _ a.0 (low.2 c.from gt i.begins)));
        ends = if_at_most _ _ (λ le. le) (λ gt. absurd (true_not_false _ a.1 (high.3 c.to i.ends gt)));
        within = i.within;
      }

  pub two_looks : TwoLooks P s
  two_looks =
      record {
        exact = exact_is;
        refused = refused_is;
        accepted = λ c i. candidate_exact P b.wide b.high s c e i;
        whole_gap = gap_sound P b s g.fits g.apart;
        candidates = λ c i. (λ t. (in_whole_gap c (i, t), candidate_good c (i, t)), λ f. gap_candidate c i f.0 f.1);
      }
