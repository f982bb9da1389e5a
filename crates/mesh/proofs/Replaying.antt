-- The splits of lines, one step after the other; and one split more, within an allowance.
use Prim.Native.Nat.{ℕ, ◌+◌, ◌≤◌, ◌<◌}
use native.Mathlib.Omega.{arith}
use native.Mathlib.Numerals.{add-one}
use mathlib.Core.Path.{◌≡◌, refl, sym, ap, ◌∙◌}
use mathlib.Core.Bool.{true, false, ◌&&◌}
use mathlib.Core.List.{List, [], ◌∷◌, ◌++◌}
use borrow.Author.Tests.{le-leb, lt-leb, lt-ltb, eq-eqb, ne_eqb}
use lib.Dec.{eqb, leb}
use lib.ListN.{length, get_or, take, drop, drop_of_length-le}
use lib.Seq.{take-suc, take-length, drop-cons}
use Rattle.std.specs.Prelude.{Some, None, Result, Ok, Err, IfOk, is_err}
use Rattle.axis.specs.Limits.{most_allowance}
use Rattle.axis.proofs.Tests.{true_not_false, and_first, and_last, cond_true, cond_false}
use Rattle.axis.proofs.Runs.{if_at_most, if_equal}
use Rattle.mesh.specs.Lines.{allowed_side, Layout, layout, splits_of, layout_of}
use Rattle.mesh.specs.Sound.{table}
use Rattle.mesh.specs.Splits.{given, asked, exact_number, accepted, live_of, with_line}
use Rattle.mesh.specs.Lengthening.{steps_of}
use Rattle.mesh.specs.Ends.{nearest_good}
use Rattle.mesh.specs.Refusals.{number_of}
use Rattle.mesh.specs.Replay.{replays, Replays, replayed, Outcome, refused_step, split_step}
use Rattle.mesh.specs.Bytes.{walk}
use Rattle.mesh.specs.Carried.{CarriedBy, Noted, NotedBy, SearchesBy, Verdict, told_of, judged, found_by, verdict}
use Rattle.mesh.specs.declared.Split.{Split}
use Rattle.mesh.specs.declared.Lines.{Lines}
use Rattle.mesh.specs.declared.Table.{Table}
use Rattle.mesh.specs.declared.carried.Drawing.{Drawing}
use Rattle.mesh.specs.declared.notes.Notes.{Notes}
use Rattle.mesh.specs.declared.refusal.Refusal.{Refusal}
use Rattle.mesh.specs.declared.refusal.Refusal.TheVariants.{Side, BadRecord, OutOfRange, Full, Shared, OpenEnd, CutsNothing, Unsound, NoAnchor, Outside, NoFile, ShortBuffer, NoPair}
use Rattle.mesh.proofs.Drawing.{blank}
use Rattle.mesh.proofs.Passing.{asked_given, exact_refused}
use Rattle.mesh.proofs.LeastLine.{least_sound_line}
use Rattle.mesh.proofs.Accepted.{replays_stands}
use Rattle.mesh.proofs.Allowance.{nearest_accepted, exact_unsound, exact_nearest, nearest_exact}
use Rattle.mesh.proofs.Stepping.{carried_walk}

-- a refusal has a number, which is not that of a yes
pub refusal_not_zero : (e : Refusal) → number_of e ≡ 0 → ⊥
refusal_not_zero Side e = omega arith
refusal_not_zero BadRecord e = omega arith
refusal_not_zero OutOfRange e = omega arith
refusal_not_zero Full e = omega arith
refusal_not_zero Shared e = omega arith
refusal_not_zero OpenEnd e = omega arith
refusal_not_zero CutsNothing e = omega arith
refusal_not_zero Unsound e = omega arith
refusal_not_zero NoAnchor e = omega arith
refusal_not_zero Outside e = omega arith
refusal_not_zero NoFile e = omega arith
refusal_not_zero ShortBuffer e = omega arith
refusal_not_zero NoPair e = omega arith

-- What a split comes to: refused with 3 to 7, or found within the allowance.
module _ (P : Layout) (s : Split) where
  pub verdict_refused : (a : ℕ) {n : ℕ} → n ≡ given P s → (n ≡ 0 → ⊥) → told_of n s ≡ verdict P s a
  verdict_refused a e ne = rw (← e, ne_eqb _ 0 ne)

  pub verdict_found : (a : ℕ) → given P s ≡ 0 → {v : Verdict} → v ≡ found_by s (steps_of s + a) (nearest_good P s) → v ≡ verdict P s a
  verdict_found a e is = is ∙ sym (cond_true _ _ _ (eq-eqb _ _ e))

  -- an accepted one has passed, and draws the line between the nearest good ends, which is not too long
  pub verdict_says : (a : ℕ) {v : Verdict} → v ≡ verdict P s a → v.number ≡ 0 →
      (given P s ≡ 0) × (steps_of (nearest_good P s) ≤ steps_of s + a) × (v ≡ told_of 0 (nearest_good P s))
  verdict_says a {v} is none =
      if_equal (given P s) 0
      (λ e. let found = is ∙ cond_true _ _ _ (eq-eqb _ _ e) in
      if_at_most (steps_of (nearest_good P s)) (steps_of s + a) (λ le. (e, le, found ∙ cond_true _ _ _ (le-leb _ _ le)))
      (λ gt. absurd (omega (arith, none, ap (λ (u : Verdict). u.number) (found ∙ cond_false _ _ _ (lt-leb _ _ gt))))))
      (λ ne. absurd (ne (sym (ap (λ (u : Verdict). u.number) (is ∙ cond_false _ _ _ (ne_eqb _ 0 ne))) ∙ none)))

  module _ (taken : Replays P) where
    -- with no allowance it is the exact split,
    pub verdict_exact : (verdict P s 0).number ≡ exact_number P s
    verdict_exact =
        if_equal (given P s) 0
        (λ e. ap (λ (v : Verdict). v.number) (cond_true _ _ _ (eq-eqb _ _ e)) ∙
        if_at_most (steps_of (nearest_good P s)) (steps_of s)
        (λ le. ap (λ (v : Verdict). v.number) (cond_true _ _ _ (le-leb (steps_of (nearest_good P s)) (steps_of s + 0) (omega arith))) ∙
        sym (nearest_exact P taken s e le))
        (λ gt. ap (λ (v : Verdict). v.number) (cond_false _ _ _ (lt-leb (steps_of (nearest_good P s)) (steps_of s + 0) (omega arith))) ∙
        sym (exact_unsound P taken s e (λ z. omega (arith, ap steps_of (exact_nearest P taken s e z))))))
        (λ ne. ap (λ (v : Verdict). v.number) (cond_false _ _ _ (ne_eqb _ 0 ne)) ∙ sym (exact_refused P s ne))

    pub verdict_line : {v : Verdict} → v ≡ verdict P s 0 → v.number ≡ 0 → v.line ≡ s
    verdict_line is none =
        let f = verdict_says 0 is none in
        ap (λ (u : Verdict). u.line) f.2 ∙ exact_nearest P taken s f.0 (nearest_exact P taken s f.0 (omega (arith, f.1)))

    -- and its line is accepted as one
    pub verdict_accepted : (a : ℕ) {v : Verdict} → v ≡ verdict P s a → v.number ≡ 0 → exact_number P v.line ≡ 0
    verdict_accepted a is none = let f = verdict_says a is none in rw f.2 (nearest_accepted P taken s f.0)

-- Part of the way through: the map of the first i splits is carried, and the splits that are left decide.
pub record Replaying {n : ℕ} (L : Lines) (i : ℕ) (t : Drawing n) : Type 0 where
  pub carried : CarriedBy (layout L.w L.h (take i (splits_of L))) t
  pub decides : accepted (layout L.w L.h []) (splits_of L) ≡ accepted (layout L.w L.h (take i (splits_of L))) (drop i (splits_of L))

module _ (L : Lines) where
  fails : (allowed_side L.w && allowed_side L.h && leb L.count 60 && accepted (layout L.w L.h []) (splits_of L)) ≡ false → None ≡ replayed L
  unfolding replayed replays
  fails e = sym (cond_false _ _ _ e)

  pub out_across : allowed_side L.w ≡ false → None ≡ replayed L
  out_across e = fails (and_first _ _ (and_first _ _ (and_first _ _ e)))

  pub out_up : allowed_side L.h ≡ false → None ≡ replayed L
  out_up e = fails (and_first _ _ (and_first _ _ (and_last (allowed_side L.w) _ e)))

  pub out_count : 60 < L.count → None ≡ replayed L
  out_count lt = fails (and_first _ _ (and_last (allowed_side L.w && allowed_side L.h) _ (lt-leb L.count 60 lt)))

  pub replay_none : {n : ℕ} {t : Drawing n} → CarriedBy (layout L.w L.h []) t → Replaying L 0 t
  replay_none now = record { carried = now; decides = refl }

module _ {n : ℕ} {L : Lines} {i : ℕ} {t : Drawing n} (r : Replaying L i t) where
  abbrev pub this : Split
  this = get_or (splits_of L) i blank

  abbrev before : Layout
  before = layout L.w L.h (take i (splits_of L))

  module _ (lt : i < length (splits_of L)) where
    longer : take i (splits_of L) ++ this ∷ [] ≡ take (i + 1) (splits_of L)
    longer = sym (rw add-one (take-suc (splits_of L) i blank lt))

    turn : accepted (layout L.w L.h []) (splits_of L) ≡ (eqb (exact_number before this) 0 &&
        accepted (with_line before this) (drop (i + 1) (splits_of L)))
    unfolding accepted
    turn = r.decides ∙ rw (drop-cons (splits_of L) i blank lt, add-one)

    -- a split is refused, or one more is taken
    module _ {v : Verdict} (is : v ≡ verdict before this 0) where
      by_number : v.number ≡ exact_number before this
      by_number = ap (λ (u : Verdict). u.number) is ∙ verdict_exact _ this r.carried.carried.taken

      pub replay_stop : (v.number ≡ 0 → ⊥) → None ≡ replayed L
      replay_stop ne =
          fails L (and_last (allowed_side L.w && allowed_side L.h && leb L.count 60) _ (turn ∙ and_first _ _ (ne_eqb _ 0 (λ z. ne (by_number ∙ z)))))

      goes_on : v.number ≡ 0 → {u : Drawing n} → CarriedBy (with_line before this) u → Replaying L (i + 1) u
      goes_on z next = record { carried = rw longer at next; decides = turn ∙ rw (eq-eqb _ 0 (sym by_number ∙ z), longer) }

    -- by the answer of a step
    pub step_stops : (a : Result Split Refusal) → judged this a ≡ verdict before this 0 → is_err a ≡ true → None ≡ replayed L
    step_stops (Ok line) is e = absurd (true_not_false _ e refl)
    step_stops (Err x) is e = replay_stop is (refusal_not_zero x)

    pub replay_more : (a : Result Split Refusal) → judged this a ≡ verdict before this 0 → is_err a ≡ false → {u : Drawing n} →
        IfOk a (λ line. CarriedBy (with_line before line) u) → Replaying L (i + 1) u
    replay_more (Ok line) is e next = goes_on is refl (rw (verdict_line _ this r.carried.carried.taken is refl) at next)
    replay_more (Err x) is e next = absurd (true_not_false _ refl e)

  pub replay_done : L.count ≤ 60 → i ≡ length (splits_of L) → Some (table (walk t.w t.h t.places)) ≡ replayed L
  unfolding replayed replays accepted
  replay_done few last =
      let now = r.carried in
      let taken = now.carried.taken in
      let done = drop_of_length-le (splits_of L) {i = i} (omega (arith, last)) in
      let all_taken : accepted (layout L.w L.h []) (splits_of L) ≡ true = r.decides ∙ rw done in
      rw (taken.across, taken.up, le-leb L.count 60 few, all_taken, now.is_w, now.is_h, carried_walk now.carried, last, take-length)

-- what the search for a longer line starts from
abbrev pub searches : {n : ℕ} {P : Layout} {t : Drawing n} {notes : Notes} {s : Split} →
    CarriedBy P t → NotedBy P s notes → given P s ≡ 0 → SearchesBy t notes s
searches {n} {P} {t} now noted e = record {
  w = P.w;
  h = P.h;
  splits = P.splits;
  columns = t.columns;
  rows = t.rows;
  places = t.places;
  carried = now.carried;
  noted = noted;
  passes = e;
  along = rw (now.is_w, now.is_h);
}

-- the notes for the split are those for the line between the nearest good ends
module _ {w h : ℕ} {ss : List Split} {s : Split} {lows highs : List ℕ} (n : Noted w h ss s lows highs) {line : Split} where
  pub noted_nearest : line ≡ nearest_good (layout w h ss) s → Noted w h ss line lows highs
  unfolding nearest_good
  noted_nearest is = rw is (record { is_low = n.is_low; is_high = n.is_high })

-- One split more, on lines that were replayed: what a refusal and a drawn line come to.
module _ (L : Lines) (t : Table) (s : Split) where
  pub split_beyond : (a : ℕ) → most_allowance < a → refused_step t 3 s ≡ split_step L t s a
  unfolding split_step asked
  split_beyond a lt = rw (lt-ltb _ _ lt)

  module _ (a : ℕ) (few : a ≤ most_allowance) where
    pub verdict_told : Replays (layout_of L) → {v : Verdict} → v ≡ verdict (layout_of L) s a → (v.number ≡ 0 → ⊥) →
        refused_step t v.number s ≡ split_step L t s a
    unfolding split_step
    verdict_told taken {v} is ne =
        if_equal (given (layout_of L) s) 0
        (λ e. let n = nearest_good (layout_of L) s in
        let found = is ∙ cond_true _ _ _ (eq-eqb _ _ e) in
        if_at_most (steps_of n) (steps_of s + a)
        (λ le. absurd (ne (ap (λ (u : Verdict). u.number) (found ∙ cond_true _ _ _ (le-leb _ _ le)))))
        (λ gt. rw (
          asked_given (layout_of L) s a few,
          e,
          found,
          (least_sound_line (layout_of L) (replays_stands taken).built s e).taken a,
          lt-leb _ _ gt,
        )))
        (λ no. rw (asked_given (layout_of L) s a few, is, ne_eqb (given (layout_of L) s) 0 no))

    pub verdict_drawn : Replays (layout_of L) → {v : Verdict} → v ≡ verdict (layout_of L) s a → v.number ≡ 0 →
        {n : ℕ} {u : Drawing n} {new : Table} → CarriedBy (with_line (layout_of L) v.line) u →
        new ≡ table (walk u.w u.h u.places) → ◌≡◌ {A = Outcome} (record { number = 0; split = v.line; table = new }) (split_step L t s a)
    unfolding split_step
    verdict_drawn taken {v} is none {n} {u} now e =
        let f = verdict_says (layout_of L) s a is none in
        let lives : walk u.w u.h u.places ≡ live_of (with_line (layout_of L) v.line) = rw (now.is_w, now.is_h) (carried_walk now.carried) in
        ap (λ (x : Table). record { number = 0; split = v.line; table = x }) (e ∙ ap table lives) ∙
        rw (asked_given (layout_of L) s a few, f.0, f.2, (least_sound_line (layout_of L) (replays_stands taken).built s f.0).taken a, le-leb _ _ f.1)
