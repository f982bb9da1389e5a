-- Any list of `pump_` calls on any buffer, also one that holds no file.
use Prim.Native.Nat.{ℕ}
use native.Mathlib.Omega.{arith}
use mathlib.Core.Path.{◌≡◌, refl, sym, ap, subst, ◌∙◌}
use mathlib.Core.Logic.{◌⊎◌, inl, inr, ⊎_elim}
use mathlib.Core.Bool.{true, false, ◌&&◌}
use mathlib.Core.List.Memᴰ
use mathlib.Core.List.{List, [], ◌∷◌}
use borrow.Author.Tests.{leb-true, leb-false, le-leb}
use lib.Dec.{leb}
use Rattle.axis.proofs.Tests.{either, and_both}
use Rattle.mesh.specs.Lines.{allowed_side}
use Rattle.maps.specs.Calls.{fresh_map}
use Rattle.maps.proofs.GoodRecords.{record_good, fresh_holds}
use Rattle.files.specs.Calls.{write_number, read_file}
use Rattle.files.specs.Listing.{text_number}
use Rattle.files.proofs.GoodFiles.{accepts}
use Rattle.pump.specs.Border.{new_number, new_bytes, new_used, fresh_number, lent, place_number, place_after, weights_number, weights_after, reading_number, reading_litres, same_number, same_yes}
use Rattle.pump.specs.Histories.{PumpCall, fresh, set, split, place, reads, weighs, along_row, along_column, same_as, same_to, checks, payloads, lists, outcome, Buffer, by_border}
use Rattle.pump.specs.Demand.{read_number, bare_answer, BorderBare, BorderAny, holds_file, holds_none, until_fresh}
use Rattle.pump.proofs.Demand3.{border_demand, border_file}

module _ (start : Buffer) (none : read_number start ≡ 11) where
  -- `pump_fresh` reads nothing,
  fresh_rule : (w h : ℕ) → fresh_number w h start.bytes ≡ (bare_answer start (fresh w h)).number
  unfolding fresh_map new_number write_number
  fresh_rule w h =
      ⊎_elim
      (λ (t : allowed_side w && allowed_side h ≡ true).
      let s = and_both (allowed_side w) (allowed_side h) t in
      let g = record_good (fresh_holds w h s.0 s.1) in rw (t, g.0, g.1))
      (λ (f : allowed_side w && allowed_side h ≡ false). rw f) (either (allowed_side w && allowed_side h))

  -- so it makes a map or leaves the buffer as it is; every other call leaves it
  abbrev Makes : PumpCall → Type 0
  Makes c = (w : ℕ) × (h : ℕ) × (c ≡ fresh w h) × (fresh_number w h start.bytes ≡ 0)

  abbrev Stays : PumpCall → Type 0
  Stays c =
      (by_border start c ≡ outcome (bare_answer start c) start) ×
      ((w h : ℕ) → fresh w h ≡ c → (bare_answer start (fresh w h)).number ≡ 0 → ⊥)

  refused_with : (c : PumpCall) (n : ℕ) → (bare_answer start c).number ≡ n → (n ≡ 0 → ⊥) →
      (w h : ℕ) → fresh w h ≡ c → (bare_answer start (fresh w h)).number ≡ 0 → ⊥
  refused_with c n is ne w h e z = ne (sym is ∙ ap (λ (k : PumpCall). (bare_answer start k).number) (sym e) ∙ z)

  eleven : (c : PumpCall) → (bare_answer start c).number ≡ 11 →
      (w h : ℕ) → fresh w h ≡ c → (bare_answer start (fresh w h)).number ≡ 0 → ⊥
  eleven c is = refused_with c 11 is (λ z. omega arith)

  fresh_refused : (w h : ℕ) → ((bare_answer start (fresh w h)).number ≡ 0 → ⊥) →
      by_border start (fresh w h) ≡ outcome (bare_answer start (fresh w h)) start
  unfolding new_bytes new_used
  fresh_refused w h ne =
      let n = (bare_answer start (fresh w h)).number in rw (fresh_rule w h, le-leb 1 n (omega arith))

  step_any : (c : PumpCall) → Makes c ⊎ Stays c
  unfolding new_bytes new_used new_number place_number place_after weights_number weights_after reading_number reading_litres same_number same_yes text_number
  step_any (fresh w h) =
      let n = (bare_answer start (fresh w h)).number in
      ⊎_elim
      (λ (t : leb 1 n ≡ true).
      let ne : n ≡ 0 → ⊥ = λ z. omega (arith, leb-true 1 n t) in
      inr (fresh_refused w h ne, refused_with (fresh w h) n refl ne))
      (λ (f : leb 1 n ≡ false).
      let low = leb-false 1 n f in let z : n ≡ 0 = omega arith in inl (w, h, refl, fresh_rule w h ∙ z))
      (either (leb 1 n))
  step_any (set m n v) = inr (rw none, eleven (set m n v) refl)
  step_any (split s a) = inr (rw none, eleven (split s a) refl)
  step_any (place i out) = inr (rw none, eleven (place i out) refl)
  step_any (reads u v) = inr (rw none, eleven (reads u v) refl)
  step_any (weighs u v out) = inr (rw none, eleven (weighs u v out) refl)
  step_any (along_row v wanted) = inr (rw none, eleven (along_row v wanted) refl)
  step_any (along_column u wanted) = inr (rw none, eleven (along_column u wanted) refl)
  step_any (same_as other) = inr (rw none, eleven (same_as other) refl)
  step_any (same_to other) =
      inr (
        ⊎_elim (λ (e : (read_file other).number ≡ 0). rw (e, none)) (λ (e : (read_file other).number ≡ 11). rw e)
            (accepts other).number,
        eleven (same_to other) refl,
      )
  step_any checks = inr (rw none, eleven checks refl)
  step_any (payloads i) = inr (refl, λ w h e z. let one : ◌≡◌ {A = ℕ} 0 1 = cc in omega arith)
  step_any (lists out) = inr (rw none, eleven (lists out) refl)

  -- Whole lists:
  nothing : BorderBare start []
  nothing = record { no_fresh = λ w h m z. Memᴰ.not-nil m; same_outcomes = refl; same_left = refl }

  one_more : (c : PumpCall) (cs : List PumpCall) → Stays c → BorderBare start cs → BorderBare start (c ∷ cs)
  one_more c cs s rest =
      record {
        no_fresh = λ w h m z. ⊎_elim (λ e. s.1 w h e z) (λ t. rest.no_fresh w h t z) (Memᴰ.cases_cons m);
        same_outcomes = rw s.0 (ap (λ os. outcome (bare_answer start c) start ∷ os) rest.same_outcomes);
        same_left = rw s.0 rest.same_left;
      }

  longer : (c : PumpCall) → Stays c → {cs : List PumpCall} → BorderAny start cs → BorderAny start (c ∷ cs)
  longer c s (holds_file e d) = absurd (omega (arith, e, none))
  longer c s (holds_none e d) = holds_none e (one_more c _ s d)
  longer c s (until_fresh e d rest) = until_fresh e (one_more c _ s d) rest

  bare_any : (cs : List PumpCall) → BorderAny start cs
  bare_any [] = holds_none none nothing
  bare_any (c ∷ cs) =
      ⊎_elim
      (λ (m : Makes c).
      subst (λ (k : PumpCall). BorderAny start (k ∷ cs)) (sym m.2)
      (until_fresh none nothing (border_demand m.0 m.1 start m.3 cs)))
      (λ (s : Stays c). longer c s (bare_any cs)) (step_any c)

pub border_any : (start : Buffer) (cs : List PumpCall) → BorderAny start cs
border_any start cs =
    ⊎_elim (λ e. holds_file e (border_file start e cs)) (λ none. bare_any start none cs)
    (accepts (lent start.bytes start.used)).number
