-- `mesh::notes::Notes::cut_reached` meets its contract.
use Rattle.std.proofs.Common.{ℕ, zero, suc, ◌+◌, ◌-◌, ◌≤◌, ◌<◌, ◌≡◌, refl, sym, ◌∙◌, List, [], ◌∷◌, ◌++◌, get_or, drop, append_assoc, drop-cons, add-one, arith}
use mathlib.Core.List.{append-nil}
use lib.ListN.{drop_of_length-le}
use mathlib.Core.Path.{subst}
use mathlib.Core.Bool.{true, false}
use mathlib.Core.List.Memᴰ
use mathlib.Core.List.{Memᴰ}
use Rattle.axis.proofs.Tests.{each_turn, each_none, mem_each, true_not_false}
use Rattle.mesh.specs.Lines.{Mesh}
use Rattle.mesh.specs.declared.Direction.{Direction}
use Rattle.mesh.specs.declared.Direction.TheVariants.{Upright as upright}
use Rattle.mesh.specs.Blends.{leaves_of}
use Rattle.mesh.specs.Bytes.{keep_all}
use Rattle.mesh.specs.Carried.{unnoted, reached, if_reached, all_reached}
use Rattle.mesh.specs.declared.Blend.{Blend}
use Rattle.mesh.proofs.Cutting.{Cut, cut_first}
use Rattle.mesh.proofs.notes.Notes.cut_reached.Invariants.{both, rest, those, Keeping}
use Rattle.mesh.proofs.notes.Notes.cut_reached.Goals as goal
use Rattle.mesh.proofs.notes.Notes.cut_reached.Goals.{then-is_reached, else-is_reached}

module _ (d : Direction) (from to : ℕ) (lows highs : List ℕ) where
  all_rest : all_reached d from to lows highs ≡ rest d from to lows highs from
  unfolding all_reached
  all_rest = refl

  abbrev pair : ℕ → List ℕ
  pair k = get_or lows k 0 ∷ get_or highs k 0 ∷ []

  rest_turn : (k : ℕ) → k < to → rest d from to lows highs k ≡ those d from to (pair k) ++ rest d from to lows highs (k + 1)
  rest_turn k lt =
      let less : to - k - 1 ≡ to - (k + 1) = omega arith in
      each_turn k (to - k) (both d from to lows highs) (omega arith) ∙ rw (less, append-nil)

  -- one note more
  those_turn : (k i : ℕ) → i < 2 → (left : List Blend) → those d from to (drop i (pair k)) ++ left ≡
      if_reached d from to (get_or (pair k) i 0) ++ (those d from to (drop (i + 1) (pair k)) ++ left)
  those_turn k i lt left =
      let turn : drop i (pair k) ≡ get_or (pair k) i 0 ∷ drop (i + 1) (pair k) = rw add-one (drop-cons (pair k) i 0 lt) in
      rw turn (append_assoc (if_reached d from to (get_or (pair k) i 0)) _ left)

  -- a reached blend is one of them
  low_there : (k : ℕ) → from ≤ k → k < to → reached d from to (get_or lows k 0) ≡ true → Memᴰ (unnoted (get_or lows k 0)) (all_reached d from to lows highs)
  low_there k le lt e = rw all_rest (mem_each from (to - from) (both d from to lows highs) _ k (omega arith) (omega arith)
      (Memᴰ.append_left {s = if_reached d from to (get_or lows k 0)} (if_reached d from to (get_or highs k 0)) (rw e (Memᴰ.head refl))))

  high_there : (k : ℕ) → from ≤ k → k < to → reached d from to (get_or highs k 0) ≡ true → Memᴰ (unnoted (get_or highs k 0)) (all_reached d from to lows highs)
  high_there k le lt e = rw all_rest (mem_each from (to - from) (both d from to lows highs) _ k (omega arith) (omega arith)
      (Memᴰ.append_right (if_reached d from to (get_or lows k 0)) (rw e (Memᴰ.head refl))))

  there : (k i : ℕ) → from ≤ k → k < to → i < 2 → reached d from to (get_or (pair k) i 0) ≡ true →
      Memᴰ (unnoted (get_or (pair k) i 0)) (all_reached d from to lows highs)
  there k zero le lt h e = low_there k le lt e
  there k (suc zero) le lt h e = high_there k le lt e
  there k (suc (suc i)) le lt h e = absurd (omega arith)

turned : {M : Mesh} {places₀ places : List ℕ} {all left next : List Blend} → left ≡ next → Keeping M places₀ all places left → Keeping M places₀ all places next
turned {M} {places₀} {places} {all} e = subst (Keeping M places₀ all places) e

-- a note that is reached is cut, another passed
cut_note : {M : Mesh} {places₀ places next : List ℕ} {all left : List Blend} (d : Direction) (from to n : ℕ) →
    Keeping M places₀ all places (if_reached d from to n ++ left) → reached d from to n ≡ true → (x : Blend) → x ≡ unnoted n →
    Cut M upright x places next → Keeping M places₀ all next left
cut_note {M} {places₀} {places} {next} {all} {left} d from to n k e x same cut =
    let k : Keeping M places₀ all places (unnoted n ∷ left) = rw e at k in
    record { same = cut_first M x left places next cut ∙ rw same k.same }

pass_note : {M : Mesh} {places₀ places : List ℕ} {all left : List Blend} (d : Direction) (from to n : ℕ) →
    Keeping M places₀ all places (if_reached d from to n ++ left) → reached d from to n ≡ false → Keeping M places₀ all places left
pass_note d from to n k e = rw e at k

pub loop-k-init : goal.loop-k-init
loop-k-init c = turned (all_rest _ _ _ _ _) (record { same = refl })

pub loop-c-init : goal.loop-c-init
loop-c-init c =
    let a = c.args in
    turned (rest_turn a.d a.from a.to a.self.now.lows a.self.now.highs c.loop-k.k c.loop-k-test.true) c.loop-k.invariant

pub cut_across-requires : goal.cut_across-requires
cut_across-requires c =
    let a = c.args in
    let on = sym c.is_reached.ensures ∙ c.if-is_reached.true in
    let m = there a.d a.from a.to a.self.now.lows a.self.now.highs c.loop-k.k c.loop-c.c-index (omega arith) (omega arith) c.loop-c-test.true on in (
      rw (c.from_note.ensures, c.loop-c.auto.places, c.loop-k.auto.places) (c.requires.2 _ m),
      rw c.from_note.ensures (c.requires.1 _ m),
      λ e. absurd (true_not_false _ e refl),
    )

pub loop-c-preserved : goal.loop-c-preserved
loop-c-preserved c =
    let a = c.args in
    let l = c.loop-c in
    let note = get_or (pair a.d a.from a.to a.self.now.lows a.self.now.highs c.loop-k.k) l.c-index 0 in
    let here = turned (those_turn a.d a.from a.to a.self.now.lows a.self.now.highs c.loop-k.k l.c-index c.loop-c-test.true _) l.invariant in
    elim c.if-is_reached.branch [
      | then-is_reached w ↦ rw w.places-is
          (cut_note a.d a.from a.to note here (sym c.is_reached.ensures ∙ w.if-is_reached.true) _ w.from_note.ensures w.cut_across.ensures)
      | else-is_reached w ↦ rw w.places-is (pass_note a.d a.from a.to note here (sym c.is_reached.ensures ∙ w.if-is_reached.false))
    ]

pub loop-k-preserved : goal.loop-k-preserved
loop-k-preserved c =
    let a = c.args in
    let l = c.loop-c in
    let none : drop l.c-index (pair a.d a.from a.to a.self.now.lows a.self.now.highs c.loop-k.k) ≡ [] =
    drop_of_length-le _ {i = l.c-index} c.loop-c-test.false in
    rw none at l.invariant

pub returns : goal.returns
unfolding keep_all leaves_of
returns c =
    let a = c.args in
    let l = c.loop-k in
    let none = each_none l.k (a.to - l.k) (both a.d a.from a.to a.self.now.lows a.self.now.highs) (omega arith) in
    (turned none l.invariant).same
