-- `maps::opened::Opened::carry` meets its contract.
use Rattle.std.proofs.Common.{arith, ℕ, List, ◌∷◌, ◌+◌, ◌-◌, ◌≤◌, ◌<◌, ◌≡◌, refl, sym, ap, subst, ◌∙◌, length, get_or, set, take}
use mathlib.Core.List.{Memᴰ}
use lib.ListN.{drop}
use lib.Seq.{get_or-take}
use Rattle.axis.proofs.Tests.{all_at}
use Rattle.axis.proofs.Members.{entry}
use Rattle.axis.specs.Fraction.{total}
use Rattle.axis.specs.Gap.{corner}
use Rattle.mesh.specs.declared.Blend.{Blend}
use Rattle.mesh.specs.Blends.{place}
use Rattle.mesh.specs.Sound.{proper, none, over_square, blends_of}
use Rattle.mesh.proofs.Cuts.{proper_facts}
use Rattle.maps.specs.declared.opened.Opened.{Opened}
use Rattle.maps.specs.declared.values.Entry.{Entry}
use Rattle.maps.specs.Plain.{blends}
use Rattle.maps.specs.Rounding.{rounded}
use Rattle.maps.specs.Values.{kept_or, carried, kept_mark, reading_at}
use Rattle.maps.specs.Inner.{InTable, AtPoint, Grown, entries_over, portions, carried_arrays}
use Rattle.maps.specs.Holds.{Valued}
use Rattle.maps.proofs.Changing.{open_map, few, in_table}
use Rattle.maps.proofs.Readings.{reading_most}
use Rattle.maps.proofs.OverSquare.{all_listed}
use Rattle.maps.proofs.Adding.{four_read}
use Rattle.maps.proofs.OldTable.{old_valued, old_long, count_blends, few_blends, blends_of_lem, values_of, old_table, old_point, rest_turns, rest_ends, filled, fill_more, fill_zero, fill_all}
use Rattle.maps.proofs.SideBySide.{walking_none, walking_both, walking_new, none_old, kept_same, kept_none}
use Rattle.maps.proofs.opened.Opened.carry.Goals as goal
use Rattle.maps.proofs.opened.Opened.carry.Goals.{In-loop-i, then-j-old+then-place, else-j-old, else-j-old-via-then-j-old+else-place, else-j-old-via-else-j-old}

-- the old table, and its values, which fit their type
old_of : (o : Opened) → InTable o.map.lines.w o.map.lines.h o.table o.map.values
old_of o = in_table (open_map o)

valued : (o : Opened) → Valued (old_of o).of
valued o = old_valued (old_of o) o.held.full.values o.held.small

-- A turn's new blend has its anchor in the domain.
record Inside (w h : ℕ) (B : Blend) : Type 0 where
  across_low : 1 ≤ B.across.m
  across : B.across.m - 1 ≤ w
  up_low : 1 ≤ B.up.m
  up : B.up.m - 1 ≤ h
  up_most : B.up.m < 131

abbrev next : In-loop-i → Blend
next c = get_or c.args.new.now c.loop-i.i none

abbrev next_old : In-loop-i → Blend
next_old c = get_or c.blends-old.result.now c.loop-i.j none

inside : (c : In-loop-i) → Inside c.args.self.now.map.lines.w c.args.self.now.map.lines.h (next c)
inside c =
    let L = c.args.self.now.map.lines in
    let new = c.args.new.now in
    let ok = all_at (proper L.w L.h) new c.requires.1 (next c) (entry new c.loop-i.i none c.loop-i-test.true) in
    let p = proper_facts L.w L.h (next c) ok in
    let across = p.across in
    let up = p.up in
    let sides = (old_of c.args.self.now).sides in
    record { across_low = omega arith; across = omega arith; up_low = omega arith; up = omega arith; up_most = omega arith }

turn : (c : In-loop-i) → drop c.loop-i.i c.args.new.now ≡ next c ∷ drop (c.loop-i.i + 1) c.args.new.now
turn c = rest_turns c.args.new.now c.loop-i.i c.loop-i-test.true

grown : (c : In-loop-i) → Grown c.blends-old.result.now c.args.new.now
grown c = subst (λ (bs : List Blend). Grown bs c.args.new.now) (sym c.blends-old.ensures) c.requires.2

-- as many old blends as the table counts, which is within its arrays
before : (c : In-loop-i) → (length c.blends-old.result.now ≡ c.args.self.now.table.count) × (length c.blends-old.result.now ≤ 1024)
before c =
    let old = old_of c.args.self.now in (ap length c.blends-old.ensures ∙ count_blends old, rw c.blends-old.ensures (few_blends old))

pub blends-old-requires : goal.blends-old-requires
blends-old-requires c = few (open_map c.args.self.now)

pub loop-i-init : goal.loop-i-init
loop-i-init c =
    (omega arith, refl, refl, walking_none _ _ (subst (λ (bs : List Blend). Grown bs c.args.new.now) (sym c.blends-old.ensures) c.requires.2))

-- The next new blend is at none of the old that are left: not at the first of them, or none is left.
apart : (old : List Blend) (j : ℕ) (x : Blend) → j < length old → (place (get_or old j none) ≡ place x → ⊥) → (y : Blend) (olds : List Blend) →
    drop j old ≡ y ∷ olds → place y ≡ place x → ⊥
apart old j x lt other y olds e same =
    let q = ap (λ (xs : List Blend). get_or xs 0 none) (sym (rest_turns old j lt) ∙ e) in other (ap place q ∙ same)

ended : (old : List Blend) (j : ℕ) (x : Blend) → length old ≤ j → (y : Blend) (olds : List Blend) → drop j old ≡ y ∷ olds → place y ≡ place x → ⊥
ended old j x le y olds e same = let q = ap length (sym (rest_ends old j le) ∙ e) in omega arith

-- The point of the next blend's anchor, and the reading there by the four old blends over its square.
module _ (o : Opened) {B : Blend} (k : Inside o.map.lines.w o.map.lines.h B) where
  point : AtPoint o.map.lines.w o.map.lines.h o.table (B.across.m - 1) (B.up.m - 1)
  point = old_point (old_of o) _ _ k.across k.up

  taken : {old : List Blend} → old ≡ blends_of o.table → {m n a b : ℕ} → m ≡ B.across.m → n ≡ B.up.m →
      a ≡ corner o.map.lines.w (m - 1) + 1 → b ≡ corner o.map.lines.h (n - 1) + 1 →
      (four : List Entry) → four ≡ entries_over (over_square a b) old 0 →
      rounded (total (portions a b m n o.map.values four)) ≡ reading_at old (take (length old) o.map.values) (B.across.m - 1) (B.up.m - 1)
  taken is {m} {n} {a} {b} is_m is_n is_a is_b four e =
      let x : m ≡ B.across.m - 1 + 1 = omega (arith, k.across_low) in
      let y : n ≡ B.up.m - 1 + 1 = omega (arith, k.up_low) in
      rw (is, count_blends (old_of o), x, y)
      (four_read o.map.lines.w o.map.lines.h o.table o.map.values _ _ point (old_long (old_of o)) o.held.full.values a b
      (rw is_m at is_a) (rw is_n at is_b) four
      (rw is at e))

pub bounds-values-j : goal.bounds-values-j
bounds-values-j c = omega (arith, c.if-j-old.true, (before (goal.at.bounds-values-j c).In-loop-i).1)

pub bounds-marks-j : goal.bounds-marks-j
bounds-marks-j c = omega (arith, c.if-j-old.true, (before (goal.at.bounds-marks-j c).In-loop-i).1)

pub overflow_sub-m : goal.overflow_sub-m
overflow_sub-m c = let k = inside (goal.at.overflow_sub-m c).In-loop-i in omega (arith, c.from-m.ensures)

pub low_knot-a-requires : goal.low_knot-a-requires
low_knot-a-requires c =
    let k = inside (goal.at.low_knot-a-requires c).In-loop-i in
    let sides = (old_of c.args.self.now).sides in
    (sides.0, sides.1, rw c.from-m.ensures k.across)

pub overflow_sub-n : goal.overflow_sub-n
overflow_sub-n c = let k = inside (goal.at.overflow_sub-n c).In-loop-i in omega (arith, c.from-n.ensures)

pub low_knot-b-requires : goal.low_knot-b-requires
low_knot-b-requires c =
    let k = inside (goal.at.low_knot-b-requires c).In-loop-i in
    let sides = (old_of c.args.self.now).sides in
    (sides.2, sides.3, rw c.from-n.ensures k.up)

pub four_over-four-requires : goal.four_over-four-requires
four_over-four-requires c =
    let at = goal.at.four_over-four-requires c in
    let p = point c.args.self.now (inside at.In-loop-i) in
    ((before at.In-loop-i).1, rw (c.blends-old.ensures, c.low_knot-a.ensures.0, c.low_knot-b.ensures.0, c.from-m.ensures, c.from-n.ensures) p.2)

pub reading_over-requires : goal.reading_over-requires
reading_over-requires c =
    let k = inside (goal.at.reading_over-requires c).In-loop-i in
    let m = c.from-m.ensures in
    let n = c.from-n.ensures in (
      c.args.self.now.held.full.values,
      all_listed _ _ _ _ _ (point c.args.self.now k) _ _ c.four_over-four.result (rw c.blends-old.ensures at c.four_over-four.ensures),
      omega arith,
      omega arith,
      omega arith,
      omega arith,
    )

pub overflow_cast-carried : goal.overflow_cast-carried
overflow_cast-carried c =
    let o = c.args.self.now in
    let old = old_of o in
    let t = (goal.at.overflow_cast-carried c).In-loop-i in
    let k = inside t in
    let x = next t in
    let u : x.across.m - 1 ≤ old.of.lines.w = rw old.across k.across in
    let v : x.up.m - 1 ≤ old.of.lines.h = rw old.up k.up in
    let read = c.reading_over.ensures ∙
    taken o k c.blends-old.ensures c.from-m.ensures c.from-n.ensures c.low_knot-a.ensures.0 c.low_knot-b.ensures.0 c.four_over-four.result
    c.four_over-four.ensures in
    let is : c.reading_over.result ≡ reading_at (blends old.of) old.of.values (x.across.m - 1) (x.up.m - 1) =
    rw (c.blends-old.ensures, count_blends old, blends_of_lem old, values_of old) at read in
    omega (arith, is, reading_most old.of (valued o) (x.across.m - 1) (x.up.m - 1) u v)

-- the number of the next blend joins those in front
fill : (c : In-loop-i) (f : Blend → ℕ) (xs : List ℕ) (v : ℕ) → let new = c.args.new.now in
    xs ≡ filled f new c.loop-i.i → v ≡ f (next c) → set xs c.loop-i.i v ≡ filled f new (c.loop-i.i + 1)
fill c f xs v is e = rw is (fill_more f c.args.new.now c.loop-i.i none c.loop-i-test.true c.requires.0 v e)

pub loop-i-preserved : goal.loop-i-preserved
unfolding carried kept_mark
loop-i-preserved c =
    let at = goal.at.loop-i-preserved c in
    let t = at.In-loop-i in
    let k = inside t in
    let o = c.args.self.now in
    let L = o.map.lines in
    let new = c.args.new.now in
    let old = c.blends-old.result.now in
    let l = c.loop-i in
    let g = grown t in
    let n = length old in
    let vs = take n o.map.values in
    let ms = take n o.map.marks in
    elim c.if-j-old.branch [
      | then-j-old+then-place w ↦
          let lt = w.if-j-old.true in
          let same_place = sym w.place.ensures ∙ w.if-place.true ∙ w.place-then-j-old.ensures in
          let old_turn = rest_turns old l.j lt in
          let old_ok = all_at (proper L.w L.h) (blends_of o.table) (old_table (old_of o)).0 (next_old t)
          (subst (λ (bs : List Blend). Memᴰ (next_old t) bs) c.blends-old.ensures (entry old l.j none lt)) in
          let old_up = (proper_facts L.w L.h (next_old t) old_ok).up in
          let sides = (old_of o).sides in
          let same : (xs : List ℕ) (new : ℕ) → kept_or new old xs (next t) ≡ get_or xs l.j 0 =
          λ xs new. kept_same old g.rising xs new (next t) k.up_most l.j (next_old t) _ lt old_turn same_place (omega arith) in (
            omega (arith, w.j-is, lt),
            w.carried-is ∙ fill t (carried old vs) _ _ l.invariant.1 (sym (get_or-take n o.map.values l.j 0 lt) ∙ sym (same vs _)),
            w.kept-is ∙ fill t (kept_mark old ms) _ _ l.invariant.2 (sym (get_or-take n o.map.marks l.j 0 lt) ∙ sym (same ms 0)),
            rw w.j-is (walking_both _ _ g l.invariant.3 (turn t) old_turn same_place),
          )
      | else-j-old w ↦
          let other : (y : Blend) (olds : List Blend) → drop l.j old ≡ y ∷ olds → place y ≡ place (next t) → ⊥ =
          elim w.else-j-old.branch [
            | else-j-old-via-then-j-old+else-place v ↦
                apart old l.j (next t) v.if-j-old.true (λ e. v.if-place.false (v.place.ensures ∙ e ∙ sym v.place-then-j-old.ensures))
            | else-j-old-via-else-j-old v ↦ ended old l.j (next t) v.if-j-old.false
          ] in
          let reads = w.reading_over.ensures ∙
          taken o k c.blends-old.ensures w.from-m.ensures w.from-n.ensures w.low_knot-a.ensures.0 w.low_knot-b.ensures.0
          w.four_over-four.result w.four_over-four.ensures in
          let none_there = none_old _ _ g l.invariant.3 (turn t) other in
          let new_one : (xs : List ℕ) (v : ℕ) → kept_or v old xs (next t) ≡ v = λ xs v. kept_none old g.rising xs v (next t) k.up_most none_there in (
            rw w.j-is l.invariant.0,
            w.carried-is ∙ fill t (carried old vs) _ _ l.invariant.1 (reads ∙ sym (new_one vs _)),
            w.kept-is ∙ l.invariant.2 ∙ fill_zero (kept_mark old ms) new l.i none c.loop-i-test.true c.requires.0 (new_one ms 0),
            rw w.j-is (walking_new _ _ g l.invariant.3 (turn t) other),
          )
    ]

pub returns : goal.returns
unfolding carried_arrays
returns c =
    let l = c.loop-i in
    let new = c.args.new.now in
    let end : l.i ≡ length new = omega (arith, c.loop-i-test.false) in
    let values = l.invariant.1 ∙ fill_all _ new l.i end in
    let marks = l.invariant.2 ∙ fill_all _ new l.i end in
    let o = c.args.self.now in
    let old = c.blends-old.result.now in
    let n = length old in
    let whole : record { values = l.carried; marks = l.kept } ≡ carried_arrays old (take n o.map.values) (take n o.map.marks) new =
    λ k. record { values = values k; marks = marks k } in
    rw (c.blends-old.ensures, count_blends (old_of o)) at whole
