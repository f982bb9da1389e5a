-- `maps::opened::Opened::same` meets its contract: each part is what its test says.
use Rattle.std.proofs.Common.{◌≡◌, ◌∙◌, Bool, refl, sym, ap₂, eqb, ◌&&◌, take}
use mathlib.Core.Bool.{and_assoc}
use borrow.Author.Tests.{eq-eqb, ne_eqb}
use Rattle.axis.specs.Range.{agree}
use Rattle.axis.proofs.Tests.{and_both}
use Rattle.mesh.specs.declared.Blend.{Blend}
use Rattle.mesh.specs.Blends.{same}
use Rattle.mesh.specs.Sound.{blends_of}
use Rattle.mesh.specs.contracts.BlendPartialEq.TheImpl.{eq-value}
use Rattle.maps.specs.Sameness.{same_plain}
use Rattle.maps.specs.declared.Map.{Map}
use Rattle.maps.specs.Plain.{blends}
use Rattle.maps.specs.Record.{plain}
use Rattle.maps.proofs.Changing.{open_map, few, live_blends, live_values}
use Rattle.maps.proofs.SameMaps.{both_good, same_count, equal_agree}
use Rattle.maps.proofs.opened.Opened.same.Goals as goal
use Rattle.maps.proofs.opened.Opened.same.Goals.{Joined-self-other, then-self-other, else-self-other, then-self-other-2, else-self-other-2, Joined-self-other-2}

pub blends-requires : goal.blends-requires
blends-requires c = few (open_map c.args.self.now)

pub blends-requires-then-self-other-2 : goal.blends-requires-then-self-other-2
blends-requires-then-self-other-2 c = few (open_map c.args.other.now)

pub shared_ref_as_front-eq : goal.shared_ref_as_front-eq
shared_ref_as_front-eq c = few (open_map c.args.self.now)

-- the sides,
sides : (c : Joined-self-other) → let m = c.args.self.now.map.lines in let n = c.args.other.now.map.lines in
    c.if-self-other.value ≡ (eqb m.w n.w && eqb m.h n.h)
sides c =
    elim c.if-self-other.branch [
      | then-self-other w ↦ w.value-is ∙ rw (eq-eqb _ _ w.if-self-other.true)
      | else-self-other w ↦ w.value-is ∙ rw (ne_eqb _ _ w.if-self-other.false)
    ]

-- and the live blends with them, whose `==` compares field by field
by_fields : (A B : Blend) → eq-value.it A B ≡ same A B
by_fields A B = ap₂ ◌&&◌ (sym (and_assoc (eqb A.across.l B.across.l) _ _)) (sym (and_assoc (eqb A.up.l B.up.l) _ _))

with_blends : (c : Joined-self-other-2) →
    c.if-self-other-2.value ≡ (c.if-self-other.value && agree same (blends_of c.args.self.now.table) (blends_of c.args.other.now.table))
with_blends c =
    elim c.if-self-other-2.branch [
      | then-self-other-2 w ↦
          let e = equal_agree (eq-value).it same by_fields w.blends.result.now w.blends-then-self-other-2.result.now in
          rw w.if-self-other-2.true (w.value-is ∙ w.eq.ensures ∙ e ∙ ap₂ (agree same) w.blends.ensures w.blends-then-self-other-2.ensures)
      | else-self-other-2 w ↦ w.value-is ∙ w.if-self-other-2.false ∙ rw w.if-self-other-2.false
    ]

-- that is, of what the two records hold
told : (c : Joined-self-other-2) → let m = c.args.self.now.map in let n = c.args.other.now.map in
    c.if-self-other.value ≡ (eqb m.lines.w n.lines.w && eqb m.lines.h n.lines.h) →
    c.if-self-other-2.value ≡ (eqb m.lines.w n.lines.w && eqb m.lines.h n.lines.h && agree same (blends (plain m)) (blends (plain n)))
told c e = rw (e, live_blends (open_map c.args.self.now), live_blends (open_map c.args.other.now)) at (with_blends c)

same_is : (m n : Map) {blends_same values_same told : Bool} →
    blends_same ≡ (eqb m.lines.w n.lines.w && eqb m.lines.h n.lines.h && agree same (blends (plain m)) (blends (plain n))) →
    values_same ≡ agree eqb (plain m).values (plain n).values → told ≡ (blends_same && values_same) → told ≡ same_plain (plain m) (plain n)
unfolding same_plain plain
same_is m n e f g = g ∙ ap₂ ◌&&◌ e f

pub returns-then-eq : goal.returns-then-eq
returns-then-eq c =
    let at = goal.at.returns-then-eq c in
    let p = open_map c.args.self.now in
    let q = open_map c.args.other.now in
    let whole = told at.Joined-self-other-2 (sides at.Joined-self-other) in
    let n = same_count p q (rw (live_blends p, live_blends q) (and_both _ _ (sym whole ∙ c.if-eq.true)).1) in
    let k = c.args.self.now.table.count in
    let values = c.eq-then-eq.ensures ∙
    equal_agree eqb eqb (λ x y. refl) (take k c.args.self.now.map.values) (take k c.args.other.now.map.values) ∙ ap₂ (agree eqb) (live_values p) n in
    both_good _ _ p.is_good q.is_good _ (same_is _ _ whole values (rw c.if-eq.true refl))

pub returns-else-eq : goal.returns-else-eq
returns-else-eq c =
    let at = goal.at.returns-else-eq c in
    let p = open_map c.args.self.now in
    let q = open_map c.args.other.now in
    both_good _ _ p.is_good q.is_good _ (same_is _ _ (told at.Joined-self-other-2 (sides at.Joined-self-other)) refl (rw c.if-eq.false refl))
