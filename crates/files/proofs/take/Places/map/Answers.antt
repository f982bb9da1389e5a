-- `files::take::Places::map` meets its contract: each field of the record has the numbers at its places.
use Rattle.std.proofs.Common.{arith, rules, ◌≡◌, ◌∙◌}
use Rattle.maps.specs.Record.{no_split}
use Rattle.files.proofs.Taking.{count_few, filled_none, filled_more, filled_all, told_map}
use Rattle.files.proofs.take.Places.map.Goals.{then-self, else-self}
use Rattle.files.proofs.take.Places.map.Goals as goal

pub loop-i-init : goal.loop-i-init
loop-i-init c =
    let e = c.default-splits.ensures in
    let none : c.default-splits.result ≡ no_split = λ i. record { direction = e.0 i; position = e.1.0 i; from = e.1.1.0 i; to = e.1.1.1 i } in
    rw none (filled_none _ no_split 60)

pub offset_bounds-splits-i : goal.offset_bounds-splits-i
offset_bounds-splits-i c = omega (arith, count_few c.args.self.now.bytes.now 8 60, c.args.self.now.stand.are_splits)

pub bounds-splits-i : goal.bounds-splits-i
bounds-splits-i c = omega (arith, count_few c.args.self.now.bytes.now 8 60, c.args.self.now.stand.are_splits)

pub loop-i-preserved : goal.loop-i-preserved
loop-i-preserved c =
    filled_more _ no_split 60 c.loop-i.invariant (omega (arith, count_few c.args.self.now.bytes.now 8 60, c.args.self.now.stand.are_splits)) _
    c.split_at.ensures

pub loop-j-init : goal.loop-j-init
loop-j-init c = record { values = filled_none _ 0 1024; marks = filled_none _ 0 1024 }

pub loop-j-preserved : goal.loop-j-preserved
loop-j-preserved c =
    let few = c.args.self.now.stand.few in
    record {
      values = filled_more _ 0 1024 c.loop-j.invariant.values (omega arith) _ c.word_at.ensures;
      marks = elim c.if-self.branch [
        | then-self w ↦ rw w.marks-is (filled_more _ 0 1024 c.loop-j.invariant.marks (omega arith) 0 (search rules))
        | else-self w ↦ rw w.marks-is (filled_more _ 0 1024 c.loop-j.invariant.marks (omega arith) _ (search rules))
      ];
    }

pub returns : goal.returns
returns c =
    let s = c.args.self.now.stand in
    let places = c.args.self.now.values in
    told_map c.args.self.now.bytes.now _ _ c.args.self.now.splits places c.value_size-size.result c.args.self.now.old _ _ _
    (c.from.ensures ∙ c.word_at-2.ensures) (c.from-2.ensures ∙ c.word_at-3.ensures) s.are_splits s.is_form c.value_size-size.ensures
    (rw c.value_size-size.ensures s.are_values) (filled_all _ no_split 60 c.loop-i.invariant c.args.self.now.splits (omega arith))
    (filled_all _ 0 1024 c.loop-j.invariant.values places (omega arith)) (filled_all _ 0 1024 c.loop-j.invariant.marks places (omega arith))
