-- `files::compare::is_file` meets its contract.
use Rattle.std.proofs.Common.{arith, ℕ, ◌≡◌, ◌+◌, ◌<◌, ◌∙◌, Bool, List, [], ◌∷◌, ◌++◌, append_assoc, eqb, refl, sym, ap, length, drop, get_or}
use mathlib.Core.List.{append-nil}
use Rattle.axis.specs.Range.{joined, agree}
use Rattle.mesh.specs.declared.Split.{Split}
use Rattle.maps.specs.Record.{no_split, plain}
use Rattle.files.specs.File.{head, entry, TableEntry, split_entry, value_entry, tail, file_in}
use Rattle.files.specs.Inner.{begins, no_entry, entries}
use Rattle.files.proofs.Words.{split_long, value_long}
use Rattle.files.proofs.Terms.{entries_length}
use Rattle.files.proofs.Filing.{Ready, opened_ready}
use Rattle.files.proofs.Comparing.{left_all, left_more, left_not, left_none, row_next, row_end}
use Rattle.files.proofs.compare.is_file.Invariants.{valued, behind}
use Rattle.files.proofs.compare.is_file.Goals.{After-drawn-splits, After-loop-split, After-loop-i}
use Rattle.files.proofs.compare.is_file.Goals as goal

is_ready : (c : After-drawn-splits) → Ready c.args.o.now.map c.args.o.now.table
is_ready c = opened_ready c.args.o.now c.drawn-splits.ensures.1

-- the parts of the file: its head, its splits from one on and what stands behind them, its values from one on and the end
abbrev first : After-drawn-splits → List ℕ
first c = head c.args.o.now.map.lines.w c.args.o.now.map.lines.h

abbrev splits_from : After-drawn-splits → ℕ → List ℕ
splits_from c i = behind c.args.old c.args.o.now c.drawn-splits.result.now i

abbrev values_from : After-drawn-splits → ℕ → List ℕ
values_from c j = valued c.args.old c.args.o.now j

parts : (c : After-drawn-splits) → first c ++ splits_from c 0 ≡ file_in c.args.old (plain c.args.o.now.map)
parts c =
    let splits = joined split_entry c.drawn-splits.result.now in
    let values = joined (value_entry c.args.old) (entries c.args.o.now) in
    ap (λ (l : List ℕ). first c ++ l) (sym (append_assoc splits values tail)) ∙ rw c.drawn-splits.ensures.0 ((is_ready c).is_file c.args.old)

-- what the whole comparison says, from what it says of the parts
told : (c : After-drawn-splits) {b : Bool} → agree eqb c.args.bytes.now (first c ++ splits_from c 0) ≡ b →
    b ≡ agree eqb c.args.bytes.now (file_in c.args.old (plain c.args.o.now.map))
told c e = sym e ∙ ap (agree eqb c.args.bytes.now) (parts c)

-- a turn of the first loop: the next split and what stands behind it
turn_split : (c : After-drawn-splits) (i : ℕ) → i < length c.drawn-splits.result.now →
    splits_from c i ≡ split_entry (get_or c.drawn-splits.result.now i no_split) ++ splits_from c (i + 1)
turn_split c i lt = row_next split_entry c.drawn-splits.result.now i _ no_split lt refl

-- a turn of the second loop: the next value and what stands behind it
turn_value : (c : After-drawn-splits) (j : ℕ) → j < c.args.o.now.table.count →
    values_from c j ≡ value_entry c.args.old (get_or (entries c.args.o.now) j no_entry) ++ values_from c (j + 1)
turn_value c j lt = row_next (value_entry c.args.old) _ j tail no_entry (omega (arith, entries_length (is_ready c).hand)) refl

-- what a comparison says of an entry, by what the entry is
drew : (s : Split) (zs : List ℕ) {numbers : List ℕ} {b d : Bool} → numbers ≡ s.direction ∷ s.position ∷ s.from ∷ s.to ∷ [] →
    b ≡ begins zs (entry 2 numbers) → b ≡ d → begins zs (split_entry s) ≡ d
drew s zs is e t = ap (λ (ns : List ℕ). begins zs (entry 2 ns)) (sym is) ∙ sym e ∙ t

stood : (old : Bool) (zs : List ℕ) {e f : TableEntry} {b d : Bool} → e ≡ f → b ≡ begins zs (value_entry old e) → b ≡ d → begins zs (value_entry old f) ≡ d
stood old zs is q t = ap (λ (x : TableEntry). begins zs (value_entry old x)) (sym is) ∙ sym q ∙ t

pub returns-then-not-has_entry : goal.returns-then-not-has_entry
returns-then-not-has_entry c =
    let s = (goal.at.returns-then-not-has_entry c).After-drawn-splits in
    told s (left_not (first s) (splits_from s 0) (left_all c.args.bytes.now 0 _ (omega arith)) refl (sym c.has_entry.ensures ∙ c.if-not-has_entry.true))

pub loop-split-init : goal.loop-split-init
loop-split-init c =
    let s = (goal.at.loop-split-init c).After-drawn-splits in
    left_more (first s) (splits_from s 0) (left_all c.args.bytes.now 0 _ (omega arith)) refl (sym c.has_entry.ensures ∙ c.if-not-has_entry.false) refl

pub has_entry-requires-in-loop-split : goal.has_entry-requires-in-loop-split
has_entry-requires-in-loop-split c = (c.loop-split.invariant.within, omega (arith, ap (λ (ns : List ℕ). length ns) c.numbers.ensures))

pub returns-then-not-has_entry-2 : goal.returns-then-not-has_entry-2
returns-then-not-has_entry-2 c =
    let s = (goal.at.returns-then-not-has_entry-2 c).After-drawn-splits in
    told s
    (left_not (split_entry (get_or c.drawn-splits.result.now c.loop-split.split-index no_split)) (splits_from s (c.loop-split.split-index + 1))
    c.loop-split.invariant (turn_split s c.loop-split.split-index c.loop-split-test.true)
    (drew _ _ c.numbers.ensures c.has_entry-in-loop-split.ensures c.if-not-has_entry-2.true))

pub loop-split-preserved : goal.loop-split-preserved
loop-split-preserved c =
    let s = (goal.at.loop-split-preserved c).After-drawn-splits in
    let split = get_or c.drawn-splits.result.now c.loop-split.split-index no_split in
    left_more (split_entry split) (splits_from s (c.loop-split.split-index + 1)) c.loop-split.invariant
    (turn_split s c.loop-split.split-index c.loop-split-test.true)
    (drew _ _ c.numbers.ensures c.has_entry-in-loop-split.ensures c.if-not-has_entry-2.false) (split_long split)

pub loop-i-init : goal.loop-i-init
loop-i-init c = left_all _ _ _ c.loop-split.invariant.within

pub stands-requires : goal.stands-requires
stands-requires c = c.loop-i.invariant.within

-- the comparison, where the splits agree
split_off : (c : After-loop-split) → let s = (goal.at.After-loop-split c).After-drawn-splits in
    agree eqb c.args.bytes.now (first s ++ splits_from s 0) ≡ agree eqb (drop c.loop-split.at c.args.bytes.now) (values_from s 0)
split_off c =
    c.loop-split.invariant.decides ∙
    ap (agree eqb (drop c.loop-split.at c.args.bytes.now)) (row_end split_entry c.drawn-splits.result.now c.loop-split.split-index _ c.loop-split-test.false)

pub returns-then-not-stands : goal.returns-then-not-stands
returns-then-not-stands c =
    let p = goal.at.returns-then-not-stands c in
    told p.After-drawn-splits
    (split_off p.After-loop-split ∙
    left_not (value_entry c.args.old (get_or (entries c.args.o.now) c.loop-i.i no_entry)) (values_from p.After-drawn-splits (c.loop-i.i + 1)) c.loop-i.invariant
    (turn_value p.After-drawn-splits c.loop-i.i c.loop-i-test.true) (stood c.args.old _ c.at.ensures c.stands.ensures c.if-not-stands.true))

pub loop-i-preserved : goal.loop-i-preserved
loop-i-preserved c =
    let s = (goal.at.loop-i-preserved c).After-drawn-splits in
    let here = get_or (entries c.args.o.now) c.loop-i.i no_entry in
    left_more (value_entry c.args.old here) (values_from s (c.loop-i.i + 1)) c.loop-i.invariant (turn_value s c.loop-i.i c.loop-i-test.true)
    (stood c.args.old _ c.at.ensures c.stands.ensures c.if-not-stands.false) (value_long c.args.old here ∙ sym c.value_size-at.ensures)

-- after the values only the end is left
ended : (c : After-loop-i) → values_from (goal.at.After-loop-i c).After-drawn-splits c.loop-i.i ≡ tail ++ []
ended c =
    let s = (goal.at.After-loop-i c).After-drawn-splits in
    row_end (value_entry c.args.old) _ c.loop-i.i tail (omega (arith, entries_length (is_ready s).hand)) ∙ sym (append-nil tail)

pub has_entry-requires-2 : goal.has_entry-requires-2
has_entry-requires-2 c = (c.loop-i.invariant.within, omega arith)

pub returns-then-has_entry : goal.returns-then-has_entry
returns-then-has_entry c =
    let p = goal.at.returns-then-has_entry c in
    let all = left_more tail [] c.loop-i.invariant (ended p.After-loop-i) (sym c.has_entry-2.ensures ∙ c.if-has_entry.true) refl in
    told p.After-drawn-splits (split_off p.After-loop-split ∙ sym (left_none all))

pub returns-else-has_entry : goal.returns-else-has_entry
returns-else-has_entry c =
    let p = goal.at.returns-else-has_entry c in
    c.if-has_entry.false ∙
    told p.After-drawn-splits
    (split_off p.After-loop-split ∙
    left_not tail [] c.loop-i.invariant (ended p.After-loop-i) (sym c.has_entry-2.ensures ∙ c.if-has_entry.false))
