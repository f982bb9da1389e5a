-- `files::write_opened` meets its contract: a buffer that is too short is refused, else the file is put.
use Rattle.std.proofs.Common.{arith, ◌≡◌, ◌+◌, ◌*◌, ◌≤◌, ◌∙◌, false, List, sym, ap, length, take}
use lib.Seq.{length-take-le}
use Rattle.mesh.specs.declared.Split.{Split}
use Rattle.maps.specs.Record.{no_split}
use Rattle.files.specs.File.{put, split_entry, TableEntry, marked_entry}
use Rattle.files.specs.Inner.{no_entry, entries}
use Rattle.files.proofs.Words.{split_long, value_long}
use Rattle.files.proofs.Terms.{entries_length, filed_put}
use Rattle.files.proofs.Putting.{some_none, some_more, some_next, some_done}
use Rattle.files.proofs.Filing.{Ready, opened_ready, write_short, write_whole}
use Rattle.files.proofs.write_opened.Goals.{After-drawn-splits, After-put_entry, After-loop-i}
use Rattle.files.proofs.write_opened.Goals as goal

is_ready : (c : After-drawn-splits) → Ready c.args.o.now.map c.args.o.now.table
is_ready c = opened_ready c.args.o.now c.drawn-splits.ensures.1

long : (e : TableEntry) → length (marked_entry e) ≡ 12
long = value_long false

abbrev splits : After-drawn-splits → List Split
splits c = take c.args.o.now.map.lines.count c.args.o.now.map.lines.splits

split_count : (c : After-drawn-splits) → length (splits c) ≡ c.args.o.now.map.lines.count
split_count c = length-take-le c.args.o.now.map.lines.count c.args.o.now.map.lines.splits (omega (arith, (is_ready c).few, c.drawn-splits.ensures.1.splits))

value_count : (c : After-drawn-splits) → length (entries c.args.o.now) ≡ c.args.o.now.table.count
value_count c = entries_length (is_ready c).hand

-- so many splits
counted : (c : After-drawn-splits) → length c.drawn-splits.result.now ≡ c.args.o.now.map.lines.count
counted c = ap (λ (xs : List Split). length xs) c.drawn-splits.ensures.0 ∙ split_count c

-- there is room for all splits, and then for all values
split_room : (c : After-put_entry) → 8 + 12 * length c.drawn-splits.result.now ≤ length c.put_entry.new.bytes
split_room c = omega arith

value_room : (c : After-loop-i) → 8 + 12 * length c.drawn-splits.result.now + 12 * length (entries c.args.o.now) ≤ length c.loop-i.buffer
value_room c = omega (arith, value_count (goal.at.After-loop-i c).After-drawn-splits)

pub overflow_mul-length : goal.overflow_mul-length
overflow_mul-length c = let s = (goal.at.overflow_mul-length c).After-drawn-splits in omega (arith, counted s, (is_ready s).few)

pub overflow_add-length : goal.overflow_add-length
overflow_add-length c = let s = (goal.at.overflow_add-length c).After-drawn-splits in omega (arith, counted s, (is_ready s).few)

pub overflow_mul-length-2 : goal.overflow_mul-length-2
overflow_mul-length-2 c = omega (arith, (is_ready (goal.at.overflow_mul-length-2 c).After-drawn-splits).hand.ok.few)

pub overflow_add-length-2 : goal.overflow_add-length-2
overflow_add-length-2 c =
    let s = (goal.at.overflow_add-length-2 c).After-drawn-splits in omega (arith, counted s, (is_ready s).few, (is_ready s).hand.ok.few)

pub returns-then-buffer-length : goal.returns-then-buffer-length
returns-then-buffer-length c =
    let s = (goal.at.returns-then-buffer-length c).After-drawn-splits in
    let r = is_ready s in
    write_short _ _ r.is_good (rw (r.size false, ← counted s) c.if-buffer-length.true)

pub loop-i-init : goal.loop-i-init
loop-i-init c = some_none split_entry 12 _ _ _

pub loop-i-preserved : goal.loop-i-preserved
loop-i-preserved c =
    let p = goal.at.loop-i-preserved c in
    some_more split_entry 12 _ _ 8 split_long (split_room p.After-put_entry) c.loop-i.invariant no_split _ c.loop-i-test.true
    (rw c.numbers.ensures at c.put_entry-in-loop-i.ensures)

pub loop-j-init : goal.loop-j-init
loop-j-init c = some_none marked_entry 12 _ _ _

pub loop-j-preserved : goal.loop-j-preserved
loop-j-preserved c =
    let p = goal.at.loop-j-preserved c in
    some_next marked_entry 12 _ _ _ long (value_room p.After-loop-i) c.loop-j.invariant no_entry _ (omega (arith, value_count p.After-drawn-splits))
    (sym c.at.ensures) c.put.ensures

pub returns : goal.returns
returns c =
    let p = goal.at.returns c in
    let o = c.args.o.now in
    let r = is_ready p.After-drawn-splits in
    let n = counted p.After-drawn-splits in
    let w = write_whole o.map c.args.buffer.now r.is_good (rw (r.size false, ← n) c.if-buffer-length.false) in
    let drawn = some_done split_entry 12 _ _ 8 split_long (split_room p.After-put_entry) c.loop-i.invariant c.loop-i-test.false in
    let valued = some_done marked_entry 12 _ _ _ long (value_room p.After-loop-i) c.loop-j.invariant (omega (arith, value_count p.After-drawn-splits)) in
    let file =
    filed_put o.map o.table r.hand (split_count p.After-drawn-splits) _ (rw n at c.if-buffer-length.false) c.put_entry.ensures
    (rw c.drawn-splits.ensures.0 at drawn) (rw n at valued) (rw n at c.put_entry-2.ensures) in
    (rw (n, ← r.size false) w.0, file ∙ ap (put c.args.buffer.now 0) (r.is_file false) ∙ w.1)
