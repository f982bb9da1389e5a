-- `files::listing::Text::table` meets its contract.
use Rattle.std.proofs.Common.{arith, ◌≡◌, List, ℕ, length}
use Rattle.axis.specs.Range.{joined}
use Rattle.files.specs.Inner.{no_entry, entries, Room}
use Rattle.files.specs.Listing.{number_line, line}
use Rattle.files.proofs.Terms.{entries_length}
use Rattle.files.proofs.Filing.{opened_ready}
use Rattle.files.proofs.Texts.{text_first, text_next, text_then}
use Rattle.files.proofs.TableLines.{text_rows_none, text_rows_room, text_rows_more, text_rows_done}
use Rattle.files.proofs.listing.Text.table.Goals.{Start, After-number_line}
use Rattle.files.proofs.listing.Text.table.Goals as goal

counted : (c : Start) → length (entries c.args.o.now) ≡ c.args.o.now.table.count
counted c = entries_length (opened_ready c.args.o.now c.args.o.now.held.full).hand

abbrev lines : Start → List ℕ
lines c = joined line (entries c.args.o.now)

-- there is room for all lines after the first one
room : (c : After-number_line) → Room c.number_line.new.self (lines (goal.at.After-number_line c).Start)
room c = text_next c.args.self.now (number_line c.args.o.now.table.count) (lines (goal.at.After-number_line c).Start) c.requires c.number_line.ensures

pub number_line-requires : goal.number_line-requires
number_line-requires c =
    text_first c.args.self.now (number_line c.args.o.now.table.count) (lines (goal.at.number_line-requires c).Start) c.requires

pub loop-i-init : goal.loop-i-init
loop-i-init c = text_rows_none line (entries c.args.o.now) _

pub line-requires : goal.line-requires
line-requires c =
    let p = goal.at.line-requires c in
    rw c.at.ensures (text_rows_room line _ _ (room p.After-number_line) c.loop-i.invariant no_entry (rw (counted p.Start) c.loop-i-test.true))

pub loop-i-preserved : goal.loop-i-preserved
loop-i-preserved c =
    let p = goal.at.loop-i-preserved c in
    text_rows_more line _ _ (room p.After-number_line) c.loop-i.invariant no_entry (rw (counted p.Start) c.loop-i-test.true) (rw c.at.ensures at c.line.ensures)

pub returns : goal.returns
returns c =
    let s = (goal.at.returns c).Start in
    text_then c.args.self.now (number_line c.args.o.now.table.count) (lines s) c.requires c.number_line.ensures
    (text_rows_done line _ _ c.loop-i.invariant (omega (arith, counted s)))
