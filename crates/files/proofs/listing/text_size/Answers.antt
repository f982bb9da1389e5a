-- `files::listing::text_size` meets its contract.
use Rattle.std.proofs.Common.{arith, ◌≡◌, ◌+◌, ◌∙◌, sym, length}
use native.Mathlib.Nat.{zero-add}
use lib.ListN.{length-append}
use Rattle.axis.specs.Range.{joined}
use Rattle.files.specs.Inner.{no_entry, entries, text_in}
use Rattle.files.specs.Listing.{number_line, line}
use Rattle.files.proofs.Terms.{InHand, entries_length}
use Rattle.files.proofs.Filing.{opened_ready}
use Rattle.files.proofs.TableLines.{number_line_short, Sized, sized_more, sized_most, sized_done}
use Rattle.files.proofs.TableText.{opened_most}
use Rattle.files.proofs.listing.text_size.Goals.{Start, After-number_line, After-line_size-size}
use Rattle.files.proofs.listing.text_size.Goals as goal

hand : (c : Start) → InHand c.args.o.now.table c.args.o.now.map.values c.args.o.now.map.marks
hand c = (opened_ready c.args.o.now c.args.o.now.held.full).hand

counted : (c : Start) → length (entries c.args.o.now) ≡ c.args.o.now.table.count
counted c = entries_length (hand c)

-- all lines, after the first one
total : (c : After-number_line) → c.number_line.new.self.at + length (joined line (entries c.args.o.now)) ≡ length (text_in c.args.o.now)
total c = rw (c.number_line.ensures.puts.ends, zero-add) (sym (length-append (number_line _) _))

-- the line in hand is the next one
grown : (c : After-line_size-size) → Sized line (entries c.args.o.now) c.number_line.new.self.at (c.loop-i.i + 1) (c.loop-i.size + c.line_size-size.result)
grown c =
    let s = (goal.at.After-line_size-size c).Start in
    rw (c.line_size-size.ensures, c.at.ensures) (sized_more line _ no_entry (rw (counted s) c.loop-i-test.true) c.loop-i.invariant)

pub number_line-requires : goal.number_line-requires
number_line-requires c = let short = number_line_short c.args.o.now.table.count (omega (arith, (hand (goal.at.number_line-requires c).Start).ok.few)) in omega arith

pub overflow_add-size : goal.overflow_add-size
overflow_add-size c =
    let p = goal.at.overflow_add-size c in
    omega (arith, sized_most line _ (grown p.After-line_size-size), total p.After-number_line, opened_most c.args.o.now c.args.o.now.held)

pub loop-i-preserved : goal.loop-i-preserved
loop-i-preserved c = grown (goal.at.loop-i-preserved c).After-line_size-size

pub returns : goal.returns
returns c =
    let p = goal.at.returns c in
    sized_done line _ c.loop-i.invariant (omega (arith, counted p.Start)) ∙ total p.After-number_line
