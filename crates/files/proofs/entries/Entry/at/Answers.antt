-- `files::entries::Entry::at` meets its contract: an opened map's table is fit for its file.
use Rattle.std.proofs.Common.{arith, sym}
use Rattle.files.proofs.Terms.{entries_at, entries_rise}
use Rattle.files.proofs.Filing.{opened_ready, opened_few}
use Rattle.files.proofs.entries.Entry.at.Goals as goal

pub offset_bounds-o-i : goal.offset_bounds-o-i
offset_bounds-o-i c = omega (arith, (opened_few c.args.o.now).1)

pub bounds-o-i : goal.bounds-o-i
bounds-o-i c = omega (arith, (opened_few c.args.o.now).1)

pub offset_bounds-o-i-2 : goal.offset_bounds-o-i-2
offset_bounds-o-i-2 c = omega (arith, (opened_few c.args.o.now).1)

pub bounds-o-i-2 : goal.bounds-o-i-2
bounds-o-i-2 c = omega (arith, (opened_few c.args.o.now).1)

pub bounds-o-i-3 : goal.bounds-o-i-3
bounds-o-i-3 c = omega (arith, (opened_few c.args.o.now).1)

pub invariant_of-result : goal.invariant_of-result
invariant_of-result c =
    let h = (opened_ready c.args.o.now (record { splits = omega arith; values = omega arith; marks = omega arith })).hand in
    record { rises = entries_rise h c.args.i c.requires }

pub returns : goal.returns
returns c =
    let h = (opened_ready c.args.o.now (record { splits = omega arith; values = omega arith; marks = omega arith })).hand in
    sym (entries_at h c.args.i c.requires)
