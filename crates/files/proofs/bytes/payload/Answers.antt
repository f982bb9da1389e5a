-- `files::bytes::payload` meets its contract: `size_at` gives a size just where a whole record is there.
use Rattle.std.proofs.Common.{arith, ◌∙◌, sym}
use Rattle.files.proofs.Whole.{Sized, some_size}
use Rattle.files.proofs.bytes.payload.Goals as goal

sized : (c : goal.In_ok-size) → Sized c.args.bytes.now c.args.at c.in_ok-size.size
sized c = some_size _ _ (sym (grind arith) ∙ c.size_at.ensures)

pub overflow_add-from : goal.overflow_add-from
overflow_add-from c = omega (arith, sized c)

pub overflow_add-to : goal.overflow_add-to
overflow_add-to c = omega (arith, sized c)

pub overflow_add-to-2 : goal.overflow_add-to-2
overflow_add-to-2 c = omega (arith, sized c)

pub slice_bounds-result-count : goal.slice_bounds-result-count
slice_bounds-result-count c = omega (arith, sized c)

pub slice_bounds-result-start : goal.slice_bounds-result-start
slice_bounds-result-start c = omega (arith, sized c)

pub slice_bounds-result-end : goal.slice_bounds-result-end
slice_bounds-result-end c = omega (arith, sized c)
