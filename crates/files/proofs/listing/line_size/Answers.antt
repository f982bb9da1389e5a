-- `files::listing::line_size` meets its contract: a line of at most 46 bytes ends where it was put.
use Rattle.std.proofs.Common.{arith}
use native.Mathlib.Nat.{zero-add}
use Rattle.files.proofs.TableLines.{line_short}
use Rattle.files.proofs.listing.line_size.Goals as goal

pub line-requires : goal.line-requires
line-requires c = rw zero-add (line_short _ c.args.entry.rises (omega arith) (omega arith))
