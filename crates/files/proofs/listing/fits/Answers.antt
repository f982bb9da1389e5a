-- `files::listing::fits` meets its contract: every text has at most 65,536 bytes.
use Rattle.std.proofs.Common.{arith, ◌∙◌, sym}
use borrow.Author.Tests.{le-leb}
use Rattle.files.proofs.TableText.{opened_most}
use Rattle.files.proofs.listing.fits.Goals as goal

pub returns-then-enough-room : goal.returns-then-enough-room
returns-then-enough-room c = le-leb _ _ c.if-enough-room.true ∙ sym (le-leb _ _ (omega (arith, opened_most c.args.o.now c.args.o.now.held)))
