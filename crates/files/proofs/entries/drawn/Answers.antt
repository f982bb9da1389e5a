-- `files::entries::drawn` meets its contract: an opened map has at most 60 splits.
use Rattle.files.proofs.Filing.{opened_few}
use Rattle.files.proofs.entries.drawn.Goals as goal

pub shared_ref_as_front-result : goal.shared_ref_as_front-result
shared_ref_as_front-result c = (opened_few c.args.o.now).0
