-- `files::write` meets its contract: an opened record is refused, or its table is in hand and its file is put.
use Rattle.maps.proofs.Changing.{opened_ok, opened_err}
use Rattle.files.proofs.Filing.{write_bad}
use Rattle.files.proofs.write.Goals as goal

pub returns-in_default : goal.returns-in_default
returns-in_default c = write_bad _ _ (opened_err _ _ c.in_default.ensures).0

pub returns : goal.returns
returns c = rw (opened_ok _ c.in-Ok.opened c.in-Ok.ensures).1 at c.write_opened.ensures
