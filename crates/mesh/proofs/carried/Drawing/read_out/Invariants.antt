-- What is read, with the blends that are left, is the whole walk.
use Rattle.mesh.specs.Bytes.{walk}
use Rattle.mesh.specs.Carried.{kept_left}
use Rattle.mesh.proofs.Reading.{Reading}
use Rattle.mesh.proofs.carried.Drawing.read_out.Given as goal

abbrev pub invariant-loop-x : goal.invariant-loop-x
invariant-loop-x g l = Reading (walk l.self.w l.self.h l.self.places) (kept_left l.x-iterator) l.count l.blends
