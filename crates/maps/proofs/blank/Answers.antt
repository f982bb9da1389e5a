-- `maps::blank` meets its contract.
use Rattle.std.proofs.Common.{ap, replicate}
use Rattle.mesh.specs.declared.Split.{Split}
use Rattle.maps.specs.Plain.{fresh_plain}
use Rattle.maps.specs.Record.{lines_of, record_of}
use Rattle.maps.proofs.blank.Goals as goal

pub returns : goal.returns
unfolding record_of lines_of fresh_plain
returns c =
    let a = c.args in
    let s = c.default.ensures in
    ap (λ (s : Split). record {
      lines = record { w = a.w; h = a.h; count = 0; splits = replicate 60 s };
      values = replicate 1024 0;
      marks = replicate 1024 0;
    }) (λ i. record { direction = s.0 i; position = s.1.0 i; from = s.1.1.0 i; to = s.1.1.1 i })
