-- `files::bytes::put_entry` meets its contract: its length and kind, and then its payload.
use Rattle.std.proofs.Common.{arith}
use Rattle.files.proofs.Putting.{put_record}
use Rattle.files.proofs.bytes.put_entry.Goals as goal

pub returns : goal.returns
returns c = rw (← c.number-kind.ensures) (put_record c.args.bytes.now c.args.at c.number-kind.result c.args.payload.now c.requires c.put_words.ensures c.put_words-2.ensures (omega arith))
