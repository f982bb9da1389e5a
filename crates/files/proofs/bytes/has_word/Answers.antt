-- `files::bytes::has_word` meets its contract: a number stands there just where it is read there.
use Rattle.std.proofs.Common.{◌∙◌}
use Rattle.files.proofs.Comparing.{word_stands}
use Rattle.files.proofs.bytes.has_word.Goals as goal

pub returns : goal.returns
returns c =
    word_stands c.args.bytes.now c.args.at c.args.n c.from.result c.requires (c.type_inv.bytes c.args.at).fits (c.type_inv.bytes _).fits
    (c.from.ensures ∙ c.word_at.ensures)
