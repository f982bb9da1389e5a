-- `files::bytes::has_words` meets its contract.
use Rattle.std.proofs.Common.{arith, ◌∙◌, sym}
use Rattle.files.proofs.Comparing.{words_short, words_more}
use Rattle.files.proofs.bytes.has_words.Goals as goal

pub returns-then-bytes-at : goal.returns-then-bytes-at
returns-then-bytes-at c = sym (words_short c.args.bytes.now c.args.at c.args.words.now c.requires (omega arith))

pub loop-i-preserved : goal.loop-i-preserved
loop-i-preserved c =
    c.loop-i.invariant ∙
    words_more c.args.bytes.now c.args.at c.args.words.now c.loop-i.i c.loop-i-test.true (sym c.has_word.ensures ∙ c.if-not-has_word.false)
