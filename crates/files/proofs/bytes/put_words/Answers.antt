-- `files::bytes::put_words` meets its contract.
use Rattle.std.proofs.Common.{arith, rules, refl, sym, ◌∙◌, ◌≤◌, ◌+◌, ◌*◌, length}
use Rattle.files.specs.File.{word}
use Rattle.files.proofs.Putting.{put_word, some_more, some_done, words_fit, words_not}
use Rattle.files.proofs.bytes.put_words.Goals as goal

pub returns-then-bytes-at : goal.returns-then-bytes-at
returns-then-bytes-at c = words_not c.args.bytes.now c.args.at c.args.words.now (search rules)

pub loop-i-preserved : goal.loop-i-preserved
loop-i-preserved c =
    some_more word 2 _ _ _ (λ n. refl) (omega arith) c.loop-i.invariant 0 _ (omega arith) (put_word c.loop-i.bytes _ _ (omega arith))

pub returns : goal.returns
returns c =
    let room : c.args.at + 2 * length c.args.words.now ≤ length c.args.bytes.now = omega arith in
    some_done word 2 _ _ _ (λ n. refl) room c.loop-i.invariant (omega arith) ∙ sym (words_fit _ _ _ room)
