-- `files::bytes::has_entry` meets its contract: its length and kind, and then its payload.
use Rattle.std.proofs.Common.{ℕ, ◌≡◌, ◌∙◌, sym, subst}
use lib.ListN.{drop}
use Rattle.files.specs.File.{entry}
use Rattle.files.specs.Inner.{begins}
use Rattle.files.proofs.Comparing.{front_room, front_stands}
use Rattle.files.proofs.bytes.has_entry.Goals as goal

pub has_words-requires-then-has_words : goal.has_words-requires-then-has_words
has_words-requires-then-has_words c =
    front_room c.args.bytes.now c.args.at c.number-kind.result c.args.payload.now c.requires.0 (sym c.has_words.ensures ∙ c.if-has_words.true)

pub returns-then-has_words : goal.returns-then-has_words
returns-then-has_words c =
    subst (λ (k : ℕ). c.has_words-then-has_words.result ≡ begins (drop c.args.at c.args.bytes.now) (entry k c.args.payload.now)) c.number-kind.ensures
    (c.has_words-then-has_words.ensures ∙
    front_stands c.args.bytes.now c.args.at c.number-kind.result c.args.payload.now (sym c.has_words.ensures ∙ c.if-has_words.true))
