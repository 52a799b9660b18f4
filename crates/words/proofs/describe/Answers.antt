-- `words::describe` meets its contract.
use Rattle.std.proofs.Common.{◌∙◌, sym, rules}
use Rattle.words.proofs.Parts.{too_short_lem, without_words, with_words}
use Rattle.words.proofs.describe.Goals as goal

pub returns-then-line-lt-MAX_LINE : goal.returns-then-line-lt-MAX_LINE
returns-then-line-lt-MAX_LINE c = too_short_lem c.args.e c.args.line.now c.if-line-lt-MAX_LINE.true

pub returns-then-not-has_words : goal.returns-then-not-has_words
returns-then-not-has_words c = without_words c.args.e c.args.line.now c.if-line-lt-MAX_LINE.false (sym c.has_words.ensures ∙ search rules)

pub returns : goal.returns
returns c = with_words c.args.e c.args.line.now c.if-line-lt-MAX_LINE.false (sym c.has_words.ensures ∙ search rules) (search rules)
