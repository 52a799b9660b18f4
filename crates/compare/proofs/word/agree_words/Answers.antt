-- `compare::word::agree_words` meets its contract.
use Rattle.std.proofs.Common.{refl, rules}
use Rattle.rules.specs.Shape.{w}
use Rattle.compare.proofs.Listing.{word_lists, not-in_step, paired, all-tested}
use Rattle.compare.proofs.word.agree_words.Goals as goal

pub returns-in_default : goal.returns-in_default
returns-in_default c = not-in_step word_lists refl c.in_default.ensures

pub returns : goal.returns
unfolding w
returns c = all-tested word_lists _ _ (λ x b q k. search rules) (paired word_lists refl c.in-Some.ensures refl) c.all.ensures.ran
