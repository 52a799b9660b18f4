-- `words::phrase` meets its contract where no error has the number.
use Rattle.std.proofs.Common.{arith}
use Rattle.words.proofs.Parts.{no-phrase}
use Rattle.words.proofs.phrase.Goals as goal

pub returns-in_default : goal.returns-in_default
returns-in_default c = no-phrase c.args.number (λ l h. omega arith) (λ l h. omega arith)
