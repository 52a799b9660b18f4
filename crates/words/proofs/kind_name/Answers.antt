-- `words::kind_name` meets its contract where the number is no kind.
use Rattle.std.proofs.Common.{arith}
use Rattle.words.proofs.Parts.{no_name_lem}
use Rattle.words.proofs.kind_name.Goals as goal

pub returns-in_default : goal.returns-in_default
returns-in_default c = no_name_lem c.args.kind (λ l h. omega arith)
