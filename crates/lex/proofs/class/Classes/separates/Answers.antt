-- `separates` meets its contract.
-- Assumes nothing.
use mathlib.Core.Path.{◌∙◌}
use borrow.Author.Rules.{rules}
use Rattle.lex.proofs.Bits.{looked, class_bits}
use Rattle.lex.proofs.class.Classes.separates.Goals as goal

pub returns : goal.returns
returns c = looked 16 c.args.self.now.bits c.args.b c.args.self.now.is_table (search rules) ∙ (class_bits c.args.b).4
