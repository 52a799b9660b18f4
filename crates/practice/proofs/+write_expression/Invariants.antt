-- The level falls.
use Rattle.practice.proofs.+write_expression.Given as goal

abbrev pub decreases-write_expression : goal.decreases-write_expression
decreases-write_expression l = l.level
