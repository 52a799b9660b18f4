-- `parser_operators::infix_power` meets its contract.
use Rattle.std.proofs.Common.{sym}
use Rattle.parser_operators.proofs.Tables.{no_power, left_is}
use Rattle.parser_operators.proofs.infix_power.Goals as goal

pub returns-in-Some : goal.returns-in-Some
returns-in-Some c = sym (left_is _ c.in-Some.ensures c.left_power.ensures)

pub returns-in-None : goal.returns-in-None
returns-in-None c = sym (no_power _ c.in-None.ensures)
