-- A token and a fault end behind the position from which they were read.
use Rattle.std.proofs.Common.{sym, arith}
use borrow.Author.Rules.{rules}
use Rattle.lex.proofs.Steps.{step_forward}
use Rattle.lex.proofs.LexerIterator.next.Goals as goal

pub returns-in-Token-clause-goes : goal.returns-in-Token-clause-goes
returns-in-Token-clause-goes c =
    let f = rw (sym c.in-Token.ensures) at (step_forward c.args.self.now.input.now c.args.self.now.pos) in
    record { on = λ e. (search rules, e, omega (arith, f)); keeps = search rules; rests = search rules }

pub returns-in-Fault-clause-goes : goal.returns-in-Fault-clause-goes
returns-in-Fault-clause-goes c =
    let f = rw (sym c.in-Fault.ensures) at (step_forward c.args.self.now.input.now c.args.self.now.pos) in
    record { on = λ e. (search rules, e, omega (arith, f)); keeps = search rules; rests = search rules }
