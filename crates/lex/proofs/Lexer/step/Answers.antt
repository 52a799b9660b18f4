-- `Lexer::step` meets its contract: a piece that stands within the script is placed.
-- Assumes nothing.
use mathlib.Core.Path.{◌∙◌, sym}
use native.Mathlib.Omega.{arith}
use lib.ListN.{drop, length-drop}
use borrow.Author.Rules.{part_to_end}
use borrow.Author.Tests.{lt-ltb, le-ltb}
use Rattle.lex.proofs.Pieces.{piece-within}
use Rattle.lex.specs.Lex.{stands_at, step_at}
use Rattle.lex.proofs.Lexer.step.Goals as goal

pub returns-then-script-start : goal.returns-then-script-start
unfolding step_at stands_at
returns-then-script-start c = rw (← c.skip_whitespace-start.ensures) (rw (le-ltb _ _ c.if-script-start.true, stands_at))

pub overflow_add-result : goal.overflow_add-result
overflow_add-result c =
    let l = length-drop c.skip_whitespace-start.result c.args.self.now.input.now in
    omega (
      arith,
      rw (sym (rw part_to_end at c.piece.ensures) ∙ c.in-Token.is)
          at (piece-within (drop c.skip_whitespace-start.result c.args.self.now.input.now) (omega arith)),
    )

pub overflow_add-result-in-Fault : goal.overflow_add-result-in-Fault
overflow_add-result-in-Fault c =
    let l = length-drop c.skip_whitespace-start.result c.args.self.now.input.now in
    omega (
      arith,
      rw (sym (rw part_to_end at c.piece.ensures) ∙ c.in-Fault.is)
          at (piece-within (drop c.skip_whitespace-start.result c.args.self.now.input.now) (omega arith)),
    )

pub returns-in-Token : goal.returns-in-Token
unfolding step_at stands_at
returns-in-Token c = rw (← c.skip_whitespace-start.ensures) (rw (lt-ltb _ _ c.if-script-start.false, sym (rw part_to_end at c.piece.ensures) ∙ c.in-Token.is, stands_at))

pub returns-in-Fault : goal.returns-in-Fault
unfolding step_at stands_at
returns-in-Fault c = rw (← c.skip_whitespace-start.ensures) (rw (lt-ltb _ _ c.if-script-start.false, sym (rw part_to_end at c.piece.ensures) ∙ c.in-Fault.is, stands_at))
