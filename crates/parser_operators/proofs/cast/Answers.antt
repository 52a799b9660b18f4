-- `parser_operators::cast` meets its contract.
use Rattle.std.proofs.Common.{refl}
use Rattle.parser_state.proofs.Steps.{read, seq, done, enough, stops, fails}
use Rattle.rules.specs.Rules.{cast}
use Rattle.parser_operators.proofs.cast.Goals as goal

pub returns-in_err-rhs : goal.returns-in_err-rhs
unfolding cast
returns-in_err-rhs c = λ rules. fails _ (read _ c.advance.ensures.reads refl (stops _ (c.in_err-rhs.ensures.reads rules) refl)) refl c.from_residual.ensures tt

pub returns : goal.returns
unfolding cast
returns c = λ rules. enough (read _ c.advance.ensures.reads refl (seq _ (c.in_ok-rhs.ensures.reads rules) (seq _ (c.push_cast.ensures.reads _) done))) tt
