-- `parser_types::parse_extern` meets its contract.
use Rattle.std.proofs.Common.{refl}
use Rattle.parser_state.proofs.Steps.{then, seq, read, enough, fails, stops, stops_then}
use Rattle.rules.specs.Rules.{parse_extern}
use Rattle.parser_types.proofs.parse_extern.Goals as goal

pub returns-in_err-expect : goal.returns-in_err-expect
unfolding parse_extern
returns-in_err-expect c = λ rules. fails _ (seq _ (c.take_docs-docs.ensures.reads.0 _) (stops _ c.in_err-expect.ensures.reads refl)) refl c.from_residual.ensures tt

pub returns-in_err-expect_or : goal.returns-in_err-expect_or
unfolding parse_extern
returns-in_err-expect_or c = λ rules. fails _ (seq _ (c.take_docs-docs.ensures.reads.0 _) (read _ c.in_ok-expect.ensures.reads refl (stops _ c.in_err-expect_or.ensures.reads refl))) refl c.from_residual-in_err-expect_or.ensures tt

pub returns-in_err-expect-2 : goal.returns-in_err-expect-2
unfolding parse_extern
returns-in_err-expect-2 c = λ rules. fails _ (seq _ (c.take_docs-docs.ensures.reads.0 _) (read _ c.in_ok-expect.ensures.reads refl (read _ c.in_ok-expect_or.ensures.reads refl (stops_then _ c.in_err-expect-2.ensures.reads refl)))) refl c.from_residual-in_err-expect-2.ensures tt

pub returns-in_err-fns : goal.returns-in_err-fns
unfolding parse_extern
returns-in_err-fns c = λ rules. fails _ (seq _ (c.take_docs-docs.ensures.reads.0 _) (read _ c.in_ok-expect.ensures.reads refl (read _ c.in_ok-expect_or.ensures.reads refl (then c.in_ok-expect-2.ensures.reads (stops _ (c.in_err-fns.ensures.reads rules) refl))))) refl c.from_residual-in_err-fns.ensures tt

pub returns : goal.returns
unfolding parse_extern
returns c = λ rules. enough (seq _ (c.take_docs-docs.ensures.reads.0 _) (read _ c.in_ok-expect.ensures.reads refl (read _ c.in_ok-expect_or.ensures.reads refl (then c.in_ok-expect-2.ensures.reads (seq _ (c.in_ok-fns.ensures.reads rules) (c.push_extern.ensures.reads _)))))) tt
