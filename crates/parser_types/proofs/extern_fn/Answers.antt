-- `parser_types::extern_fn` meets its contract.
use Rattle.std.proofs.Common.{refl}
use Rattle.parser_state.proofs.Steps.{then, seq, read, enough, fails, stops, stops_then}
use Rattle.rules.specs.Rules.{extern_fn}
use Rattle.parser_types.proofs.extern_fn.Goals as goal

pub returns-in_err-reject_kind-clause-reads : goal.returns-in_err-reject_kind-clause-reads
unfolding extern_fn
returns-in_err-reject_kind-clause-reads c = λ rules. fails _ (then c.collect_docs.ensures.reads (stops_then _ (c.in_err-reject_kind.ensures.reads _) refl)) refl c.from_residual.ensures tt

pub returns-in_err-expect-clause-reads : goal.returns-in_err-expect-clause-reads
unfolding extern_fn
returns-in_err-expect-clause-reads c = λ rules. fails _ (then c.collect_docs.ensures.reads (then (c.in_ok-reject_kind.ensures.reads _) (seq _ (c.take_docs-docs.ensures.reads.0 _) (stops_then _ c.in_err-expect.ensures.reads refl)))) refl c.from_residual-in_err-expect.ensures tt

pub returns-in_err-expect_ident-clause-reads : goal.returns-in_err-expect_ident-clause-reads
unfolding extern_fn
returns-in_err-expect_ident-clause-reads c = λ rules. fails _ (then c.collect_docs.ensures.reads (then (c.in_ok-reject_kind.ensures.reads _) (seq _ (c.take_docs-docs.ensures.reads.0 _) (then c.in_ok-expect.ensures.reads (stops _ c.in_err-expect_ident.ensures.reads refl))))) refl c.from_residual-in_err-expect_ident.ensures tt

pub returns-in_err-args-clause-reads : goal.returns-in_err-args-clause-reads
unfolding extern_fn
returns-in_err-args-clause-reads c = λ rules. fails _ (then c.collect_docs.ensures.reads (then (c.in_ok-reject_kind.ensures.reads _) (seq _ (c.take_docs-docs.ensures.reads.0 _) (then c.in_ok-expect.ensures.reads (read _ c.in_ok-expect_ident.ensures.reads refl (stops _ (c.in_err-args.ensures.reads rules) refl)))))) refl c.from_residual-in_err-args.ensures tt

pub returns-in_err-id-clause-reads : goal.returns-in_err-id-clause-reads
unfolding extern_fn
returns-in_err-id-clause-reads c = λ rules. fails _ (then c.collect_docs.ensures.reads (then (c.in_ok-reject_kind.ensures.reads _) (seq _ (c.take_docs-docs.ensures.reads.0 _) (then c.in_ok-expect.ensures.reads (read _ c.in_ok-expect_ident.ensures.reads refl (seq _ (c.in_ok-args.ensures.reads rules) (stops _ (c.in_err-id.ensures.reads rules) refl))))))) refl c.from_residual-in_err-id.ensures tt

pub returns-clause-reads : goal.returns-clause-reads
unfolding extern_fn
returns-clause-reads c = λ rules. enough (then c.collect_docs.ensures.reads (then (c.in_ok-reject_kind.ensures.reads _) (seq _ (c.take_docs-docs.ensures.reads.0 _) (then c.in_ok-expect.ensures.reads (read _ c.in_ok-expect_ident.ensures.reads refl (seq _ (c.in_ok-args.ensures.reads rules) (seq _ (c.in_ok-id.ensures.reads rules) (c.push_extern_fn.ensures.reads _)))))))) tt
