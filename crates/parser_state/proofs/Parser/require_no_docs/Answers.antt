-- `parser_state::Parser::require_no_docs` meets its contract.
use Rattle.std.proofs.Common.{sym, refl, ◌∙◌, arith, eq-eqb, ne_eqb}
use Rattle.parser_state.proofs.Leaves.{full}
use Rattle.parser_state.proofs.Docs.{docs-none, docs-fail}
use Rattle.parser_state.proofs.Steps.{left-some, true≢false}
use Rattle.std.specs.Prelude.{None}
use Rattle.parser_state.proofs.Parser.require_no_docs.Goals as goal

pub returns-then-docs-eq0-clause-wherever : goal.returns-then-docs-eq0-clause-wherever
returns-then-docs-eq0-clause-wherever c = λ tokens nodes lists. docs-none tokens _ c.if-docs-eq0.true

pub returns-then-docs-eq0-clause-reads : goal.returns-then-docs-eq0-clause-reads
returns-then-docs-eq0-clause-reads c = λ tokens. returns-then-docs-eq0-clause-wherever c tokens None None

pub returns-then-docs-gt-MAX_BYTES-clause-wherever : goal.returns-then-docs-gt-MAX_BYTES-clause-wherever
returns-then-docs-gt-MAX_BYTES-clause-wherever c = λ tokens nodes lists. full (λ R L stack m h. omega (arith, h.credit.records, h.lent.small, left-some h))

pub returns-then-docs-gt-MAX_BYTES-clause-reads : goal.returns-then-docs-gt-MAX_BYTES-clause-reads
returns-then-docs-gt-MAX_BYTES-clause-reads c = λ tokens. returns-then-docs-gt-MAX_BYTES-clause-wherever c tokens None None

pub returns-then-self-n-clause-wherever : goal.returns-then-self-n-clause-wherever
returns-then-self-n-clause-wherever c = λ tokens nodes lists. full (λ R L stack m h. omega (arith, h.credit.records, h.lent.types, left-some h))

pub returns-then-self-n-clause-reads : goal.returns-then-self-n-clause-reads
returns-then-self-n-clause-reads c = λ tokens. returns-then-self-n-clause-wherever c tokens None None

pub returns-then-kind-eq-EOF-clause-wherever : goal.returns-then-kind-eq-EOF-clause-wherever
returns-then-kind-eq-EOF-clause-wherever c =
    λ tokens nodes lists. docs-fail tokens _ _ _ c.doc_at-last.ensures c.at_token.ensures refl c.if-docs-eq0.false (λ _. (refl, refl)) (λ e. absurd (true≢false (eq-eqb _ 1 (sym c.kind.ensures ∙ c.if-kind-eq-EOF.true)) e))

pub returns-then-kind-eq-EOF-clause-reads : goal.returns-then-kind-eq-EOF-clause-reads
returns-then-kind-eq-EOF-clause-reads c = λ tokens. returns-then-kind-eq-EOF-clause-wherever c tokens None None

pub returns-clause-wherever : goal.returns-clause-wherever
returns-clause-wherever c =
    λ tokens nodes lists. docs-fail tokens _ _ _ c.doc_at-first.ensures c.at_token-2.ensures refl c.if-docs-eq0.false (λ e. absurd (true≢false e (ne_eqb _ 1 (λ z. c.if-kind-eq-EOF.false (c.kind.ensures ∙ z))))) (λ _. (refl, refl))

pub returns-clause-reads : goal.returns-clause-reads
returns-clause-reads c = λ tokens. returns-clause-wherever c tokens None None
