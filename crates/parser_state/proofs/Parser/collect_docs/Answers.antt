-- `parser_state::Parser::collect_docs` meets its contract.
use Rattle.std.proofs.Common.{◌≡◌, true, sym, refl, ap, ◌∙◌, arith}
use Rattle.lex.specs.declared.tok.Token.{Token}
use Rattle.rules.specs.Combinators.{collect_docs, pure, keep_doc}
use Rattle.parser_state.proofs.Rounds.{again_of, lighter, if_kind_is_no, round_again, round_out, round_start, doc-going, doc-kind, no-doc}
use Rattle.parser_state.proofs.Steps.{current_represents, represents_going, if_kind-yes, read_at}
use Rattle.std.specs.Prelude.{None}
use Rattle.parser_state.proofs.Parser.collect_docs.Goals as goal

pub loop-i-init : goal.loop-i-init
loop-i-init c = ((λ nodes lists. round_start), (refl, refl))

pub advance-requires : goal.advance-requires
advance-requires c = omega (arith, doc-kind _ (sym c.doc_follows.ensures ∙ c.loop-i-test.true))

pub loop-i-smaller : goal.loop-i-smaller
loop-i-smaller c =
    lighter (doc-going _ (sym c.doc_follows.ensures ∙ c.loop-i-test.true)) (read_at (keep_doc 0) c.advance.ensures.reads refl (c.push_doc.ensures.reads 0))

pub loop-i-preserved : goal.loop-i-preserved
loop-i-preserved c =
    let yes : _ ≡ true = sym c.doc_follows.ensures ∙ c.loop-i-test.true in
    let keeps = c.loop-i.invariant.1 in (
      (λ nodes lists. round_again (c.loop-i.invariant.0 nodes lists) (doc-going _ yes)
          (again_of _ (if_kind-yes _ _ (read_at (keep_doc 0) (c.advance.ensures.wherever nodes None lists) refl (c.push_doc.ensures.wherever 0 nodes lists)) (doc-kind _ yes)))),
      (c.push_doc.ensures.keeps.0 ∙ c.advance.ensures.keeps.0 ∙ keeps.0, c.push_doc.ensures.keeps.1 ∙ c.advance.ensures.keeps.2 ∙ keeps.1),
    )

pub returns-clause-wherever : goal.returns-clause-wherever
unfolding collect_docs pure
returns-clause-wherever c =
    λ nodes lists. round_out (c.loop-i.invariant.0 nodes lists) (λ stack. refl) (λ R L stack n m e h.
    if_kind_is_no _ _ _ m (rw (ap (λ (t : Token). t.kind) (current_represents h.related)) (no-doc _ (represents_going h) (sym c.doc_follows.ensures ∙ c.loop-i-test.false))))

pub returns-clause-reads : goal.returns-clause-reads
returns-clause-reads c = returns-clause-wherever c None None
