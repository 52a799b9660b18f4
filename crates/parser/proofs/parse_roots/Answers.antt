-- `parser::parse_roots` meets its contract.
use Rattle.std.proofs.Common.{refl, sym, ap, ◌∙◌, arith}
use Rattle.std.specs.Prelude.{Result}
use Rattle.lex.specs.declared.diagnostic.Diagnostic.{Diagnostic}
use Rattle.lex.specs.Kind.{k_eof}
use Rattle.parser_state.specs.Represents.{reading}
use Rattle.parser_state.proofs.Steps.{passed}
use Rattle.parser_state.proofs.Rounds.{round_again, lighter}
use Rattle.parser_state.proofs.Loops.{member-going}
use Rattle.parser.specs.Collect.{gathered}
use Rattle.parser.specs.declared.Gathering.{Gathering}
use Rattle.parser.proofs.Roots.{root_there, root_again, roots-start, roots_end, roots_stop}
use Rattle.parser.proofs.parse_roots.Goals as goal

pub loop-p-init : goal.loop-p-init
loop-p-init c = (refl, roots-start _ c.requires.0 c.requires.1)

pub loop-p-smaller : goal.loop-p-smaller
loop-p-smaller c = lighter (member-going (reading c.loop-p.p) k_eof (sym c.member_follows.ensures ∙ c.loop-p-test.true)) c.in_ok-n.ensures

pub loop-p-preserved : goal.loop-p-preserved
loop-p-preserved c =
    let loop = c.loop-p in
    (omega arith, round_again loop.invariant.1 (member-going (reading loop.p) k_eof (sym c.member_follows.ensures ∙ c.loop-p-test.true)) (root_again c.args.source.now.script.now (sym c.member_follows.ensures ∙ c.loop-p-test.true) c.requires.0.lent.small (omega (arith, c.requires.0.roots, loop.invariant.0)) c.in_ok-n.ensures (λ _. root_there c.push_root-members.ensures)))

pub returns-in_err-n : goal.returns-in_err-n
returns-in_err-n c =
    let loop = c.loop-p in (
      roots_stop _ c.requires.0 c.requires.1 _ _ loop.invariant.1 (sym c.member_follows.ensures ∙ c.loop-p-test.true) c.requires.0.lent.small (omega (arith, c.requires.0.roots, loop.invariant.0)) c.in_err-n.ensures refl c.from_residual.ensures,
      ap (λ (r : Result Gathering Diagnostic). (gathered c.member.new.p r).diagnostics) (passed _ c.from_residual.ensures.1),
      c.in_err-n.ensures.same ∙ loop.invariant.1.same,
    )

pub returns : goal.returns
returns c = (
  roots_end _ c.requires.0 c.requires.1 c.loop-p.invariant.1 (sym c.member_follows.ensures ∙ c.loop-p-test.false) (c.drop_docs.ensures.reads.0 _),
  c.default.ensures.1.0,
  (c.drop_docs.ensures.reads.0 c.args.source.now.tokens.now).same ∙ c.loop-p.invariant.1.same,
)
