-- `parser::parse_roots_collect` meets its contract.
use Rattle.std.proofs.Common.{refl, sym, subst, ◌∙◌, arith}
use Rattle.std.specs.Prelude.{Result}
use Rattle.lex.specs.declared.diagnostic.Diagnostic.{Diagnostic}
use Rattle.rules.specs.Rules.{stage_one}
use Rattle.rules.specs.Parse.{begin, parse_roots_collect}
use Rattle.parser_state.proofs.Steps.{passed}
use Rattle.parser.specs.Collect.{gathered, CollectEnds}
use Rattle.parser.specs.declared.Gathering.{Gathering}
use Rattle.parser.proofs.Roots.{tokens-all}
use Rattle.parser.proofs.Collect.{turn, start, ended_by, ends}
use Rattle.parser.proofs.parse_roots_collect.Goals as goal

pub loop-p-init : goal.loop-p-init
loop-p-init c = (refl, refl, refl, rw (c.default-c.ensures.0, c.default-c.ensures.1.0, c.default-c.ensures.1.1) (start _ _ _ _ c.requires.0 c.requires.1 c.requires.2))

pub collect_root-requires : goal.collect_root-requires
collect_root-requires c = sym c.member_follows.ensures ∙ c.loop-p-test.true

pub loop-p-smaller : goal.loop-p-smaller
loop-p-smaller c =
    let loop = c.loop-p in
    let pre = c.requires in
    (turn _ _ _ (sym c.member_follows.ensures ∙ c.loop-p-test.true) pre.0.lent.small (omega (arith, pre.0.roots, loop.invariant.0)) (omega (arith, pre.3, loop.invariant.1)) (tokens-all c.args.source.now.script.now pre.0.lent.small pre.0.tabled) loop.invariant.3 c.in_ok-c.ensures.turn).less

pub loop-p-preserved : goal.loop-p-preserved
loop-p-preserved c =
    let loop = c.loop-p in
    let pre = c.requires in
    (omega arith, omega arith, c.in_ok-c.ensures.same ∙ loop.invariant.2, (turn _ _ _ (sym c.member_follows.ensures ∙ c.loop-p-test.true) pre.0.lent.small (omega (arith, pre.0.roots, loop.invariant.0)) (omega (arith, pre.3, loop.invariant.1)) (tokens-all c.args.source.now.script.now pre.0.lent.small pre.0.tabled) loop.invariant.3 c.in_ok-c.ensures.turn).progress)

pub returns-in_err-c : goal.returns-in_err-c
returns-in_err-c c =
    let loop = c.loop-p in
    let pre = c.requires in
    let script = c.args.source.now.script.now in
    let p = c.collect_root.new.p in
    let ended = ended_by _ _ _ refl (turn _ _ _ (sym c.member_follows.ensures ∙ c.loop-p-test.true) pre.0.lent.small (omega (arith, pre.0.roots, loop.invariant.0)) (omega (arith, pre.3, loop.invariant.1)) (tokens-all script pre.0.lent.small pre.0.tabled) loop.invariant.3 c.in_err-c.ensures.turn).progress in (
      subst (λ (r : Result Gathering Diagnostic). CollectEnds script c.collect_root.new.roots c.collect_root.new.diagnostics (gathered p r) (parse_roots_collect stage_one script (begin script))) (sym (passed _ c.from_residual.ensures.1)) ended,
      c.in_err-c.ensures.same ∙ loop.invariant.2,
    )

pub returns : goal.returns
returns c =
    let loop = c.loop-p in
    let pre = c.requires in
    let faults = c.push_faults-listed in (
      ends _ _ _ _ refl (sym c.member_follows.ensures ∙ c.loop-p-test.false) refl pre.0.lent.small (omega (arith, pre.3, loop.invariant.1)) (tokens-all c.args.source.now.script.now pre.0.lent.small pre.0.tabled) loop.invariant.3 faults.ensures.0 faults.ensures.1 (omega (arith, faults.auto.diagnostics)) (c.drop_docs.ensures.reads.0 _),
      (c.drop_docs.ensures.reads.0 c.args.source.now.tokens.now).same ∙ loop.invariant.2,
    )
