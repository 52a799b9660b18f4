-- `parser::recover` meets its contract.
use Rattle.std.proofs.Common.{refl, ◌∙◌, arith, eq-eqb, ne_eqb}
use Rattle.std.specs.Prelude.{Err}
use Rattle.parser_state.specs.Represents.{code_of}
use Rattle.parser_state.specs.Refines.{failed}
use Rattle.parser.specs.Collect.{collected, gathered}
use Rattle.parser.proofs.Collect.{ended_by_ten, gathered_error}
use Rattle.parser.proofs.recover.Goals as goal

pub returns-then-error-eq-TOO_DEEP : goal.returns-then-error-eq-TOO_DEEP
returns-then-error-eq-TOO_DEEP c = record {
  turn = λ script roots g e m room all h z. ended_by_ten script _ roots _ (gathered c.args.p.now (Err c.args.error)) g e m refl (eq-eqb _ _ c.if-error-eq-TOO_DEEP.true) h;
  same = refl;
  keeps = (refl, refl, refl);
}

pub returns : goal.returns
returns c =
    let args = c.args in
    let faults = c.push_faults-faults in
    let resumed = c.resume.ensures.keeps in
    let synchronized = c.synchronize_root.ensures.keeps in
    record {
      turn = λ script roots g e m room all h z. gathered_error script {c = collected (failed (code_of args.p.now) args.error) args.c} _ g e m refl refl (ne_eqb _ _ c.if-error-eq-TOO_DEEP.false) faults.ensures.0 faults.ensures.1 (omega (arith, faults.auto.diagnostics)) c.push_diagnostic-n.ensures (c.resume.ensures.resumes _ args.error) c.synchronize_root.ensures.reads room all h z;
      same = c.synchronize_root.ensures.reads.same ∙ (c.resume.ensures.resumes args.tokens.now args.error).lent;
      keeps = (synchronized.0 ∙ resumed.0, synchronized.1 ∙ resumed.1, synchronized.2 ∙ resumed.2);
    }
