-- `parser::recovery::resume` meets its contract.
use Rattle.std.proofs.Common.{arith}
use Rattle.tokens.specs.Table.{token_of}
use Rattle.parser_state.specs.Represents.{from}
use Rattle.parser_state.proofs.Steps.{represents_less}
use Rattle.parser.specs.Whole.{drop_docs}
use Rattle.parser.proofs.Synchronize.{resuming}
use Rattle.parser.proofs.recovery.resume.Goals as goal

pub returns-clause-resumes : goal.returns-clause-resumes
unfolding drop_docs
returns-clause-resumes c = λ tokens e. record {
  lent = (c.drop_docs.ensures.reads.0 tokens).same;
  same = λ i. from tokens (token_of (c.drop_docs.ensures.reads.1 i)) (c.drop_docs.ensures.reads.2 i);
  resumes = λ e R L stack m h. represents_less _ _ (omega arith) (omega arith) ((c.drop_docs.ensures.reads.0 tokens).simulates R L _ m (represents_less _ _ (omega arith) (omega arith) (resuming h))).1;
}
