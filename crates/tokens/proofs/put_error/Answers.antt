-- `tokens::put_error` meets its contract.
use Rattle.std.proofs.Common.{arith, ◌*◌}
use Rattle.lex.specs.Lex.{diagnostic_of}
use Rattle.tokens.specs.Tables.{error_record}
use Rattle.tokens.proofs.Arrays.{six_stores}
use Rattle.tokens.proofs.put_error.Goals as goal

pub returns : goal.returns
unfolding error_record diagnostic_of
returns c = six_stores c.args.errors.now (6 * c.args.n) _ _ _ _ _ _ (omega arith)
