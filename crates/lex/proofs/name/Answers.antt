-- `name` meets its contract.
-- Assumes nothing.
use mathlib.Core.Path.{sym}
use lib.Seq.{length-take-le}
use Rattle.lex.specs.Lex.{name}
use Rattle.lex.specs.Bytes.{is_ident_cont}
use Rattle.lex.proofs.Laws.{run_le}
use Rattle.lex.proofs.name.Goals as goal

pub slice_bounds-from_keyword-end : goal.slice_bounds-from_keyword-end
slice_bounds-from_keyword-end c = sym (length-take-le _ c.args.rest.now (rw c.skip_ident_cont-n.ensures (run_le is_ident_cont c.args.rest.now)))

pub returns : goal.returns
unfolding name
returns c = rw (c.from_keyword-kind.ensures, c.skip_ident_cont-n.ensures)
