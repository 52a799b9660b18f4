-- `same_bytes` meets its contract.
use Rattle.std.proofs.Common.{◌∙◌}
use Rattle.lex.proofs.Laws.{same-pointwise}
use Rattle.lex.proofs.tok.same_bytes.Goals as goal

pub returns : goal.returns
returns c = c.eq.ensures ∙ same-pointwise c.args.a.now c.args.b.now
