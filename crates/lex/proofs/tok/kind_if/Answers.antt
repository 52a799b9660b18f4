-- `kind_if` meets its contract.
-- Assumes nothing.
use mathlib.Core.Path.{◌∙◌, sym}
use Rattle.lex.specs.Kind.{name_kind}
use Rattle.lex.proofs.tok.kind_if.Goals as goal

pub returns-then-same_bytes : goal.returns-then-same_bytes
unfolding name_kind
returns-then-same_bytes c = rw (sym c.same_bytes.ensures ∙ c.if-same_bytes.true, name_kind)

pub returns-else-same_bytes : goal.returns-else-same_bytes
unfolding name_kind
returns-else-same_bytes c = rw (sym c.same_bytes.ensures ∙ c.if-same_bytes.false, name_kind)
