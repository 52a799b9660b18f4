-- `lex::tok::as_str_len` meets its contract.
use Rattle.std.proofs.Common.{◌∙◌, rules}
use Rattle.lex.proofs.WellFormed.{fixed_length, length-fixed, length-own}
use Rattle.lex.proofs.tok.as_str_len.Goals as goal

pub returns-then-kind-le-DOC : goal.returns-then-kind-le-DOC
returns-then-kind-le-DOC c = length-own _ c.if-kind-ge-S.true c.if-kind-le-DOC.true

pub returns : goal.returns
returns c = fixed_length _ _ _ _ (λ t e. search rules) c.fixed_spelling.ensures.by_cases c.map_or.ensures ∙ length-fixed c.args.t c.else-kind-ge-S.either
