-- `parser_types::extern_return` meets its contract.
use Rattle.std.proofs.Common.{sym, ◌∙◌, arith, inl, inr}
use Rattle.parser_state.proofs.Steps.{if_kind-yes, if_kind-no, if_kind-both, enough}
use Rattle.parser_state.proofs.Rounds.{struck_as}
use Rattle.rules.specs.Rules.{return_type}
use Rattle.parser_types.proofs.extern_return.Goals as goal

pub returns-in-21-clause-reads : goal.returns-in-21-clause-reads
returns-in-21-clause-reads c =
    λ rules. elim c.in-21.is [
      | inl e ↦ if_kind-yes _ _ (c.supplied_void.ensures.reads _) (sym c.kind.ensures ∙ e)
      | inr e ↦ if_kind-no _ _ (if_kind-yes _ _ (c.supplied_void.ensures.reads _) (sym c.kind.ensures ∙ e)) (λ z. omega arith)
    ]

pub returns-in_default-clause-reads : goal.returns-in_default-clause-reads
unfolding return_type
returns-in_default-clause-reads c = λ rules. if_kind-no _ _ (if_kind-no _ _ (enough (if_kind-both _ _ _ (struck_as (c.parse_type.ensures.reads rules)) (c.parse_type.ensures.reads rules)) tt) (λ e. grind (arith, c.in_default))) (λ e. grind (arith, c.in_default))
