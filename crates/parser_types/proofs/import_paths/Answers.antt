-- `parser_types::import_paths` meets its contract.
use Rattle.std.proofs.Common.{sym, ◌∙◌}
use Rattle.parser_state.proofs.Steps.{if_kind-yes, if_kind-no}
use Rattle.parser_types.proofs.Imports.{strike_as}
use Rattle.std.specs.Prelude.{None}
use Rattle.parser_types.proofs.import_paths.Goals as goal

pub returns-then-kind-eq-S-clause-wherever : goal.returns-then-kind-eq-S-clause-wherever
returns-then-kind-eq-S-clause-wherever c = λ nodes types. if_kind-yes _ _ (c.one_path.ensures.wherever nodes types) (sym c.kind.ensures ∙ c.if-kind-eq-S.true)

pub returns-then-kind-eq-S-clause-reads : goal.returns-then-kind-eq-S-clause-reads
returns-then-kind-eq-S-clause-reads c = returns-then-kind-eq-S-clause-wherever c None None

pub returns-else-kind-eq-S-clause-wherever : goal.returns-else-kind-eq-S-clause-wherever
returns-else-kind-eq-S-clause-wherever c = λ nodes types. if_kind-no _ _ (strike_as (c.bracketed_paths.ensures.wherever nodes types)) (λ e. c.if-kind-eq-S.false (c.kind.ensures ∙ e))

pub returns-else-kind-eq-S-clause-reads : goal.returns-else-kind-eq-S-clause-reads
returns-else-kind-eq-S-clause-reads c = returns-else-kind-eq-S-clause-wherever c None None
