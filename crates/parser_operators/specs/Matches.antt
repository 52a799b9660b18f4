-- The cases of a match.
use Rattle.std.specs.Prelude.{◌≡◌, ℕ, Option as Answer, Some, None, Result, Ok, Err}
use Rattle.std.proofs.Math.Option.{Option, none, some}
use mathlib.Core.List.{List, [], ◌∷◌, ◌++◌, flatten}
use Rattle.lex.specs.Kind.{k_curly_right}
use Rattle.lex.specs.declared.diagnostic.Diagnostic.{Diagnostic}
use Rattle.lex.specs.declared.tok.Token.{Token}
use Rattle.rules.specs.Tree.{err}
use Rattle.rules.specs.Combinators.{Rule, Readers, ◌>>=◌, pure, cur, at_token, push_node, loop}
use Rattle.ast.specs.Layout.{token_cells, run_cells}
use Rattle.rules.specs.Rules.{Cases, parse_body, next_case}
use Rattle.ast.specs.declared.Run.{Run}
use Rattle.ast.specs.declared.NodeId.{NodeId}
use Rattle.ast.specs.declared.Node.TheVariants as N
use Rattle.tokens.specs.Table.{token_of}
use Rattle.parser_state.specs.Represents.{Code}
use Rattle.parser_state.specs.Refines.{Collected, closed}
use Rattle.parser_operators.specs.declared.DefaultBlock.{DefaultBlock}
use Rattle.parser_operators.specs.declared.CasesRead.{CasesRead}

abbrev pub default_of : Answer DefaultBlock → Option (Token × Run)
default_of None = none
default_of (Some d) = some (token_of d.token, d.run)

abbrev pub cases_grown : Cases → List ℕ → List ℕ
cases_grown c stack = stack ++ flatten c.cases

-- the code has as many cases, and the same default
abbrev pub CasesAre : List ℕ → Answer DefaultBlock → ℕ → Code → Cases → Type 0
CasesAre tokens d n s c = (c.default ≡ default_of d) × Collected tokens n s c.cases

-- what a call answers is as many cases, and the default
abbrev pub CasesGiven : List ℕ → Result CasesRead Diagnostic → Code → Cases → Type 0
CasesGiven tokens (Ok r) s c = CasesAre tokens r.default r.members s c
CasesGiven tokens (Err e) s c = ⊥

-- the cells of a case
unfoldable pub case_cells : Readers → Rule (List ℕ)
case_cells deeper = do
  t ← cur
  condition ← deeper.expr 0
  body ← parse_body deeper
  pure (token_cells t ++ (condition.0 ∷ run_cells body))

-- the node of a match, `t` being the token after `match`
unfoldable pub match_node : Token → Option (Token × Run) → Run → Rule NodeId
match_node t default cases = elim default [
  | none ↦ (λ s. err (at_token 18 0 t) s)
  | some d ↦ push_node (λ id. N.Match id cases d.0 d.1)
]

-- the end of a match
unfoldable pub match_end : Token → Option (Token × Run) → List (List ℕ) → Rule NodeId
match_end t default cases = closed k_curly_right cases >>= match_node t default

-- what follows the `{` of a match
unfoldable pub match_rest : Readers → Token → Rule NodeId
match_rest deeper t = loop (next_case deeper) (record { cases = []; default = none }) >>= (λ c. match_end t c.default c.cases)
