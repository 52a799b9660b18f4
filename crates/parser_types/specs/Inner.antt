-- A type with one inside, as Option and Array.
use Rattle.std.specs.Prelude.{ℕ}
use Rattle.lex.specs.Kind.{k_greater_than}
use Rattle.rules.specs.Combinators.{Rule, Readers, ◌>>=◌, ◌>>◌, expect, push_type}
use Rattle.rules.specs.Rules.{open_angle}
use Rattle.ast.specs.declared.TypeExpr.{TypeExpr}
use Rattle.ast.specs.declared.TypeExprId.{TypeExprId}

-- a type = word "<" type ">", `number` being the error where there is none
unfoldable pub inner_type : ℕ → (TypeExprId → TypeExpr) → Readers → Rule TypeExprId
inner_type number make deeper = do
  open_angle number
  t ← deeper.type
  expect k_greater_than
  push_type (make t)
