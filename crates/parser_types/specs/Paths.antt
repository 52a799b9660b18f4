-- The paths of an import are read.
use Rattle.std.specs.Prelude.{ℕ, List, Result}
use Rattle.lex.specs.declared.diagnostic.Diagnostic.{Diagnostic}
use Rattle.rules.specs.Combinators.{Rule}
use Rattle.parser_state.specs.declared.Parser.{Parser}
use Rattle.parser_state.specs.Represents.{code_of, code_after}
use Rattle.parser_state.specs.Refines.{Refines, GivesCount, all_grown}

-- so many paths are pushed
abbrev pub ReadsPaths : List ℕ → Rule (List (List ℕ)) → Parser → Parser → Result ℕ Diagnostic → Type 0
ReadsPaths tokens x p p' r = Refines tokens 0 0 x (GivesCount tokens (code_of p') r) all_grown 1 1 2 (code_of p) (code_after p' r)
