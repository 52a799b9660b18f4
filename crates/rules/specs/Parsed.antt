-- What a reading answers, with a refusal as its number; and what an answer of the code says.
use Rattle.std.specs.Prelude.{ℕ, Result, Ok, Err}
use Rattle.lex.specs.Refusals.{number}
use Rattle.lex.specs.declared.diagnostic.Diagnostic.{Diagnostic}
use Rattle.ast.specs.declared.Counts.{Counts}
use Rattle.ast.specs.declared.ReadError.{ReadError}
use Rattle.ast.specs.declared.ReadError.TheVariants as E

pub data Parsed : Type 0 where
  Tree : Counts → Parsed
  Error : Diagnostic → Parsed
  Refused : ℕ → Parsed

abbrev pub parsed_of : Result Counts ReadError → Parsed
parsed_of (Ok c) = Tree c
parsed_of (Err (E.Script e)) = Error e
parsed_of (Err (E.Refused r)) = Refused (number r)
