-- Members that a closure reads.
use Rattle.std.specs.Prelude.{ℕ, List, Result}
use Rattle.std.specs.Borrow.{MutBor}
use Rattle.lex.specs.declared.diagnostic.Diagnostic.{Diagnostic}
use Rattle.rules.specs.Combinators.{Rule, ◌>>=◌, ◌>>◌, pure, expect, members}
use Rattle.parser_state.specs.Refines.{ReadsMemberBy}
use Rattle.parser_state.specs.Represents.{Kept, AsNamed, code_of, code_after}
use Rattle.parser_state.specs.declared.Parser.{Parser}

-- members up to their closing token, and the token
unfoldable pub members_until : ℕ → Rule (List ℕ) → Rule (List (List ℕ))
members_until stop item = do
  xs ← members stop item
  expect stop
  pure xs

-- what calls answer, and what they leave of a parser
abbrev pub Calls : Type 1
Calls = MutBor Parser → Result (Unit {0}) Diagnostic → MutBor Parser → Type 0

-- it reads a member by the rule
abbrev pub ReadsEachBy : Kept → List ℕ → Rule (List ℕ) → Calls → Type 0
ReadsEachBy kept tokens item post = (u : MutBor Parser) (r : Result (Unit {0}) Diagnostic) (v : MutBor Parser) → post u r v → ReadsMemberBy kept tokens item (code_of u.now) (code_after v.now r)

-- and the arrays stay those that were lent, with nothing said of their lengths
abbrev pub ReadsEach : List ℕ → Rule (List ℕ) → Calls → Type 0
ReadsEach tokens item post = ReadsEachBy AsNamed tokens item post

-- it keeps what a clause says
abbrev pub KeepsEach : (Parser → Parser → Type 0) → Calls → Type 0
KeepsEach keeps post = (u : MutBor Parser) (r : Result (Unit {0}) Diagnostic) (v : MutBor Parser) → post u r v → keeps u.now v.now
