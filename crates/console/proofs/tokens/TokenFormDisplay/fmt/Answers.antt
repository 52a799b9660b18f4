-- What is written is the text of the token.
use Rattle.std.proofs.Common.{◌≡◌, ℕ, List, refl}
use Rattle.lex.specs.Kind.{kind_name}
use Rattle.console.proofs.Names.{named}
use Rattle.console.proofs.tokens.TokenFormDisplay.fmt.Goals as goal

pub returns-clause-writes : goal.returns-clause-writes
returns-clause-writes g c =
    let name : ◌≡◌ {A = List ℕ} c.unwrap_or-name.result.now (kind_name c.args.self.now.0.kind) = rw c.unwrap_or-name.ensures (named _ _ _ refl c.name.ensures.by_cases) in
    rw (← name) c.write.ensures.writes
