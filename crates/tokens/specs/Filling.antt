-- What filling has done where it stops, for want of room or at the script's end.
use Rattle.std.specs.Prelude.{◌≡◌, Option, Some, None, List, [], ◌++◌, ℕ, ◌+◌, ◌*◌, ◌≤◌, ◌<◌, length, take}
use Rattle.lex.specs.Lex.{cut_at, tokens_of, Occurrence, faults_of}
use Rattle.lex.specs.declared.tok.Token.{Token}
use Rattle.tokens.specs.declared.Stop.{Stop}
use Rattle.tokens.specs.Tables.{token_records, error_records}

-- the tokens and errors that are left
abbrev pub tokens_left : List ℕ → Option ℕ → List Token
tokens_left script None = []
tokens_left script (Some pos) = tokens_of (cut_at script pos)

abbrev pub errors_left : List ℕ → Option ℕ → ℕ → List Occurrence
errors_left script None n = []
errors_left script (Some pos) n = faults_of n (cut_at script pos)

-- the records made and those left are those from `from` on
pub record Stops (script : List ℕ) (from before : ℕ) (ts es : List ℕ) (s : Stop) : Type 0 where
  pub made : take (4 * s.tokens) ts ++ token_records script (tokens_left script s.next) ≡ token_records script (tokens_of (cut_at script from))
  pub met : take (6 * s.errors) es ++ error_records (errors_left script s.next (before + s.tokens)) ≡ error_records (faults_of before (cut_at script from))
  pub tokens_fit : 4 * s.tokens ≤ length ts
  pub errors_fit : 6 * s.errors ≤ length es
  pub inside : (pos : ℕ) → s.next ≡ Some pos → pos ≤ length script
  -- with room for a record of either it moves on
  pub moves : (pos : ℕ) → s.next ≡ Some pos → 4 ≤ length ts → 6 ≤ length es → from < pos
  -- with room for all it ends
  pub whole : 4 * length (tokens_of (cut_at script from)) ≤ length ts → 6 * length (faults_of before (cut_at script from)) ≤ length es → s.next ≡ None
