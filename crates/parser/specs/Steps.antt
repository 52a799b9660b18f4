-- Cutting and reading as two steps: what is promised of answer, arrays and tables.
use Rattle.std.specs.Prelude.{Bool, true, false, List, ℕ, ltb, length}
use Rattle.lex.specs.Answer.{max_bytes}
use Rattle.lex.specs.Bytes.{or}
use Rattle.lex.specs.Cells.{padded}
use Rattle.lex.specs.Refusals.{r_too_long, r_too_short, r_not_cut}
use Rattle.tokens.specs.Tables as T
use Rattle.tokens.specs.Tables.{token_table, error_table, is_cut}
use Rattle.rules.specs.Parse.{Reading}
use Rattle.rules.specs.Promise.{Arrays, Outcome, too_short, outcome}
use Rattle.rules.specs.Parsed.{Parsed}
use Rattle.rules.specs.Parsed as P

-- a call that is turned away leaves all as it is
abbrev pub turned_away : ℕ → Arrays → Outcome
turned_away n l = record { answer = P.Refused n; arrays = l }

-- one of the seven has fewer cells than the script's bytes ask for
unfoldable pub any_too_short : List ℕ → List ℕ → List ℕ → Arrays → Bool
any_too_short script tokens errors l = or (too_short script l) (T.too_short script tokens errors)

-- reading from the tables: 1, 2, 43, and then what the rules say
unfoldable pub read_promised : (List ℕ → Reading) → List ℕ → List ℕ → List ℕ → Arrays → Outcome
read_promised how script tokens errors l =
    elim (ltb max_bytes (length script)) [
      | true ↦ turned_away r_too_long l
      | false ↦ elim (any_too_short script tokens errors l) [
        | true ↦ turned_away r_too_short l
        | false ↦ elim (is_cut script tokens errors) [ true ↦ outcome (how script) l | false ↦ turned_away r_not_cut l ]
      ]
    ]

-- an answer, and the arrays and tables as it leaves them
pub record WholeOutcome : Type 0 where
  pub answer : Parsed
  pub arrays : Arrays
  pub tokens : List ℕ
  pub errors : List ℕ

-- both steps: 1, 2, and then what the rules say; the tables are those of the script
unfoldable pub parse_promised : (List ℕ → Reading) → List ℕ → List ℕ → List ℕ → Arrays → WholeOutcome
parse_promised how script tokens errors l =
    elim (ltb max_bytes (length script)) [
      | true ↦ record { answer = P.Refused r_too_long; arrays = l; tokens = tokens; errors = errors }
      | false ↦ elim (any_too_short script tokens errors l) [
        | true ↦ record { answer = P.Refused r_too_short; arrays = l; tokens = tokens; errors = errors }
        | false ↦ record {
          answer = (outcome (how script) l).answer;
          arrays = (outcome (how script) l).arrays;
          tokens = padded (length tokens) (token_table script);
          errors = padded (length errors) (error_table script);
        }
      ]
    ]
