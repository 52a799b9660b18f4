-- Reading the tables: record `i`, and the records from `i` on.
use Rattle.std.specs.Prelude.{true, false, List, [], ◌∷◌, ℕ, zero, suc, ◌+◌, ◌*◌, ◌/◌, ◌≤◌, ltb, eqb, length, get_or}
use Rattle.lex.specs.Kind.{k_eof}
use Rattle.lex.specs.Lex.{eof_token, Occurrence}
use Rattle.lex.specs.declared.tok.Token.{Token}
use Rattle.tokens.specs.declared.Entry.{Entry}
use Rattle.tokens.specs.declared.ErrorEntry.{ErrorEntry}
use Rattle.tokens.specs.Tables.{token_width, error_width}

-- ---- tokens

-- the token of record `i`; past the last whole record Eof
unfoldable pub token_at : List ℕ → ℕ → Token
token_at table i =
    elim (ltb i (length table / token_width)) [
      | true ↦ record {
        kind = get_or table (token_width * i) 0;
        start = get_or table (token_width * i + 1) 0;
        len = get_or table (token_width * i + 2) 0;
      }
      | false ↦ eof_token 0
    ]

-- the tokens from record `i` on, up to the first Eof and with it, at most so many
unfoldable pub tokens_up_to : ℕ → List ℕ → ℕ → List Token
tokens_up_to zero table i = []
tokens_up_to (suc n) table i =
    token_at table i ∷ elim (eqb (token_at table i).kind k_eof) [ true ↦ [] | false ↦ tokens_up_to n table (suc i) ]

-- all of them: past the last record stands Eof
unfoldable pub tokens_from : List ℕ → ℕ → List Token
tokens_from table i = tokens_up_to (suc (length table)) table i

-- what is read of a record
abbrev pub token_of : Entry → Token
token_of e = record { kind = e.kind; start = e.start; len = e.len }

-- the numbers of a token of the script
pub record InRange (script : List ℕ) (t : Token) : Type 0 where
  pub least : 1 ≤ t.kind
  pub greatest : t.kind ≤ 43
  pub start : t.start ≤ length script
  pub len : t.len ≤ length script + 3

-- ---- errors

abbrev pub no_error : Occurrence
no_error = record { after = 0; diagnostic = record { number = 0; start = 0; len = 0; wanted = 0; seen = 0 } }

-- the error of record `i` and how many tokens are cut before it; past the last whole record zeros
unfoldable pub error_at : List ℕ → ℕ → Occurrence
error_at table i =
    elim (ltb i (length table / error_width)) [
      | true ↦ record {
        after = get_or table (error_width * i + 5) 0;
        diagnostic = record {
          number = get_or table (error_width * i) 0;
          start = get_or table (error_width * i + 1) 0;
          len = get_or table (error_width * i + 2) 0;
          wanted = get_or table (error_width * i + 3) 0;
          seen = get_or table (error_width * i + 4) 0;
        };
      }
      | false ↦ no_error
    ]

-- the errors from record `i` on, up to the first whose number is 0, at most so many
unfoldable pub errors_up_to : ℕ → List ℕ → ℕ → List Occurrence
errors_up_to zero table i = []
errors_up_to (suc n) table i =
    elim (eqb (error_at table i).diagnostic.number 0) [ true ↦ [] | false ↦ error_at table i ∷ errors_up_to n table (suc i) ]

-- all of them: past the last record stands 0
unfoldable pub errors_from : List ℕ → ℕ → List Occurrence
errors_from table i = errors_up_to (suc (length table)) table i

-- what is read of a record
abbrev pub occurrence_of : ErrorEntry → Occurrence
occurrence_of e = record { after = e.after; diagnostic = e.error }

-- how many tokens are cut before each error: at least `n`, and never fewer than before the last one
abbrev pub NeverFalls : ℕ → List Occurrence → Type 0
NeverFalls n [] = Unit {0}
NeverFalls n (o ∷ os) = (n ≤ o.after) × NeverFalls o.after os
