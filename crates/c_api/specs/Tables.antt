-- Cutting: the number that is returned, the counts, and both tables.
use Rattle.std.specs.Prelude.{List, [], ◌∷◌, ℕ}
use Rattle.tokens.specs.declared.TableCounts.{TableCounts}
use Rattle.tokens.specs.Tables.{Outcome}
use Rattle.c_api.specs.Numbers.{number_of, answer_cells}

unfoldable pub table_cells : TableCounts → List ℕ
table_cells made = made.tokens ∷ made.errors ∷ []

pub record CutNumbers : Type 0 where
  pub number : ℕ
  pub counts : List ℕ
  pub tokens : List ℕ
  pub errors : List ℕ

-- where the call is refused, what is lent for the two counts stays as it is
unfoldable pub cut_numbers : Outcome → List ℕ → CutNumbers
cut_numbers o out =
    record {
      number = number_of o.answer;
      counts = answer_cells table_cells o.answer out;
      tokens = o.tokens;
      errors = o.errors;
    }
