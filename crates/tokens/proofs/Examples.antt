-- Worked examples of the definitions, which antt computes.
-- Assumes nothing.
use mathlib.Core.Path.{◌≡◌, refl}
use mathlib.Core.Bool.{true, false}
use mathlib.Core.List.{List, [], ◌∷◌, flatten}
use Prim.Native.Nat.{ℕ}
use Rattle.lex.specs.Bytes.{or, between, is_ws, is_digit, is_ident_start, is_ident_cont, count_while, differs_from, before, find_byte}
use Rattle.lex.specs.Kind.{same_bytes, keywords, name_kind, punctuators, punctuator_kinds, punctuator_kind}
use Rattle.lex.specs.Lex.{begins_comment, skipped, punctuator, punctuation, name, symbol, piece, stands_at, step_at, diagnostic_of, cut, cut_at, cut_from, tokens_of, faults_of, leading_space}
use Rattle.lex.specs.Spelling.{spelling_start, spelling_offset}
use Rattle.lex.specs.Answer as A
use Rattle.tokens.specs.Tables.{token_record, error_record, token_records, error_records, token_table, error_table, counts_of, tabled, too_short, promised, is_cut}

-- `a $`
abbrev script : List ℕ
script = 97 ∷ 32 ∷ 36 ∷ []

pub tables :
    -- a name and Eof; an unknown character behind one token
    (token_table script ≡ 25 ∷ 0 ∷ 1 ∷ 0 ∷ 1 ∷ 3 ∷ 3 ∷ 3 ∷ [])
    × (error_table script ≡ 33 ∷ 2 ∷ 1 ∷ 0 ∷ 36 ∷ 1 ∷ [])
    -- no byte: Eof alone, and no cell for errors
    × (promised [] (7 ∷ 7 ∷ 7 ∷ 7 ∷ 7 ∷ []) [] ≡ record { answer = A.answer (record { tokens = 1; errors = 0 }); tokens = 1 ∷ 0 ∷ 3 ∷ 0 ∷ 0 ∷ []; errors = [] })
    -- a cell short
    × (promised [] (7 ∷ 7 ∷ 7 ∷ []) [] ≡ record { answer = A.refused 2; tokens = 7 ∷ 7 ∷ 7 ∷ []; errors = [] })
    -- what lies behind counts
    × (is_cut [] (1 ∷ 0 ∷ 3 ∷ 0 ∷ 0 ∷ []) [] ≡ true)
    × (is_cut [] (1 ∷ 0 ∷ 3 ∷ 0 ∷ 1 ∷ []) [] ≡ false)
    × (is_cut [] (1 ∷ 0 ∷ 3 ∷ []) [] ≡ false)
unfolding
    token_table error_table token_records error_records token_record error_record counts_of tabled too_short promised is_cut flatten spelling_start spelling_offset leading_space
    cut cut_at cut_from tokens_of faults_of diagnostic_of step_at stands_at skipped begins_comment is_ws or piece is_ident_start between is_digit name is_ident_cont count_while name_kind keywords same_bytes
    symbol punctuation punctuator punctuator_kind punctuators punctuator_kinds find_byte before differs_from
tables = (refl, refl, refl, refl, refl, refl, refl)
