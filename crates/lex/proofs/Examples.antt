-- Worked examples of the rules, which antt computes.
-- Assumes nothing.
use mathlib.Core.Path.{◌≡◌, refl}
use mathlib.Core.List.{[], ◌∷◌}
use Prim.Native.Nat.{ℕ}
use Rattle.std.specs.Prelude.{Some, None}
use Rattle.lex.specs.Bytes.{or, between, is_ws, is_digit, is_ident_start, is_ident_cont, is_num_cont, count_while, differs_from, before, find_byte}
use Rattle.lex.specs.Kind.{k_brace_left, k_not_equal, k_dot, k_s, k_d, k_ident, k_doc, k_import, same_bytes, keywords, name_kind, punctuators, punctuator_kinds, punctuator_kind}
use Rattle.lex.specs.Utf8.{least_second, greatest_second, after_lead, after_continuation, next_state, state_after, utf8}
use Rattle.lex.specs.Lex.{begins_comment, skipped, punctuator, punctuation, leading_space, doc_in, doc, string, double_in, number_in, number, name, symbol, piece, stands_at, step_at, Cut, eof, cut_token, cut_fault, cut_from, cut_at, cut}
use Rattle.lex.specs.Spelling.{spelling_offset, spelling_start, spelling}

-- a token, or a fault, and what follows it
abbrev tok : ℕ → ℕ → ℕ → ℕ → Cut → Cut
tok kind start len next_state c = cut_token (record { kind = kind; start = start; len = len }) next_state c

abbrev bad : ℕ → ℕ → ℕ → ℕ → Cut → Cut
bad number start len seen c = cut_fault (record { number = number; start = start; len = len; seen = seen }) c

pub examples :
    -- 1.5.x is a double, a dot and a name
    (cut (49 ∷ 46 ∷ 53 ∷ 46 ∷ 120 ∷ []) ≡ tok k_d 0 3 3 (tok k_dot 3 1 4 (tok k_ident 4 1 5 (eof 5))))
    -- 1.2.3 is a fault over the whole run
    × (cut (49 ∷ 46 ∷ 50 ∷ 46 ∷ 51 ∷ []) ≡ bad 34 0 5 0 (eof 5))
    -- the bytes 23 21 FF 61: a doc with bad UTF-8 up to the line's last byte, where reading resumes
    × (cut (0x23 ∷ 0x21 ∷ 0xff ∷ 0x61 ∷ []) ≡ bad 32 0 3 0 (tok k_ident 3 1 4 (eof 4)))
    -- `#! d`: the spelling of a doc is less one leading space
    × (cut (35 ∷ 33 ∷ 32 ∷ 100 ∷ []) ≡ tok k_doc 0 1 4 (eof 4))
    -- `$`: an unknown character
    × (cut (36 ∷ []) ≡ bad 33 0 1 36 (eof 1))
    -- `"a`, LF, `b`: without a closing quote the fault covers the rest of the line
    × (cut (34 ∷ 97 ∷ 10 ∷ 98 ∷ []) ≡ bad 31 0 2 0 (tok k_ident 3 1 4 (eof 4)))
    -- `"`, the surrogate D800, `"`: the fault goes up to the closing quote, and reading goes on
    -- after it
    × (cut (34 ∷ 0xed ∷ 0xa0 ∷ 0x80 ∷ 34 ∷ []) ≡ bad 32 0 4 0 (eof 5))
    -- `import(` and a string of one letter with an accent
    × (cut (105 ∷ 109 ∷ 112 ∷ 111 ∷ 114 ∷ 116 ∷ 40 ∷ 34 ∷ 0xc3 ∷ 0xa9 ∷ 34 ∷ []) ≡ tok k_import 0 6 6 (tok k_brace_left 6 1 7 (tok k_s 7 2 11 (eof 11))))
    -- `a != b # c`
    × (cut (97 ∷ 32 ∷ 33 ∷ 61 ∷ 32 ∷ 98 ∷ 32 ∷ 35 ∷ 32 ∷ 99 ∷ []) ≡ tok k_ident 0 1 1 (tok k_not_equal 2 2 4 (tok k_ident 5 1 6 (eof 10))))
unfolding
    cut cut_at cut_from step_at stands_at skipped begins_comment is_ws or piece is_ident_start between is_digit name is_ident_cont count_while name_kind keywords same_bytes
    number number_in double_in is_num_cont find_byte before differs_from string utf8 state_after next_state after_lead least_second greatest_second after_continuation
    symbol doc doc_in leading_space punctuation punctuator punctuator_kind punctuators punctuator_kinds
examples = (refl, refl, refl, refl, refl, refl, refl, refl, refl)

pub spellings :
    -- `"a"`: behind the quote
    (spelling (34 ∷ 97 ∷ 34 ∷ []) (record { kind = k_s; start = 0; len = 1 }) ≡ Some 1)
    -- `#! d`, and `#!d`: behind `#!` and one blank
    × (spelling (35 ∷ 33 ∷ 32 ∷ 100 ∷ []) (record { kind = k_doc; start = 0; len = 1 }) ≡ Some 3)
    × (spelling (35 ∷ 33 ∷ 100 ∷ []) (record { kind = k_doc; start = 0; len = 1 }) ≡ Some 2)
    -- a name that would end behind the script has none, nor has a sign
    × (spelling (97 ∷ []) (record { kind = k_ident; start = 0; len = 2 }) ≡ None)
    × (spelling (40 ∷ []) (record { kind = k_brace_left; start = 0; len = 1 }) ≡ None)
unfolding spelling spelling_start spelling_offset leading_space
spellings = (refl, refl, refl, refl, refl)
