-- Some lines, computed.
-- Assumes nothing.
use mathlib.Core.Path.{◌≡◌, refl}
use mathlib.Core.Option.{none, some}
use Prim.Native.Nat.{ℕ}
use Rattle.text.specs.Text.{bytes}
use Rattle.lex.specs.declared.diagnostic.Diagnostic.{Diagnostic}
use Rattle.words.specs.Words.{phrases, phrase, kind_names, kind_name, hex_digit, hex, but_found, details, line, is_kind, is_script_error, is_wanted, is_seen, has_words, words}

abbrev error : ℕ → ℕ → ℕ → ℕ → ℕ → Diagnostic
error number start len wanted seen = record { number = number; start = start; len = len; wanted = wanted; seen = seen }

-- `let x 1`
equal_wanted : words (error 11 6 1 9 24) ≡ some (bytes "expected '=', but found a whole number")
unfolding words has_words is_script_error is_wanted is_seen is_kind line details phrase phrases kind_name kind_names but_found bytes
equal_wanted = refl

-- `match {}`
no_default : words (error 18 6 1 0 20) ≡ some (bytes "a match needs a default, a block without a condition; this match opens with '{'")
unfolding words has_words is_script_error is_wanted is_seen is_kind line details phrase phrases kind_name kind_names but_found bytes
no_default = refl

-- a byte that begins no token
unknown_byte : words (error 33 0 1 0 0xAF) ≡ some (bytes "this character is not part of the language; its byte in hexadecimal is AF")
unfolding words has_words is_script_error is_wanted is_seen is_kind line details phrase phrases kind_name kind_names but_found bytes hex hex_digit
unknown_byte = refl

-- a wanted kind that is none
no_words : words (error 11 6 1 0 24) ≡ none
unfolding words has_words is_script_error is_wanted is_seen is_kind
no_words = refl
