-- How a call ends that writes a text into a lent buffer: refused with a number, or with the text's
-- length in bytes.
use Rattle.std.specs.Prelude.{List, ◌++◌, ℕ, length, drop, Result as Either, Ok, Err}
use Rattle.lex.specs.declared.diagnostic.Refusal.{Refusal}
use Rattle.lex.specs.Refusals.{number}

pub data Answer : Type 0 where
  refused : ℕ → Answer
  written : ℕ → Answer

-- the answer, and the buffer as it is left
pub record Result : Type 0 where
  pub answer : Answer
  pub buffer : List ℕ

abbrev pub result : Answer → List ℕ → Result
result a b = record { answer = a; buffer = b }

-- refused, the buffer is as it was
abbrev pub refuse : ℕ → List ℕ → Result
refuse n buffer = result (refused n) buffer

-- the text stands in front; behind it the buffer keeps what it held
abbrev pub in_front : List ℕ → List ℕ → Result
in_front text buffer = result (written (length text)) (text ++ drop (length text) buffer)

-- the papers' number or the length for each case of the code's answer
unfoldable pub answer_of : Either ℕ Refusal → Answer
answer_of (Ok n) = written n
answer_of (Err r) = refused (number r)
