-- The longest script that is taken, and how a call ends.
use Rattle.std.specs.Prelude.{ℕ, Result, Ok, Err}
use Rattle.lex.specs.declared.diagnostic.Refusal.{Refusal}
use Rattle.lex.specs.Refusals.{number}

abbrev pub max_bytes : ℕ
max_bytes = 65536

-- how a call ends: refused with a number, or with what was asked
pub data Answer (A : Type 0) : Type 0 where
  refused : ℕ → Answer A
  answer : A → Answer A

-- the answer that a result of the code is
abbrev pub answered : {A : Type 0} → Result A Refusal → Answer A
answered (Ok a) = answer a
answered (Err r) = refused (number r)
