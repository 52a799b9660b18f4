-- What the code's own functions mean: how long a text is, texts one behind the other, and how far
-- a sheet is written.
use Rattle.std.specs.Prelude.{◌≡◌, List, [], ◌++◌, ℕ, zero, suc, ◌*◌, ◌/◌, length, take, Result, Ok, Err}
use Rattle.std.proofs.Math.Option.{none, some}
use Rattle.lex.specs.declared.diagnostic.Diagnostic.{Diagnostic}
use Rattle.lex.specs.declared.diagnostic.Refusal.{Refusal}
use Rattle.lex.specs.Refusals.{number}
use Rattle.lex.specs.Answer.{Answer, refused, answer}
use Rattle.ast.specs.Layout.{diagnostic_width}
use Rattle.positions.specs.Position.{place_of}
use Rattle.positions.specs.declared.Place.{Place}
use Rattle.words.specs.Words.{words}
use Rattle.sheet.specs.declared.Progress.{Progress}
use Rattle.sheet.specs.Sheet.{heading, body, entry, error_at}

-- the length of a text, or the refusal
abbrev pub sized : Answer (List ℕ) → Answer ℕ
sized (refused n) = refused n
sized (answer t) = answer (length t)

-- a count of lines, as bytes
unfoldable pub counted_of : Result ℕ Refusal → Answer ℕ
counted_of (Ok n) = answer (73 * n)
counted_of (Err r) = refused (number r)

-- a text, or nothing
abbrev pub text_in : Answer (List ℕ) → List ℕ
text_in (refused n) = []
text_in (answer t) = t

-- texts 0 to n - 1, one behind the other
unfoldable pub each : (ℕ → List ℕ) → ℕ → List ℕ
each text zero = []
each text (suc n) = each text n ++ text n

-- the lines of all errors; nothing for one that is refused
abbrev pub texts_of : List ℕ → List ℕ → List ℕ
texts_of script cells =
    each (λ i. text_in (entry script (error_at cells i))) (length cells / diagnostic_width)

-- the lines of an error at a place; nothing where it has no words
unfoldable pub lines_at : Place → Diagnostic → List ℕ
lines_at p e = elim (words e) [ none ↦ [] | some w ↦ heading p e.number ++ body w ]

-- `place` is that of `start`
pub record Reached (script : List ℕ) (w : Progress) : Type 0 where
  pub known : w.place ≡ place_of (take w.start script)
