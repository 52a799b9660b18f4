-- What strict reading says of a sheet.
use Rattle.std.specs.Prelude.{◌≡◌, ℕ, ◌≤◌, false, List, [], length, take}
use Rattle.std.proofs.Math.Option.{Option, none, some}
use Rattle.lex.specs.Kind.{k_eof, k_brace_right, k_plus, k_let}
use Rattle.rules.specs.Tree.{Tree}
use Rattle.rules.specs.Parse.{read, parse}
use Rattle.lex.specs.Answer.{max_bytes}
use Rattle.rules.specs.Promise.{Arrays, too_short, promised}
use Rattle.ast.specs.declared.Counts.{Counts}
use Rattle.rules.specs.Parsed as P
use Rattle.practice.specs.Practice.{max_lines, sheet}

-- what is asked of a set of infix signs: the power of `+`, and that `)`, `let` and Eof are none of
-- them
pub record Signs (power : ℕ → Option ℕ) : Type 0 where
  pub plus : power k_plus ≡ some 1
  pub close : power k_brace_right ≡ none
  pub «let» : power k_let ≡ none
  pub eof : power k_eof ≡ none

-- strict mode accepts the sheet, with one root for each line
pub record Accepted (power : ℕ → Option ℕ) (seed lines : ℕ) : Type 0 where
  pub bytes : length (sheet seed lines) ≤ max_bytes
  pub tree : Tree
  pub accepted : parse power (sheet seed lines) ≡ read tree []
  pub roots : length tree.roots ≡ lines

abbrev pub SheetsAccepted : Type 0
SheetsAccepted = (power : ℕ → Option ℕ) → Signs power → (seed lines : ℕ) → lines ≤ max_lines
    → Accepted power seed lines

-- what the strict call then answers, where its arrays are long enough
pub record Answered (power : ℕ → Option ℕ) (seed lines : ℕ) (arrays : Arrays) : Type 0 where
  pub counts : Counts
  pub answer : (promised (parse power) (sheet seed lines) arrays).answer ≡ P.Tree counts
  pub roots : counts.roots ≡ lines

abbrev pub SheetsAnswered : Type 0
SheetsAnswered = (power : ℕ → Option ℕ) → Signs power → (seed lines : ℕ) → lines ≤ max_lines
    → (arrays : Arrays) → too_short (sheet seed lines) arrays ≡ false
    → Answered power seed lines arrays

-- what stands in front of a buffer in which `n` bytes were written is the sheet
pub record Delivered (power : ℕ → Option ℕ) (seed lines n : ℕ) (out : List ℕ) : Type 0 where
  pub front : take n out ≡ sheet seed lines
  pub accepted : Accepted power seed lines
