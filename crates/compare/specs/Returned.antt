-- What a reading returns, as it is lent to a comparison; and what the comparison of two such trees
-- answers.
use Rattle.std.specs.Prelude.{◌≡◌, Bool, true, false, List, ℕ}
use Rattle.rules.specs.Rules.{stage_one}
use Rattle.rules.specs.Parse.{Reading, parse, parse_collect}
use Rattle.rules.specs.Tree.{Tree}
use Rattle.rules.specs.Promise.{Arrays, promised}
use Rattle.rules.specs.Shape.{shape_of}
use Rattle.ast.specs.declared.Counts.{Counts}
use Rattle.rules.specs.Parsed as P
use Rattle.lex.specs.Answer.{Answer, answer}
use Rattle.ast.specs.Answer.{Lent, lent}

-- the two ways to read
pub data Mode : Type 0 where
  strict : Mode
  collecting : Mode

abbrev pub reading : Mode → List ℕ → Reading
reading strict = parse stage_one
reading collecting = parse_collect stage_one

-- the script with the arrays as a reading leaves them, and its counts
abbrev pub returned : Mode → List ℕ → Arrays → Counts → Lent
returned mode script l c =
    let o = (promised (reading mode) script l).arrays in
    lent script o.nodes o.types o.lists o.roots c

-- a reading of the script into these arrays returns a tree, with these counts
abbrev pub Returns : Mode → List ℕ → Arrays → Counts → Type 0
Returns mode script l c = (promised (reading mode) script l).answer ≡ P.Tree c

-- yes where the shapes of the two trees are the same, else no
pub data YesOrNo (s₁ : List ℕ) (t₁ : Tree) (s₂ : List ℕ) (t₂ : Tree) : Answer Bool → Type 0 where
  yes : shape_of s₁ t₁ ≡ shape_of s₂ t₂ → YesOrNo s₁ t₁ s₂ t₂ (answer true)
  no : (shape_of s₁ t₁ ≡ shape_of s₂ t₂ → ⊥) → YesOrNo s₁ t₁ s₂ t₂ (answer false)
