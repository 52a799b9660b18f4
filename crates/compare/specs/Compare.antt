-- What a comparison of two trees answers.
use Rattle.std.specs.Prelude.{Bool, ℕ, eqb}
use Rattle.std.proofs.Math.Option.{Option, none, some}
use Rattle.rules.specs.Shape.{Shapes}
use Rattle.lex.specs.Bytes.{if}
use Rattle.lex.specs.Answer.{Answer, refused, answer}
use Rattle.lex.specs.Refusals.{r_too_long, r_malformed}
use Rattle.ast.specs.Answer.{unless, Lent, refusal}
use Rattle.compare.specs.Shapes.{shape_in}
use Rattle.compare.specs.Same.{same_shapes}

-- 1 for either tree, then 2 for either; 0 where there is neither
unfoldable pub refusals : Lent → Lent → ℕ
refusals a b =
    if (eqb (refusal a) r_too_long) r_too_long
    (if (eqb (refusal b) r_too_long) r_too_long
    (if (eqb (refusal a) 0) (refusal b) (refusal a)))

-- 4 where anything that the roots of either tree reach is malformed, else whether the shapes are
-- the same
unfoldable pub compare_shapes : Option Shapes → Option Shapes → Answer Bool
compare_shapes none y = refused r_malformed
compare_shapes (some σ) none = refused r_malformed
compare_shapes (some σ) (some τ) = answer (same_shapes σ τ)

unfoldable pub compare : Lent → Lent → Answer Bool
compare a b = unless (refusals a b) (compare_shapes (shape_in a) (shape_in b))
