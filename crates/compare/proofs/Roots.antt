-- The shapes of the roots are a list of nodes, its run being the whole array of roots.
use mathlib.Core.Path.{◌≡◌, refl, sym, ◌∙◌, ap}
use mathlib.Core.Bool.{Bool, true, false}
use mathlib.Core.Option.{Option, none}
use mathlib.Core.List.{List, ◌∷◌}
use Prim.Native.Nat.{ℕ, zero, suc, ◌+◌, ◌*◌, ◌≤◌}
use native.Mathlib.Omega.{arith}
use native.Mathlib.Numerals.{add-one}
use native.Mathlib.Nat.{add-zero, zero-add, mul-one}
use lib.Dec.{leb}
use lib.ListN.{length, get_or, take, drop}
use lib.Seq.{drop-cons}
use borrow.Author.Tests.{leb-true}
use Rattle.rules.specs.Shape as S
use Rattle.rules.specs.Shape.{Shape, no_shape, shape, Env, shapes_of}
use Rattle.ast.specs.Lists.{map₂}
use Rattle.lex.specs.Bytes.{if}
use Rattle.compare.specs.Agree.{Agree, Decides}
use Rattle.compare.specs.Shapes.{View, types_in, nodes_below, root_shapes}
use Rattle.compare.proofs.Lists.{list_from}
use Rattle.compare.proofs.Walk.{run_of, nodes_are}

-- what the roots are read from
abbrev pub root_env : View → ℕ → List ℕ → Env
root_env v n roots = record { script = v.script; cells = roots; type = types_in v; node = nodes_below v n }

shapes-from : (node : ℕ → Option Shape) (xs : List ℕ) (n i : ℕ) → i + n ≤ length xs → shapes_of node (take n (drop i xs)) ≡ list_from 1 no_shape shape (λ j. node (get_or xs (j + 0) 0)) n i
unfolding shapes_of list_from
shapes-from node xs zero i h = refl
shapes-from node xs (suc n) i h =
    let d : drop i xs ≡ get_or xs i 0 ∷ drop (i + 1) xs = rw add-one (drop-cons xs i 0 (omega arith)) in
    rw (d, add-zero) (ap (map₂ shape (node (get_or xs i 0))) (shapes-from node xs n (i + 1) (omega arith)))

pub roots_are : (v : View) (n : ℕ) (roots : List ℕ) (count : ℕ) → root_shapes v n roots count ≡ S.shapes (root_env v n roots) (run_of 0 count)
unfolding root_shapes
roots_are v n roots count = go (leb count (length roots)) refl ∙ sym (nodes_are (root_env v n roots) (run_of 0 count))
  where
    go : (b : Bool) → leb count (length roots) ≡ b
        → if b (shapes_of (nodes_below v n) (take count roots)) none ≡ if (leb (0 + count * 1) (length roots)) (list_from 1 no_shape shape (λ j. nodes_below v n (get_or roots (j + 0) 0)) count 0) none
    go true e = rw (zero-add, mul-one, e) (shapes-from (nodes_below v n) roots count 0 (let h = leb-true count (length roots) e in omega arith))
    go false e = rw (zero-add, mul-one, e)

-- what is decided of the lists is decided of the roots
pub as_roots : {r : Bool} (v v' : View) (n n' : ℕ) (roots roots' : List ℕ) (count count' : ℕ)
    → Decides r (Agree (S.shapes (root_env v n roots) (run_of 0 count)) (S.shapes (root_env v' n' roots') (run_of 0 count'))) → Decides r (Agree (root_shapes v n roots count) (root_shapes v' n' roots' count'))
as_roots v v' n n' roots roots' count count' d = rw (roots_are v n roots count, roots_are v' n' roots' count') d
