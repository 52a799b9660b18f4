-- Whether a node can be called is tested by its tag in the array.
use mathlib.Core.Path.{◌≡◌, refl, sym, ap, ◌∙◌}
use mathlib.Core.Bool.{Bool, true, false}
use mathlib.Core.List.{List, [], ◌∷◌, ◌++◌, map, flatten, append_assoc}
use Prim.Native.Nat.{ℕ, zero, suc, ◌+◌, ◌*◌, ◌≤◌, ◌<◌}
use native.Mathlib.Omega.{arith}
use lib.Dec.{ltb}
use lib.ListN.{length, get_or}
use lib.Seq.{get_or-append-add}
use borrow.Author.Tests.{ltb-true, ltb-false}
use Rattle.rules.specs.Tree.{State}
use Rattle.ast.specs.Layout.{token_cells, run_cells, node_width, node_cells}
use Rattle.rules.specs.Rules.{is_callable_target}
use Rattle.ast.specs.declared.NodeId.{NodeId}
use Rattle.ast.specs.declared.Node.{Node}
use Rattle.ast.specs.declared.Node.TheVariants as N
use Rattle.parser_state.specs.Represents.{Code, Represents}
use Rattle.parser_state.proofs.Steps.{either}
use Rattle.parser_state.proofs.Cells.{node-length}
use Rattle.parser_operators.specs.Tests.{callable_kind, call_at}

yes : {A : Type 0} (b : Bool) (x y : A) → b ≡ true → elim b as (λ _. A) [ true ↦ x | false ↦ y ] ≡ x
yes {A} b x y e = ap (λ (t : Bool). elim t as (λ _. A) [ true ↦ x | false ↦ y ]) e

no : {A : Type 0} (b : Bool) (x y : A) → b ≡ false → elim b as (λ _. A) [ true ↦ x | false ↦ y ] ≡ y
no {A} b x y e = ap (λ (t : Bool). elim t as (λ _. A) [ true ↦ x | false ↦ y ]) e

-- ---- the tag is that of the model's node

tag_of : (x : Node) (back : List ℕ) → callable_kind (get_or (node_cells x ++ back) 0 0) ≡ is_callable_target x
unfolding node_cells token_cells run_cells is_callable_target
tag_of (N.Atom id raw) back = refl
tag_of (N.Ident id name) back = refl
tag_of (N.Bin id op lhs rhs) back = refl
tag_of (N.Unary id op rhs) back = refl
tag_of (N.Let id docs name rhs) back = refl
tag_of (N.Fn id docs name args ret body) back = refl
tag_of (N.Match id cases t b) back = refl
tag_of (N.Call id target args) back = refl
tag_of (N.Field id target name) back = refl
tag_of (N.Cast id src lhs rhs) back = refl
tag_of (N.Import id src pkgs) back = refl
tag_of (N.Extern id src docs name fns) back = refl
tag_of (N.Record id src fields) back = refl
tag_of (N.Array id src elements) back = refl

abbrev no_node : Node
no_node = N.Atom 0 (record { kind = 0; start = 0; len = 0 })

tag_at : (ns : List Node) (back : List ℕ) (n : ℕ) → n < length ns → callable_kind (get_or (flatten (map node_cells ns) ++ back) (node_width * n) 0) ≡ is_callable_target (get_or ns n no_node)
unfolding flatten
tag_at [] back n h = absurd (omega arith)
tag_at (x ∷ ns) back zero h = ap (λ (l : List ℕ). callable_kind (get_or l 0 0)) (append_assoc (node_cells x) (flatten (map node_cells ns)) back) ∙ tag_of x _
tag_at (x ∷ ns) back (suc n) h =
    let rest : List ℕ = flatten (map node_cells ns) ++ back in
    let wide : node_width * suc n ≡ length (node_cells x) + node_width * n = omega (arith, node-length x) in
    ap (λ (l : List ℕ). callable_kind (get_or l (node_width * suc n) 0)) (append_assoc (node_cells x) (flatten (map node_cells ns)) back)
    ∙ ap (λ (i : ℕ). callable_kind (get_or (node_cells x ++ rest) i 0)) wide
    ∙ ap callable_kind (get_or-append-add (node_cells x) rest (node_width * n) 0)
    ∙ tag_at ns back n (omega arith)

none-at : (ns : List Node) (n : ℕ) → length ns ≤ n → is_callable_target (get_or ns n no_node) ≡ false
unfolding is_callable_target
none-at [] n h = refl
none-at (x ∷ ns) zero h = absurd (omega arith)
none-at (x ∷ ns) (suc n) h = none-at ns n (omega arith)

pub call-at : {tokens : List ℕ} {s : Code} {r l : ℕ} {stack : List ℕ} {m : State} (n : NodeId) → Represents tokens s r l stack m → call_at s.nodes s.parser.used.nodes n ≡ is_callable_target (get_or m.arena.nodes n.0 no_node)
call-at {s = s} {m = m} n h =
    let laid = h.related.nodes in
    either (ltb n.0 s.parser.used.nodes)
    (λ b. let l : n.0 < s.parser.used.nodes = ltb-true _ _ b in
    yes _ _ _ b ∙ ap (λ (c : List ℕ). callable_kind (get_or c (node_width * n.0) 0)) laid.laid ∙ tag_at m.arena.nodes (laid.between ++ []) n.0 (omega (arith, laid.counted)))
    (λ b. let l : s.parser.used.nodes ≤ n.0 = ltb-false _ _ b in
    no _ _ _ b ∙ sym (none-at m.arena.nodes n.0 (omega (arith, laid.counted))))
