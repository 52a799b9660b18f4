-- Worked examples of the law and of parents, computed.
use mathlib.Core.Path.{◌≡◌, refl}
use mathlib.Core.Option.{some}
use mathlib.Core.List.{List, [], ◌∷◌, flatten}
use Prim.Native.Nat.{ℕ}
use Prim.Native.String.{String}
use Rattle.lex.specs.Bytes as Bytes
use Rattle.lex.specs.Spelling as Spelling
use Rattle.lex.specs.Kind.{k_minus, k_braket_left, k_ident}
use Rattle.rules.specs.Shape as Shape
use Rattle.ast.specs.Lists as Lists
use Rattle.ast.specs.Tabulate as Tabulate
use Rattle.rules.specs.Law as Law
use Rattle.rules.specs.Law.{Child, a_node, a_type}
use Rattle.rules.specs.Parents as Parents
use Rattle.ast.specs.declared.Node.{Node}
use Rattle.ast.specs.declared.Node.TheVariants as N
use Rattle.rules.proofs.Compute.{bytes, computed, computed_from}

-- roots and children, and the parent of each node, in collecting mode
abbrev Names : String → List Child → List ℕ → Type 0
Names text cs parents = ((computed text).named.occurrences ≡ some cs) × ((computed text).named.parents ≡ parents)

pub names :
    Names "" [] []
    -- the node of a sign has two children
    × Names "a - b" (a_node 2 ∷ a_node 0 ∷ a_node 1 ∷ []) (2 ∷ 2 ∷ 2 ∷ [])
    -- P8: node 0, the body of the first default, is an orphan and names itself
    × Names "match {{a} {b}}" (a_node 2 ∷ a_node 1 ∷ []) (0 ∷ 2 ∷ 2 ∷ [])
    -- cases: a condition and a body each
    × Names "match {a {b c} {d}}" (a_node 4 ∷ a_node 0 ∷ a_node 1 ∷ a_node 2 ∷ a_node 3 ∷ []) (4 ∷ 4 ∷ 4 ∷ 4 ∷ 4 ∷ [])
    -- a type's number may be that of the node that names it, or above: the two are numbered apart
    × Names "fn f(a: Int) {}" (a_node 0 ∷ a_type 0 ∷ a_type 1 ∷ []) (0 ∷ [])
    × Names "a as Option<Int>" (a_node 1 ∷ a_node 0 ∷ a_type 1 ∷ a_type 0 ∷ []) (1 ∷ 1 ∷ [])
    × Names "extern \"p\" {fn f(a: Int) fn g() Str}" (a_node 0 ∷ a_type 0 ∷ a_type 1 ∷ a_type 2 ∷ []) (0 ∷ [])
    × Names "f({k: [a b]}).c" (a_node 6 ∷ a_node 1 ∷ a_node 2 ∷ a_node 3 ∷ a_node 0 ∷ a_node 4 ∷ a_node 5 ∷ []) (5 ∷ 3 ∷ 3 ∷ 4 ∷ 5 ∷ 6 ∷ 6 ∷ [])
unfolding computed computed_from
names = ((refl, refl), (refl, refl), (refl, refl), (refl, refl), (refl, refl), (refl, refl), (refl, refl), (refl, refl))

-- a root that fails leaves orphans; what a node below them has for a child it has
pub orphans :
    Names "let x = -a )" (a_node 2 ∷ a_node 0 ∷ a_node 1 ∷ []) (1 ∷ 2 ∷ 2 ∷ [])
    × Names "fn f() {-a" (a_node 0 ∷ []) (1 ∷ 1 ∷ [])
unfolding computed computed_from
orphans = ((refl, refl), (refl, refl))

abbrev Resynchronises : String → List ℕ → Type 0
Resynchronises text ns = (computed text).resynchronisings ≡ ns

-- the second begins where the first ended, but a token later: `let` is taken in between
pub resynchronises :
    Resynchronises "a" []
    × Resynchronises "let 1 let x = 2" (1 ∷ [])
    × Resynchronises "let let let" (1 ∷ 2 ∷ 3 ∷ [])
    × Resynchronises ") )" (0 ∷ [])
    × Resynchronises "}}" (0 ∷ 1 ∷ [])
unfolding computed computed_from
resynchronises = (refl, refl, refl, refl, refl)

-- ---- trees made by hand, over the script `a`

unfoldable pub turned : List Node → List ℕ → ℕ
unfolding
    bytes flatten
    Bytes.or Bytes.between Spelling.spelling_offset Spelling.spelling_start
    Spelling.well_formed Shape.word_of Shape.word Lists.map₁ Lists.map₂ Lists.map₃ Lists.map₄ Lists.map₅ Lists.and_then Lists.decoded Lists.chain Lists.number Lists.token Lists.run Lists.resolve Lists.both Lists.items Lists.from Lists.list_at Shape.w Shape.word_in Shape.param_in Shape.field_in Shape.words Shape.params Shape.shapes Shape.fields Shape.case_in Shape.cases Shape.fn_in Shape.fns Shape.type_shape Shape.node_shape Tabulate.lookup Tabulate.tabulate Shape.type_in Shape.type_shape_at Shape.node_in Shape.node_shape_at Shape.shapes_of Shape.shape_of
    Law.listed Law.node_in Law.type_in Law.field_in Law.param_in Law.case_in Law.fn_in Law.children_of Law.inner_of Law.same Law.times Law.all_of Law.occurrences
    Parents.all_below Parents.is_some Parents.sound Parents.once_each Parents.turned_away
turned nodes roots = Parents.turned_away (bytes "a") (record { arena = record { nodes = nodes; types = []; cells = 0 ∷ 0 ∷ []; values = 0 }; roots = roots })

abbrev pub a : Node
a = N.Ident 0 (record { kind = k_ident; start = 0; len = 1 })

abbrev pub minus : ℕ → Node
minus i = N.Unary 0 (record { kind = k_minus; start = 0; len = 1 }) (record { 0 = i })

abbrev pub array : ℕ → ℕ → Node
array start len = N.Array 0 (record { kind = k_braket_left; start = 0; len = 1 }) (record { start = start; len = len })

pub turns :
    -- a node below, and a root; orphans too
    (turned (a ∷ minus 0 ∷ []) (1 ∷ []) ≡ 0)
    × (turned (a ∷ minus 0 ∷ []) [] ≡ 0)
    -- twice among roots; a root that is a child; a child of two nodes; twice in one list
    × (turned (a ∷ []) (0 ∷ 0 ∷ []) ≡ 45)
    × (turned (a ∷ minus 0 ∷ []) (0 ∷ 1 ∷ []) ≡ 45)
    × (turned (a ∷ minus 0 ∷ minus 0 ∷ []) (1 ∷ []) ≡ 45)
    × (turned (a ∷ array 0 2 ∷ []) (1 ∷ []) ≡ 45)
    -- a child not below; a list outside; a root outside; 4 comes before 45
    × (turned (a ∷ minus 1 ∷ []) [] ≡ 4)
    × (turned (a ∷ array 1 2 ∷ []) [] ≡ 4)
    × (turned (a ∷ []) (1 ∷ []) ≡ 4)
    × (turned (a ∷ minus 1 ∷ []) (0 ∷ 0 ∷ []) ≡ 4)
unfolding turned
turns = (refl, refl, refl, refl, refl, refl, refl, refl, refl, refl)
