-- What the rules are written in: steps that take tokens and make records, one after the other until
-- one fails.
use Rattle.std.specs.Prelude.{true, false, ℕ, zero, suc, ◌+◌, ◌-◌, eqb, length, replicate}
use mathlib.Core.List.{List, [], ◌∷◌, ◌++◌, map, flatten}
use Rattle.lex.specs.Kind.{k_eof, k_s, k_ident, k_doc}
use Rattle.lex.specs.declared.diagnostic.Diagnostic.{Diagnostic}
use Rattle.lex.specs.declared.tok.Token.{Token}
use Rattle.lex.specs.Errors.{e_expected_token, e_expected_identifier}
use Rattle.rules.specs.Tree.{Arena, State, Result, ok, err}
use Rattle.ast.specs.Layout.{token_cells}
use Rattle.ast.specs.declared.Run.{Run}
use Rattle.ast.specs.declared.NodeId.{NodeId}
use Rattle.ast.specs.declared.TypeExprId.{TypeExprId}
use Rattle.ast.specs.declared.Node.{Node}
use Rattle.ast.specs.declared.TypeExpr.{TypeExpr}

abbrev pub Rule : Type 0 → Type 0
Rule A = State → Result A

infixl 10 ◌>>=◌
infixl 10 ◌>>◌
unfoldable pub ◌>>=◌ : {A B : Type 0} → Rule A → (A → Rule B) → Rule B
◌>>=◌ x f = λ s. elim (x s) [ ok a s₁ ↦ f a s₁ | err e s₁ ↦ err e s₁ ]

unfoldable pub ◌>>◌ : {A B : Type 0} → Rule A → Rule B → Rule B
◌>>◌ x y = λ s. elim (x s) [ ok a s₁ ↦ y s₁ | err e s₁ ↦ err e s₁ ]

unfoldable pub pure : {A : Type 0} → A → Rule A
pure a = λ s. ok a s

-- ---- tokens

-- the token being read: the first that is left
unfoldable pub current : List Token → Token
current [] = record { kind = k_eof; start = 0; len = 3 }
current (t ∷ ts) = t

-- Eof stays
unfoldable pub rest : List Token → List Token
rest [] = []
rest (t ∷ []) = t ∷ []
rest (t ∷ (u ∷ ts)) = u ∷ ts

unfoldable pub cur : Rule Token
cur = λ s. ok (current s.left) s

-- a token is taken, and kept
unfoldable pub advance : Rule Token
advance = λ s. ok (current s.left) (record { left = rest s.left; docs = s.docs; arena = s.arena; notes = record { marks = s.notes.marks ++ (true ∷ []); after_default = s.notes.after_default } })

-- the tokens that `x` takes are struck out
unfoldable pub struck : {A : Type 0} → Rule A → Rule A
struck x = λ s. elim (x s) [
  | ok a t ↦ ok a (record { left = t.left; docs = t.docs; arena = t.arena; notes = record { marks = s.notes.marks ++ replicate (length s.left - length t.left) false; after_default = t.notes.after_default } })
  | err e t ↦ err e t
]

-- by the kind of the token being read
unfoldable pub by_kind : {A : Type 0} → (ℕ → Rule A) → Rule A
by_kind f = λ s. f (current s.left).kind s

unfoldable pub if_kind : {A : Type 0} → ℕ → Rule A → Rule A → Rule A
if_kind k yes' no' = by_kind (λ n. elim (eqb n k) [ true ↦ yes' | false ↦ no' ])

-- what a table has for a kind, or what stands for all others
unfoldable pub choose : {A : Type 0} → List (ℕ × A) → A → ℕ → A
choose [] other k = other
choose (x ∷ xs) other k = elim (eqb k x.0) [ true ↦ x.1 | false ↦ choose xs other k ]

-- ---- errors

-- an error that names a token, as `Span::from_token` has its span
unfoldable pub at_token : ℕ → ℕ → Token → Diagnostic
at_token number wanted t =
    let shift : ℕ = elim (eqb t.kind k_s) [ true ↦ 1 | false ↦ 0 ] in
    record { number = number; start = t.start + shift; len = t.len; wanted = wanted; seen = t.kind }

unfoldable pub fail_expecting : {A : Type 0} → ℕ → ℕ → Rule A
fail_expecting number wanted = λ s. err (at_token number wanted (current s.left)) s

abbrev pub fail : {A : Type 0} → ℕ → Rule A
fail number = fail_expecting number 0

unfoldable pub expect : ℕ → Rule Token
expect k = if_kind k advance (fail_expecting e_expected_token k)

unfoldable pub expect_ident : Rule Token
expect_ident = if_kind k_ident advance (fail e_expected_identifier)

-- a token of the kind `k` has no place here
unfoldable pub reject_kind : ℕ → ℕ → Rule ℕ
reject_kind k number = if_kind k (fail number) (pure 0)

-- ---- records and lists

unfoldable pub with_arena : Arena → State → State
with_arena m s = record { left = s.left; docs = s.docs; arena = m; notes = s.notes }

-- a node takes the next number, and the next value number, and with it `more` value numbers that no
-- node has
unfoldable pub push_node_and : ℕ → (ℕ → Node) → Rule NodeId
push_node_and more f = λ s. let m = s.arena in
    ok (record { 0 = length m.nodes }) (with_arena (record { nodes = m.nodes ++ (f m.values ∷ []); types = m.types; cells = m.cells; values = m.values + (1 + more) }) s)

abbrev pub push_node : (ℕ → Node) → Rule NodeId
push_node f = push_node_and 0 f

unfoldable pub push_type : TypeExpr → Rule TypeExprId
push_type t = λ s. let m = s.arena in
    ok (record { 0 = length m.types }) (with_arena (record { nodes = m.nodes; types = m.types ++ (t ∷ []); cells = m.cells; values = m.values }) s)

-- a finished list, each member being its cells, goes behind the cells that are there
unfoldable pub alloc_slice : List (List ℕ) → Rule Run
alloc_slice xs = λ s. let m = s.arena in
    ok (record { start = length m.cells; len = length xs }) (with_arena (record { nodes = m.nodes; types = m.types; cells = m.cells ++ flatten xs; values = m.values }) s)

-- ---- loops

-- a step of a loop: once more, or out
pub data ControlFlow (A : Type 0) : Type 0 where
  continue : A → ControlFlow A
  break : A → ControlFlow A

unfoldable pub iterate : {A : Type 0} → ℕ → (A → Rule (ControlFlow A)) → A → Rule A
iterate zero f a = λ s. ok a s
iterate (suc n) f a = λ s. elim (f a s) [ ok t s₁ ↦ elim t [ continue b ↦ iterate n f b s₁ | break b ↦ ok b s₁ ] | err e s₁ ↦ err e s₁ ]

-- each turn but the last takes a token, or drops docs that wait, so as many turns as tokens are
-- left are enough (proofs/Counting)
unfoldable pub loop : {A : Type 0} → (A → Rule (ControlFlow A)) → A → Rule A
loop f a = λ s. iterate (length s.left) f a s

-- members up to a token of the kind `stop`, or the end
unfoldable pub members : ℕ → Rule (List ℕ) → Rule (List (List ℕ))
members stop item = loop (λ xs. if_kind k_eof (pure (break xs)) (if_kind stop (pure (break xs)) (item >>= (λ x. pure (continue (xs ++ (x ∷ []))))))) []

-- such members up to their closing token, as a finished list
unfoldable pub list_until : ℕ → Rule (List ℕ) → Rule Run
list_until stop item = do
  xs ← members stop item
  expect stop
  alloc_slice xs

-- ---- docs

unfoldable pub with_docs : List Token → State → State
with_docs ds s = record { left = s.left; docs = ds; arena = s.arena; notes = s.notes }

-- docs wait for what they document
abbrev pub keep_doc : ℕ → Token → Rule (ControlFlow ℕ)
keep_doc n d = λ s. ok (continue n) (with_docs (s.docs ++ (d ∷ [])) s)

abbrev pub doc_step : ℕ → Rule (ControlFlow ℕ)
doc_step n = if_kind k_doc (advance >>= keep_doc n) (pure (break n))

unfoldable pub collect_docs : Rule ℕ
collect_docs = loop doc_step 0

unfoldable pub take_docs : Rule Run
take_docs = λ s. alloc_slice (map token_cells s.docs) (with_docs [] s)

-- the readers one level deeper
pub record Readers : Type 0 where
  pub prefix : Rule NodeId
  pub expr : ℕ → Rule NodeId
  pub type : Rule TypeExprId
