-- The reading rules, one for each function of parser.rs and under its name, with the Rust's line of
-- grammar. A part of such a line is written `an expr = ..`.
use Rattle.std.specs.Prelude.{Bool, true, false, List, [], ◌∷◌, ◌++◌, ℕ, zero, suc, ◌+◌, eqb, ltb, length, get_or}
use Rattle.std.proofs.Math.Option.{Option, none, some}
use Rattle.lex.specs.Kind.{k_eof, k_brace_left, k_brace_right, k_plus, k_minus, k_asteriks, k_slash, k_percent, k_equal, k_double_equal, k_less_than, k_greater_than, k_colon, k_dot, k_braket_left, k_braket_right, k_curly_left, k_curly_right, k_s, k_d, k_i, k_ident, k_import, k_extern, k_let, k_fn, k_match, k_as, k_true, k_false, k_str, k_int, k_double, k_bool, k_void, k_option, k_array, k_foreign, k_record}
use Rattle.lex.specs.Lex.{is_prefix_sign}
use Rattle.lex.specs.declared.tok.Token.{Token}
use Rattle.lex.specs.Errors.{e_too_deep, e_docs_attached_to_nothing, e_docs_before_something_else}
use Rattle.lex.specs.Errors.{e_import_path_not_a_string, e_extern_without_a_string, e_nested_extern}
use Rattle.lex.specs.Errors.{e_match_without_a_default, e_expected_expression, e_empty_foreign}
use Rattle.lex.specs.Errors.{e_empty_option, e_empty_array, e_bad_type}
use Rattle.rules.specs.Tree.{ok, err}
use Rattle.rules.specs.Combinators.{Rule, ◌>>=◌, ◌>>◌, pure, cur, advance, struck, by_kind, if_kind, choose, at_token, fail, expect, expect_ident, reject_kind, push_node, push_node_and, push_type, alloc_slice, ControlFlow, continue, break, loop, members, list_until, collect_docs, take_docs, Readers}
use Rattle.ast.specs.Layout.{token_cells, run_cells}
use Rattle.ast.specs.declared.Run.{Run}
use Rattle.ast.specs.declared.NodeId.{NodeId}
use Rattle.ast.specs.declared.TypeExprId.{TypeExprId}
use Rattle.ast.specs.declared.Node.{Node}
use Rattle.ast.specs.declared.Node.TheVariants as N
use Rattle.ast.specs.declared.TypeExpr.TheVariants as T

-- ---- powers

-- the infix signs of stage one, each with the power on its left: NotEqual is none of them
unfoldable pub stage_one : ℕ → Option ℕ
stage_one = choose
    ((k_plus, some 1) ∷ (k_minus, some 1) ∷ (k_asteriks, some 3) ∷ (k_slash, some 3) ∷ (k_percent, some 3) ∷
    (k_double_equal, some 0) ∷ (k_less_than, some 0) ∷ (k_greater_than, some 0) ∷ [])
    none

-- the power on the right of an infix sign, by the one on its left
abbrev pub right_power : ℕ → ℕ
right_power left = left + 1

-- the power of a prefix sign
abbrev pub prefix_power : ℕ
prefix_power = 5

-- ---- rules that read nothing deeper

-- the word and the `<` of a type, `number` being the error where `>` follows
unfoldable pub open_angle : ℕ → Rule ℕ
open_angle number = do
  advance
  expect k_less_than
  reject_kind k_greater_than number

-- a type = atom-type
unfoldable pub atom_type : Rule TypeExprId
atom_type = do
  t ← advance
  push_type (T.Atom t)

-- a type = "Foreign" "<" ident ">"
unfoldable pub foreign_type : Rule TypeExprId
foreign_type = do
  open_angle e_empty_foreign
  name ← expect_ident
  expect k_greater_than
  push_type (T.Foreign name)

-- a Void that the script leaves out, at the next token
unfoldable pub supplied_void : Rule TypeExprId
supplied_void = do
  t ← cur
  push_type (T.Atom (record { kind = k_void; start = t.start; len = 4 }))

-- a path of an import
unfoldable pub import_path : Rule (List ℕ)
import_path = if_kind k_s (advance >>= (λ p. pure (token_cells p))) (fail e_import_path_not_a_string)

-- multiple package import: import ("io" "runtime")
unfoldable pub bracketed_paths : Rule (List (List ℕ))
bracketed_paths = do
  expect k_brace_left
  ps ← members k_brace_right import_path
  expect k_brace_right
  pure ps

-- `x` reads `(`, paths and `)`: the brackets about a single path are struck out
unfoldable pub strike_single : Rule (List (List ℕ)) → Rule (List (List ℕ))
strike_single x = λ s. elim (x s) [
  | ok ps t ↦ elim (eqb (length ps) 1) [
    | true ↦ ok ps (record { left = t.left; docs = t.docs; arena = t.arena; notes = record { marks = s.notes.marks ++ (false ∷ true ∷ false ∷ []); after_default = t.notes.after_default } })
    | false ↦ ok ps t
  ]
  | err e t ↦ err e t
]

-- single package import: import "io"
abbrev pub one_path : Rule (List (List ℕ))
one_path = advance >>= (λ p. pure (token_cells p ∷ []))

abbrev pub import_paths : Rule (List (List ℕ))
import_paths = if_kind k_s one_path (strike_single bracketed_paths)

-- import = "import" string | "import" "(" string* ")"
unfoldable pub parse_import : Rule NodeId
parse_import = do
  src ← advance
  paths ← import_paths
  pkgs ← alloc_slice paths
  push_node (λ id. N.Import id src pkgs)

-- the string behind `extern`
abbrev pub extern_name : Rule Token
extern_name = if_kind k_s advance (fail e_extern_without_a_string)

-- an expr = atom
unfoldable pub atom : Rule NodeId
atom = do
  t ← advance
  push_node (λ id. N.Atom id t)

-- an expr = ident
unfoldable pub ident : Rule NodeId
ident = do
  t ← advance
  push_node (λ id. N.Ident id t)

-- an Ident or a Field can be called
unfoldable pub is_callable_target : Node → Bool
is_callable_target (N.Atom id raw) = false
is_callable_target (N.Ident id name) = true
is_callable_target (N.Bin id op lhs rhs) = false
is_callable_target (N.Unary id op rhs) = false
is_callable_target (N.Let id docs name rhs) = false
is_callable_target (N.Fn id docs name args ret body) = false
is_callable_target (N.Match id cases t b) = false
is_callable_target (N.Call id target args) = false
is_callable_target (N.Field id target name) = true
is_callable_target (N.Cast id src lhs rhs) = false
is_callable_target (N.Import id src pkgs) = false
is_callable_target (N.Extern id src docs name fns) = false
is_callable_target (N.Record id src fields) = false
is_callable_target (N.Array id src elements) = false

unfoldable pub callable : NodeId → Rule Bool
callable n = λ s. ok (is_callable_target (get_or s.arena.nodes n.0 (N.Atom 0 (record { kind = 0; start = 0; len = 0 })))) s

-- an expr = expr "." ident
unfoldable pub field_access : NodeId → Rule (ControlFlow NodeId)
field_access target = do
  advance
  name ← expect_ident
  n ← push_node (λ id. N.Field id target name)
  pure (continue n)

-- a sign that begins an operand ends the one before it
unfoldable pub breaks_off : List ℕ → Token → Bool
breaks_off script t = choose ((k_plus, is_prefix_sign script t.start) ∷ (k_minus, is_prefix_sign script t.start) ∷ []) false t.kind

abbrev pub last_of : Token → List Token → Token
last_of d [] = d
last_of d (e ∷ es) = last_of e es

-- pending docs go to a let, a fn or an extern
unfoldable pub require_no_docs : {A : Type 0} → Rule A → Rule A
require_no_docs x = λ s. elim s.docs [
  | [] ↦ x s
  | d ∷ ds ↦ if_kind k_eof (λ t. err (at_token e_docs_attached_to_nothing 0 (last_of d ds)) t) (λ t. err (at_token e_docs_before_something_else 0 d) t) s
]

-- the cases of a match so far, and its default
pub record Cases : Type 0 where
  pub cases : List (List ℕ)
  pub default : Option (Token × Run)

-- one more block that follows a default, where there is one
unfoldable pub note_after_default : Cases → Rule ℕ
note_after_default c = λ s. elim c.default [ none ↦ ok 0 s | some d ↦ ok 1 (record { left = s.left; docs = s.docs; arena = s.arena; notes = record { marks = s.notes.marks; after_default = s.notes.after_default + 1 } }) ]

-- a node that is a member of a list
unfoldable pub node_member : Rule NodeId → Rule (List ℕ)
node_member x = do
  n ← x
  pure (n.0 ∷ [])

-- ---- the rules at one level, over the readers one level deeper

module _ (deeper : Readers) where
  -- ---- types

  -- a name and its type = ident ":" type
  unfoldable pub typed_name : Rule (List ℕ)
  typed_name = do
    name ← expect_ident
    expect k_colon
    t ← deeper.type
    pure (token_cells name ++ (t.0 ∷ []))

  -- a type = "Option" "<" type ">"
  unfoldable pub option_type : Rule TypeExprId
  option_type = do
    open_angle e_empty_option
    t ← deeper.type
    expect k_greater_than
    push_type (T.Option t)

  -- a type = "Array" "<" type ">"
  unfoldable pub array_type : Rule TypeExprId
  array_type = do
    open_angle e_empty_array
    t ← deeper.type
    expect k_greater_than
    push_type (T.Array t)

  -- a type = "Record" "<" (ident ":" type)* ">"
  unfoldable pub record_type : Rule TypeExprId
  record_type = do
    src ← advance
    expect k_less_than
    fields ← list_until k_greater_than typed_name
    push_type (T.Record src fields)

  unfoldable pub type_by_kind : ℕ → Rule TypeExprId
  type_by_kind = choose
      ((k_str, atom_type) ∷ (k_int, atom_type) ∷ (k_bool, atom_type) ∷ (k_void, atom_type) ∷ (k_double, atom_type) ∷
      (k_foreign, foreign_type) ∷ (k_option, option_type) ∷ (k_array, array_type) ∷ (k_record, record_type) ∷ [])
      (fail e_bad_type)

  -- type = atom-type | "Foreign" "<" ident ">" | "Option" "<" type ">" | "Array" "<" type ">" |
  -- "Record" "<" (ident ":" type)* ">"
  unfoldable pub parse_type : Rule TypeExprId
  parse_type = by_kind type_by_kind

  -- ---- items

  -- body = "{" prefix* "}"
  unfoldable pub parse_body : Rule Run
  parse_body = do
    expect k_curly_left
    list_until k_curly_right (node_member deeper.prefix)

  -- args = "(" (ident ":" type)* ")"
  unfoldable pub parse_args : Rule Run
  parse_args = do
    expect k_brace_left
    list_until k_brace_right typed_name

  -- a return type written `Void` is struck out
  unfoldable pub return_type : Rule TypeExprId
  return_type = if_kind k_void (struck deeper.type) deeper.type

  -- let = "let" ident "=" prefix
  unfoldable pub parse_let : Rule NodeId
  parse_let = do
    docs ← take_docs
    expect k_let
    name ← expect_ident
    expect k_equal
    rhs ← deeper.prefix
    push_node (λ id. N.Let id docs name rhs)

  -- the return type of a fn, Void where a `{` follows
  abbrev pub fn_return : Rule TypeExprId
  fn_return = if_kind k_curly_left supplied_void return_type

  -- fn = "fn" ident "(" (ident ":" type)* ")" type? "{" prefix* "}"
  unfoldable pub parse_fn : Rule NodeId
  parse_fn = do
    docs ← take_docs
    advance
    name ← expect_ident
    args ← parse_args
    return-type ← fn_return
    body ← parse_body
    push_node_and args.len (λ id. N.Fn id docs name args return-type body)

  -- the return type in an extern, Void where a `}` or a `fn` follows
  abbrev pub extern_return : Rule TypeExprId
  extern_return = if_kind k_curly_right supplied_void (if_kind k_fn supplied_void return_type)

  -- a fn of an extern = doc* "fn" ident args type?
  unfoldable pub extern_fn : Rule (List ℕ)
  extern_fn = do
    collect_docs
    reject_kind k_extern e_nested_extern
    docs ← take_docs
    expect k_fn
    name ← expect_ident
    args ← parse_args
    return-type ← extern_return
    pure (run_cells docs ++ token_cells name ++ run_cells args ++ (return-type.0 ∷ []))

  -- extern = "extern" string "{" (doc* "fn" ident args type?)* "}"
  unfoldable pub parse_extern : Rule NodeId
  parse_extern = do
    docs ← take_docs
    src ← expect k_extern
    name ← extern_name
    expect k_curly_left
    fns ← list_until k_curly_right extern_fn
    push_node (λ id. N.Extern id src docs name fns)

  -- default case
  unfoldable pub default_case : Cases → Rule Cases
  default_case c = do
    t ← cur
    body ← parse_body
    pure (record { cases = c.cases; default = some (t, body) })

  -- a case = expr "{" prefix* "}"
  unfoldable pub condition_case : Cases → Rule Cases
  condition_case c = do
    t ← cur
    condition ← deeper.expr 0
    body ← parse_body
    pure (record { cases = c.cases ++ ((token_cells t ++ (condition.0 ∷ run_cells body)) ∷ []); default = c.default })

  -- the next block of a match, up to `}` or the end
  unfoldable pub next_case : Cases → Rule (ControlFlow Cases)
  next_case c = if_kind k_eof (pure (break c)) (if_kind k_curly_right (pure (break c)) (do
    note_after_default c
    d ← if_kind k_curly_left (default_case c) (condition_case c)
    pure (continue d)))

  -- match = "match" "{" (expr "{" prefix* "}")* "{" prefix* "}" "}"
  unfoldable pub parse_match : Rule NodeId
  parse_match = do
    advance
    t ← cur
    expect k_curly_left
    c ← loop next_case (record { cases = []; default = none })
    expect k_curly_right
    cases ← alloc_slice c.cases
    elim c.default [
      | none ↦ (λ s. err (at_token e_match_without_a_default 0 t) s)
      | some d ↦ push_node (λ id. N.Match id cases d.0 d.1)
    ]

  -- an item that no docs go to
  abbrev pub plain_item : Rule NodeId
  plain_item = if_kind k_match parse_match (deeper.expr 0)

  abbrev pub item_by_kind : ℕ → Rule NodeId
  item_by_kind = choose
      ((k_import, parse_import) ∷ (k_let, parse_let) ∷ (k_fn, parse_fn) ∷ (k_extern, parse_extern) ∷ [])
      (require_no_docs plain_item)

  -- prefix = import | let | fn | match | expr
  unfoldable pub parse_prefix : Rule NodeId
  parse_prefix = do
    collect_docs
    by_kind item_by_kind

  -- ---- expressions

  -- <key>: <value>
  unfoldable pub field : Rule (List ℕ)
  field = do
    key ← expect_ident
    expect k_colon
    value ← deeper.expr 0
    pure (token_cells key ++ (value.0 ∷ []))

  -- an expr = { ident ":" expr }
  unfoldable pub record_literal : Rule NodeId
  record_literal = do
    src ← advance
    fields ← list_until k_curly_right field
    push_node (λ id. N.Record id src fields)

  -- an expr = "[" expr "]"
  unfoldable pub array_literal : Rule NodeId
  array_literal = do
    src ← advance
    elements ← list_until k_braket_right (node_member (deeper.expr 0))
    push_node (λ id. N.Array id src elements)

  -- an expr = "(" expr ")"
  unfoldable pub group : Rule NodeId
  group = do
    struck advance
    e ← deeper.expr 0
    struck (expect k_brace_right)
    pure e

  -- an expr = prefix-op expr
  unfoldable pub unary : Rule NodeId
  unary = do
    op ← advance
    rhs ← deeper.expr prefix_power
    push_node (λ id. N.Unary id op rhs)

  abbrev pub operand_by_kind : ℕ → Rule NodeId
  operand_by_kind = choose
      ((k_curly_left, record_literal) ∷ (k_braket_left, array_literal) ∷
      (k_s, atom) ∷ (k_i, atom) ∷ (k_d, atom) ∷ (k_true, atom) ∷ (k_false, atom) ∷ (k_ident, ident) ∷
      (k_brace_left, group) ∷ (k_plus, unary) ∷ (k_minus, unary) ∷ [])
      (fail e_expected_expression)

  -- what an expr begins with: all but `expr postfix-op` and `expr infix-op expr`
  unfoldable pub operand : Rule NodeId
  operand = by_kind operand_by_kind

  -- an expr = expr "(" prefix* ")"
  unfoldable pub call : NodeId → Rule (ControlFlow NodeId)
  call target = do
    advance
    args ← list_until k_brace_right (node_member deeper.prefix)
    n ← push_node (λ id. N.Call id target args)
    pure (continue n)

  abbrev pub call_step : NodeId → Bool → Rule (ControlFlow NodeId)
  call_step lhs c = elim c [ true ↦ call lhs | false ↦ pure (break lhs) ]

  abbrev pub postfix_step : NodeId → Rule (ControlFlow NodeId)
  postfix_step lhs = if_kind k_dot (field_access lhs) (if_kind k_brace_left (callable lhs >>= call_step lhs) (pure (break lhs)))

  -- postfix parsing loop: expr = expr postfix-op
  unfoldable pub postfix : NodeId → Rule NodeId
  postfix = loop postfix_step

  -- an expr = expr "as" type
  unfoldable pub cast : NodeId → Rule (ControlFlow NodeId)
  cast lhs = do
    src ← advance
    t ← deeper.type
    n ← push_node (λ id. N.Cast id src lhs t)
    pure (continue n)

  -- an expr = expr infix-op expr, `left` being the power on the left of the sign
  unfoldable pub binary : NodeId → ℕ → Rule (ControlFlow NodeId)
  binary lhs left = do
    op ← advance
    rhs ← deeper.expr (right_power left)
    n ← push_node (λ id. N.Bin id op lhs rhs)
    pure (continue n)

  -- `power` has the infix signs, each with the power on its left
  abbrev pub sign_step : (ℕ → Option ℕ) → List ℕ → ℕ → NodeId → Token → Rule (ControlFlow NodeId)
  sign_step power script least lhs t =
      elim (power t.kind) [
        | none ↦ pure (break lhs)
        | some left ↦ elim (breaks_off script t) [
          | true ↦ pure (break lhs)
          | false ↦ elim (ltb left least) [ true ↦ pure (break lhs) | false ↦ binary lhs left ]
        ]
      ]

  abbrev pub infix_step : (ℕ → Option ℕ) → List ℕ → ℕ → NodeId → Rule (ControlFlow NodeId)
  infix_step power script least lhs = if_kind k_as (cast lhs) (cur >>= sign_step power script least lhs)

  -- infix parsing loop: expr = expr infix-op expr
  unfoldable pub infixes : (ℕ → Option ℕ) → List ℕ → ℕ → NodeId → Rule NodeId
  infixes power script least = loop (infix_step power script least)

  -- expr =
  --     atom |
  --     ident |
  --     "(" expr ")" |
  --     prefix-op expr |
  --     expr postfix-op |
  --     expr infix-op expr |
  --     { ident ":" expr } |
  --     "[" expr "]"
  unfoldable pub parse_expr : (ℕ → Option ℕ) → List ℕ → ℕ → Rule NodeId
  parse_expr power script least = do
    x ← operand
    y ← postfix x
    infixes power script least y

-- ---- levels

-- the readers with so many levels left; a read below the last would stand too deep
unfoldable pub readers : (ℕ → Option ℕ) → List ℕ → ℕ → Readers
readers power script zero = record { prefix = fail e_too_deep; expr = λ least. fail e_too_deep; type = fail e_too_deep }
readers power script (suc l) =
    let d = readers power script l in
    record { prefix = parse_prefix d; expr = parse_expr d power script; type = parse_type d }

abbrev pub max_levels : ℕ
max_levels = 128
