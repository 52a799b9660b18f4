-- What the code tests: tables by kind, binding powers, and whether a loop over an expression goes
-- on.
use Rattle.std.specs.Prelude.{Bool, true, false, not, ◌&&◌, ◌||◌, List, [], ◌∷◌, ℕ, ◌*◌, eqb, ltb, get_or, Option as Answer, Some, None}
use Rattle.std.proofs.Math.Option.{Option, none, some}
use Rattle.lex.specs.Kind.{k_plus, k_minus, k_asteriks, k_slash, k_percent, k_double_equal, k_less_than, k_greater_than, k_dot, k_brace_left, k_braket_left, k_curly_left, k_s, k_d, k_i, k_ident, k_doc, k_match, k_as, k_true, k_false}
use Rattle.tokens.specs.Table.{token_of}
use Rattle.ast.specs.Layout.{node_width}
use Rattle.rules.specs.Combinators.{Rule, Readers, choose, fail}
use Rattle.rules.specs.Rules.{stage_one, breaks_off, record_literal, array_literal, atom, ident, group, unary}
use Rattle.ast.specs.declared.NodeId.{NodeId}
use Rattle.parser_state.specs.Represents.{Reading, is_going}
use Rattle.parser_operators.specs.declared.Operand.{Operand}
use Rattle.parser_operators.specs.declared.Operand.TheVariants.{Record, Array, Atom, Name, Group, Sign}

-- ---- what begins an operand

abbrev pub operand_classes : List (ℕ × ℕ)
operand_classes = (k_curly_left, 1) ∷ (k_braket_left, 2) ∷ (k_s, 3) ∷ (k_i, 3) ∷ (k_d, 3) ∷ (k_true, 3) ∷ (k_false, 3) ∷ (k_ident, 4) ∷ (k_brace_left, 5) ∷ (k_plus, 6) ∷ (k_minus, 6) ∷ []

unfoldable pub operand_class : ℕ → ℕ
operand_class = choose operand_classes 0

-- the number of what the code found
abbrev pub class_number : Answer Operand → ℕ
class_number None = 0
class_number (Some Record) = 1
class_number (Some Array) = 2
class_number (Some Atom) = 3
class_number (Some Name) = 4
class_number (Some Group) = 5
class_number (Some Sign) = 6

unfoldable pub operand_of : Readers → ℕ → Rule NodeId
operand_of d = choose ((1, record_literal d) ∷ (2, array_literal d) ∷ (3, atom) ∷ (4, ident) ∷ (5, group d) ∷ (6, unary d) ∷ []) (fail 19)

-- ---- binding powers

-- the number of an infix sign, 9 where there is none; NotEqual, whose number would be 8, is no
-- infix sign of stage one
abbrev pub operator_numbers : List (ℕ × ℕ)
operator_numbers = (k_plus, 0) ∷ (k_minus, 1) ∷ (k_asteriks, 2) ∷ (k_slash, 3) ∷ (k_percent, 4) ∷ (k_double_equal, 5) ∷ (k_less_than, 6) ∷ (k_greater_than, 7) ∷ []

unfoldable pub operator_number : ℕ → ℕ
operator_number = choose operator_numbers 9

-- the number, where the kind is an infix sign
abbrev pub operator_of : ℕ → Answer ℕ
operator_of k = elim (ltb (operator_number k) 9) [ true ↦ Some (operator_number k) | false ↦ None ]

-- the power on the left of each sign, by its number
abbrev pub left_powers : List ℕ
left_powers = 1 ∷ 1 ∷ 3 ∷ 3 ∷ 3 ∷ 0 ∷ 0 ∷ 0 ∷ 0 ∷ []

unfoldable pub power_at : ℕ → Option ℕ
power_at n = elim (ltb n 9) [ true ↦ some (get_or left_powers n 0) | false ↦ none ]

-- ---- items

-- an expression begins, before which no doc is pending
unfoldable pub begins_expr : Reading → Bool
begins_expr p = eqb p.used.docs 0 && (ltb p.cur.kind k_doc || ltb k_match p.cur.kind)

-- ---- loops over an expression

-- the kind of an Ident or a Field
abbrev pub callable_kind : ℕ → Bool
callable_kind k = elim (eqb k 2) [ true ↦ true | false ↦ eqb k 9 ]

-- one of `made` nodes is an Ident or a Field
abbrev pub call_at : List ℕ → ℕ → NodeId → Bool
call_at nodes made n = elim (ltb n.0 made) [ true ↦ callable_kind (get_or nodes (node_width * n.0) 0) | false ↦ false ]

-- a postfix goes on
unfoldable pub postfix_by : Bool → Bool → Bool → Bool → Bool
postfix_by false dot brace calls = false
postfix_by true true brace calls = true
postfix_by true false false calls = false
postfix_by true false true calls = calls

abbrev pub postfix_follows : List ℕ → Reading → NodeId → Bool
postfix_follows nodes p n = postfix_by (is_going p.error) (eqb p.cur.kind k_dot) (eqb p.cur.kind k_brace_left) (call_at nodes p.used.nodes n)

-- an infix sign goes on that has the power `o` on its left
unfoldable pub sign_follows : Bool → ℕ → Option ℕ → Bool
sign_follows breaks least none = false
sign_follows true least (some p) = false
sign_follows false least (some p) = not (ltb p least)

unfoldable pub infix_by : Bool → Bool → Bool → Bool
infix_by false cast sign = false
infix_by true true sign = true
infix_by true false sign = sign

-- an infix goes on
abbrev pub infix_follows : List ℕ → Reading → ℕ → Bool
infix_follows script p least = infix_by (is_going p.error) (eqb p.cur.kind k_as) (sign_follows (breaks_off script (token_of p.cur)) least (stage_one p.cur.kind))
