-- The kinds of token, numbered in the order of `Type`, the signs, the keyword table and the fixed
-- spellings.
use Rattle.std.specs.Prelude.{◌≡◌, ◌<◌, Bool, true, false, List, [], ◌∷◌, map, ℕ, eqb, ltb, length, get_or, Option, Some, None, codes}
use Rattle.std.specs.Borrow.{Bor}
use Rattle.lex.specs.Bytes.{between, find_byte}

abbrev pub k_eof : ℕ
k_eof = 1

abbrev pub k_brace_left : ℕ
k_brace_left = 2

abbrev pub k_brace_right : ℕ
k_brace_right = 3

abbrev pub k_plus : ℕ
k_plus = 4

abbrev pub k_minus : ℕ
k_minus = 5

abbrev pub k_asteriks : ℕ
k_asteriks = 6

abbrev pub k_slash : ℕ
k_slash = 7

abbrev pub k_percent : ℕ
k_percent = 8

abbrev pub k_equal : ℕ
k_equal = 9

abbrev pub k_double_equal : ℕ
k_double_equal = 10

abbrev pub k_less_than : ℕ
k_less_than = 11

abbrev pub k_greater_than : ℕ
k_greater_than = 12

abbrev pub k_exclaim : ℕ
k_exclaim = 13

abbrev pub k_not_equal : ℕ
k_not_equal = 14

abbrev pub k_question : ℕ
k_question = 15

abbrev pub k_colon : ℕ
k_colon = 16

abbrev pub k_dot : ℕ
k_dot = 17

abbrev pub k_braket_left : ℕ
k_braket_left = 18

abbrev pub k_braket_right : ℕ
k_braket_right = 19

abbrev pub k_curly_left : ℕ
k_curly_left = 20

abbrev pub k_curly_right : ℕ
k_curly_right = 21

abbrev pub k_s : ℕ
k_s = 22

abbrev pub k_d : ℕ
k_d = 23

abbrev pub k_i : ℕ
k_i = 24

abbrev pub k_ident : ℕ
k_ident = 25

abbrev pub k_doc : ℕ
k_doc = 26

abbrev pub k_import : ℕ
k_import = 27

abbrev pub k_extern : ℕ
k_extern = 28

abbrev pub k_let : ℕ
k_let = 29

abbrev pub k_fn : ℕ
k_fn = 30

abbrev pub k_match : ℕ
k_match = 31

abbrev pub k_as : ℕ
k_as = 32

abbrev pub k_true : ℕ
k_true = 33

abbrev pub k_false : ℕ
k_false = 34

abbrev pub k_str : ℕ
k_str = 35

abbrev pub k_int : ℕ
k_int = 36

abbrev pub k_double : ℕ
k_double = 37

abbrev pub k_bool : ℕ
k_bool = 38

abbrev pub k_void : ℕ
k_void = 39

abbrev pub k_option : ℕ
k_option = 40

abbrev pub k_array : ℕ
k_array = 41

abbrev pub k_foreign : ℕ
k_foreign = 42

abbrev pub k_record : ℕ
k_record = 43

-- two spellings are the same bytes
unfoldable pub same_bytes : List ℕ → List ℕ → Bool
same_bytes [] [] = true
same_bytes [] (y ∷ ys) = false
same_bytes (x ∷ xs) [] = false
same_bytes (x ∷ xs) (y ∷ ys) = elim (eqb x y) [ true ↦ same_bytes xs ys | false ↦ false ]

-- a keyword and its kind
pub record Keyword : Type 0 where
  pub kind : ℕ
  pub spelling : List ℕ

-- the table of `define_keywords!`
unfoldable pub keywords : List Keyword
keywords =
    record { kind = k_import; spelling = 105 ∷ 109 ∷ 112 ∷ 111 ∷ 114 ∷ 116 ∷ [] } ∷
    record { kind = k_extern; spelling = 101 ∷ 120 ∷ 116 ∷ 101 ∷ 114 ∷ 110 ∷ [] } ∷
    record { kind = k_let; spelling = 108 ∷ 101 ∷ 116 ∷ [] } ∷
    record { kind = k_fn; spelling = 102 ∷ 110 ∷ [] } ∷
    record { kind = k_match; spelling = 109 ∷ 97 ∷ 116 ∷ 99 ∷ 104 ∷ [] } ∷
    record { kind = k_as; spelling = 97 ∷ 115 ∷ [] } ∷
    record { kind = k_true; spelling = 116 ∷ 114 ∷ 117 ∷ 101 ∷ [] } ∷
    record { kind = k_false; spelling = 102 ∷ 97 ∷ 108 ∷ 115 ∷ 101 ∷ [] } ∷
    record { kind = k_str; spelling = 83 ∷ 116 ∷ 114 ∷ [] } ∷
    record { kind = k_int; spelling = 73 ∷ 110 ∷ 116 ∷ [] } ∷
    record { kind = k_double; spelling = 68 ∷ 111 ∷ 117 ∷ 98 ∷ 108 ∷ 101 ∷ [] } ∷
    record { kind = k_bool; spelling = 66 ∷ 111 ∷ 111 ∷ 108 ∷ [] } ∷
    record { kind = k_void; spelling = 86 ∷ 111 ∷ 105 ∷ 100 ∷ [] } ∷
    record { kind = k_option; spelling = 79 ∷ 112 ∷ 116 ∷ 105 ∷ 111 ∷ 110 ∷ [] } ∷
    record { kind = k_array; spelling = 65 ∷ 114 ∷ 114 ∷ 97 ∷ 121 ∷ [] } ∷
    record { kind = k_foreign; spelling = 70 ∷ 111 ∷ 114 ∷ 101 ∷ 105 ∷ 103 ∷ 110 ∷ [] } ∷
    record { kind = k_record; spelling = 82 ∷ 101 ∷ 99 ∷ 111 ∷ 114 ∷ 100 ∷ [] } ∷
    []

-- the kind of a name: its keyword's, or Ident
unfoldable pub name_kind : List Keyword → List ℕ → ℕ
name_kind [] name = k_ident
name_kind (w ∷ ws) name =
    elim (same_bytes w.spelling name) [ true ↦ w.kind | false ↦ name_kind ws name ]

-- the signs of one byte, and the kind of each
unfoldable pub punctuators : List ℕ
punctuators =
    40 ∷ 41 ∷ 43 ∷ 45 ∷ 42 ∷ 47 ∷ 37 ∷ 61 ∷ 60 ∷ 62 ∷ 33 ∷ 63 ∷ 58 ∷ 46 ∷ 91 ∷ 93 ∷ 123 ∷ 125 ∷ []

unfoldable pub punctuator_kinds : List ℕ
punctuator_kinds =
    k_brace_left ∷ k_brace_right ∷ k_plus ∷ k_minus ∷ k_asteriks ∷ k_slash ∷ k_percent ∷ k_equal ∷
    k_less_than ∷ k_greater_than ∷ k_exclaim ∷ k_question ∷ k_colon ∷ k_dot ∷
    k_braket_left ∷ k_braket_right ∷ k_curly_left ∷ k_curly_right ∷ []

-- the kind of a sign of one byte; 0 where the byte is none
unfoldable pub punctuator_kind : ℕ → ℕ
punctuator_kind b = elim (find_byte b punctuators) [ Some i ↦ get_or punctuator_kinds i 0 | None ↦ 0 ]

-- the kind of a sign
pub record IsKindOf (b kind : ℕ) : Type 0 where
  pub same : kind ≡ punctuator_kind b
  pub some : 0 < kind

-- the text at a number of a table; empty where it has none
abbrev pub text_at : List (Bor (List ℕ)) → ℕ → List ℕ
text_at table n = get_or (map (λ (t : Bor (List ℕ)). t.now) table) n []

-- the names of the kinds; 0 is none
unfoldable pub kind_names : List (List ℕ)
kind_names =
    [] ∷ codes "Eof" ∷ codes "BraceLeft" ∷ codes "BraceRight" ∷ codes "Plus" ∷ codes "Minus" ∷
    codes "Asteriks" ∷ codes "Slash" ∷ codes "Percent" ∷ codes "Equal" ∷ codes "DoubleEqual" ∷
    codes "LessThan" ∷ codes "GreaterThan" ∷ codes "Exclaim" ∷ codes "NotEqual" ∷
    codes "Question" ∷ codes "Colon" ∷ codes "Dot" ∷ codes "BraketLeft" ∷ codes "BraketRight" ∷
    codes "CurlyLeft" ∷ codes "CurlyRight" ∷ codes "S" ∷ codes "D" ∷ codes "I" ∷
    codes "Ident" ∷ codes "Doc" ∷ codes "Import" ∷ codes "Extern" ∷ codes "Let" ∷ codes "Fn" ∷
    codes "Match" ∷ codes "As" ∷ codes "True" ∷ codes "False" ∷ codes "Str" ∷ codes "Int" ∷
    codes "Double" ∷ codes "Bool" ∷ codes "Void" ∷ codes "Option" ∷ codes "Array" ∷
    codes "Foreign" ∷ codes "Record" ∷ []

unfoldable pub kind_name : ℕ → List ℕ
kind_name kind = get_or kind_names kind []

-- the name of a kind; none for a number that is no kind
unfoldable pub name_of : ℕ → Option (List ℕ)
name_of kind = elim (between 1 43 kind) [ true ↦ Some (kind_name kind) | false ↦ None ]

-- the fixed spelling of each kind from 0 on; empty for S, D, I, Ident and Doc, whose tokens have
-- their own
unfoldable pub fixed_spellings : List (List ℕ)
fixed_spellings =
    [] ∷ (101 ∷ 111 ∷ 102 ∷ []) ∷
    (40 ∷ []) ∷ (41 ∷ []) ∷ (43 ∷ []) ∷ (45 ∷ []) ∷ (42 ∷ []) ∷ (47 ∷ []) ∷ (37 ∷ []) ∷
    (61 ∷ []) ∷ (61 ∷ 61 ∷ []) ∷ (60 ∷ []) ∷ (62 ∷ []) ∷ (33 ∷ []) ∷ (33 ∷ 61 ∷ []) ∷ (63 ∷ []) ∷
    (58 ∷ []) ∷ (46 ∷ []) ∷ (91 ∷ []) ∷ (93 ∷ []) ∷ (123 ∷ []) ∷ (125 ∷ []) ∷
    [] ∷ [] ∷ [] ∷ [] ∷ [] ∷
    map (λ (w : Keyword). w.spelling) keywords

-- what `as_str` gives for a kind; empty for a number that is no kind
unfoldable pub fixed_spelling : ℕ → List ℕ
fixed_spelling kind = get_or fixed_spellings kind []

-- the fixed spelling of a kind that has one
unfoldable pub fixed_text : ℕ → Option (List ℕ)
fixed_text kind =
    elim (ltb 0 (length (fixed_spelling kind))) [
      | true ↦ Some (fixed_spelling kind)
      | false ↦ None
    ]

-- the bytes of a text that is answered, if one is
abbrev pub bytes_of : Option (Bor (List ℕ)) → Option (List ℕ)
bytes_of None = None
bytes_of (Some t) = Some t.now
