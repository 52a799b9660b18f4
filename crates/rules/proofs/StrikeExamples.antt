-- Worked examples of striking and same shape, computed: pairs of one shape, what is left, what a
-- shape tells that words do not, and why the user's demand 3 has its two conditions.
use mathlib.Core.Path.{◌≡◌, refl}
use mathlib.Core.Bool.{Bool, true, false}
use mathlib.Core.Option.{Option, none, some}
use mathlib.Core.List.{List, [], ◌∷◌, ◌++◌}
use Prim.Native.Nat.{ℕ}
use Prim.Native.String.{String}
use lib.Dec.{eqb}
use Rattle.lex.specs.Kind.{same_bytes, k_eof, k_brace_left, k_brace_right, k_plus, k_minus, k_asteriks, k_less_than, k_greater_than, k_curly_left, k_curly_right, k_colon, k_equal, k_s, k_d, k_i, k_ident, k_doc, k_import, k_let, k_fn, k_match, k_as, k_void, k_option}
use Rattle.rules.specs.Shape as S
use Rattle.rules.specs.Shape.{Word, Shapes}
use Rattle.rules.proofs.Compute.{bytes, computed}

-- what striking leaves
abbrev pub words : String → List Word
words s = (computed s).words

-- the shape, where strict mode accepts
abbrev pub form : String → Option Shapes
form s = (computed s).shape

-- a word of a kind with a fixed spelling, of one spelled in the script, and a name
unfoldable pub fixed : ℕ → Word
fixed n = record { kind = n; spelling = [] }

unfoldable pub spelled : ℕ → String → Word
unfolding bytes
spelled n t = record { kind = n; spelling = bytes t }

abbrev pub name : String → Word
name t = spelled k_ident t

unfoldable pub accepted : Option Shapes → Bool
accepted none = false
accepted (some ss) = true

unfoldable pub same_word : Word → Word → Bool
unfolding same_bytes
same_word a b = elim (eqb a.kind b.kind) [ true ↦ same_bytes a.spelling b.spelling | false ↦ false ]

unfoldable pub same_words : List Word → List Word → Bool
same_words [] [] = true
same_words [] (b ∷ bs) = false
same_words (a ∷ as') [] = false
same_words (a ∷ as') (b ∷ bs) = elim (same_word a b) [ true ↦ same_words as' bs | false ↦ false ]

-- ---- pairs of one shape: striking leaves the same words

-- both are accepted, with one shape, and striking leaves the same words
abbrev pub Alike : String → String → Type 0
Alike x y = (accepted (form x) ≡ true) × (form x ≡ form y) × (words x ≡ words y)

pub alike :
    -- brackets about an operand
    Alike "(a)+b" "a + b"
    × Alike "((a) + (((b))))" "a+b"
    -- a callee in brackets is called
    × Alike "f (a)" "(f)((a))"
    × Alike "(a.b)(c).d" "a.b(c).d"
    × Alike "-a.b" "-(a.b)"
    -- a number is not called, so its brackets group the next root
    × Alike "1 (b)" "1 b"
    × Alike "1.x" "(1) . x"
    -- brackets about a single path
    × Alike "import (\"x\")" "import \"x\""
    -- a written Void that is the whole return type
    × Alike "fn f() Void {}" "fn f() {}"
    × Alike "extern \"p\" {fn a() Void fn b(x: Int) Int fn c() Void}" "extern \"p\" {fn a() fn b(x: Int) Int fn c()}"
    -- a case's condition in brackets
    × Alike "match {a {b} {c}}" "match { (a) {(b)} {c} }"
    × Alike "match { ({k: a}) {b} {} }" "match { ({k: (a)}) {b} {} }"
    -- a doc's one leading blank is not its spelling
    × Alike "#! d\nlet x = 1" "#!d\nlet x = (1)"
    × Alike "extern \"p\" { #! d\n fn a() }" "extern \"p\" {\n#!d\nfn a() Void}"
    × Alike "let x = #! d\nlet y = (2)" "let x = #!d\nlet y = 2"
    × Alike "f(#! d\nlet x = 1)" "f ( #!d\n let x = (1) )"
    -- a fault and a comment are no tokens
    × Alike "$ a # comment\n b" "a\nb"
unfolding computed accepted
alike = ((refl, refl, refl), (refl, refl, refl), (refl, refl, refl), (refl, refl, refl), (refl, refl, refl), (refl, refl, refl), (refl, refl, refl), (refl, refl, refl), (refl, refl, refl), (refl, refl, refl), (refl, refl, refl), (refl, refl, refl), (refl, refl, refl), (refl, refl, refl), (refl, refl, refl), (refl, refl, refl), (refl, refl, refl))

-- ---- what is left

-- striking leaves these words, and Eof
abbrev pub Leaves : String → List Word → Type 0
Leaves x ws = words x ≡ (ws ++ (fixed k_eof ∷ []))

pub leaves :
    Leaves "(a)+b" (name "a" ∷ fixed k_plus ∷ name "b" ∷ [])
    -- the brackets of a call stay
    × Leaves "(f)((a))" (name "f" ∷ fixed k_brace_left ∷ name "a" ∷ fixed k_brace_right ∷ [])
    -- the brackets about paths stay but for exactly one path
    × Leaves "import ()" (fixed k_import ∷ fixed k_brace_left ∷ fixed k_brace_right ∷ [])
    × Leaves "import (\"x\")" (fixed k_import ∷ spelled k_s "x" ∷ [])
    × Leaves "import (\"x\" \"y\")" (fixed k_import ∷ fixed k_brace_left ∷ spelled k_s "x" ∷ spelled k_s "y" ∷ fixed k_brace_right ∷ [])
    -- a Void stays but where it is the whole return type
    × Leaves "fn f() Void {}" (fixed k_fn ∷ name "f" ∷ fixed k_brace_left ∷ fixed k_brace_right ∷ fixed k_curly_left ∷ fixed k_curly_right ∷ [])
    × Leaves "fn f(x: Void) Option<Void> {}" (fixed k_fn ∷ name "f" ∷ fixed k_brace_left ∷ name "x" ∷ fixed k_colon ∷ fixed k_void ∷ fixed k_brace_right ∷ fixed k_option ∷ fixed k_less_than ∷ fixed k_void ∷ fixed k_greater_than ∷ fixed k_curly_left ∷ fixed k_curly_right ∷ [])
    × Leaves "x as Void" (name "x" ∷ fixed k_as ∷ fixed k_void ∷ [])
    × Leaves "match {(a) {b} {c}}" (fixed k_match ∷ fixed k_curly_left ∷ name "a" ∷ fixed k_curly_left ∷ name "b" ∷ fixed k_curly_right ∷ fixed k_curly_left ∷ name "c" ∷ fixed k_curly_right ∷ fixed k_curly_right ∷ [])
    × Leaves "\"a (b\"" (spelled k_s "a (b" ∷ [])
    × Leaves "1. 2.5" (spelled k_d "1." ∷ spelled k_d "2.5" ∷ [])
    × Leaves "#! d \nlet x = 1" (spelled k_doc "d " ∷ fixed k_let ∷ name "x" ∷ fixed k_equal ∷ spelled k_i "1" ∷ [])
unfolding computed fixed spelled
leaves = (refl, refl, refl, refl, refl, refl, refl, refl, refl, refl, refl, refl)

-- ---- the same words, and not one shape: a reading tells more than the words that are left

abbrev pub a' : S.Shape
a' = S.ident (name "a")

abbrev pub b' : S.Shape
b' = S.ident (name "b")

abbrev pub c' : S.Shape
c' = S.ident (name "c")

pub tells :
    -- a sign that begins an operand, and an infix sign
    (words "a -b" ≡ words "a - b")
    × (form "a -b" ≡ some (S.shape a' (S.shape (S.unary (fixed k_minus) b') S.no_shape)))
    × (form "a - b" ≡ some (S.shape (S.bin (fixed k_minus) a' b') S.no_shape))
    -- brackets that change which operand a sign takes
    × (words "(a + b) * c" ≡ words "a + b * c")
    × (form "(a + b) * c" ≡ some (S.shape (S.bin (fixed k_asteriks) (S.bin (fixed k_plus) a' b') c') S.no_shape))
    × (form "a + b * c" ≡ some (S.shape (S.bin (fixed k_plus) a' (S.bin (fixed k_asteriks) b' c')) S.no_shape))
    × (words "-a + b" ≡ words "-(a + b)")
    × (form "-a + b" ≡ some (S.shape (S.bin (fixed k_plus) (S.unary (fixed k_minus) a') b') S.no_shape))
    × (form "-(a + b)" ≡ some (S.shape (S.unary (fixed k_minus) (S.bin (fixed k_plus) a' b')) S.no_shape))
unfolding computed fixed spelled
tells = (refl, refl, refl, refl, refl, refl, refl, refl, refl)

-- ---- why the user has two conditions in demand 3: accepted, of one shape, and striking leaves
-- other words. (01's paragraph does not repeat them; unique reading asks for no Doc right before an
-- Import only)

-- the first script breaks a condition, the second keeps both
abbrev pub Apart : String → String → Type 0
Apart x y = (accepted (form x) ≡ true) × (form x ≡ form y) × (same_words (words x) (words y) ≡ false)

-- how many blocks of a match follow its default
abbrev pub after_default : String → ℕ
after_default s = (computed s).notes.after_default

-- no Doc stands right before an Import
abbrev pub docs_plain : String → Bool
docs_plain s = (computed s).docs

pub apart :
    -- a later default replaces an earlier one, whose words are in no shape
    Apart "match {{a} {b}}" "match {{b}}"
    × (after_default "match {{a} {b}}" ≡ 1)
    × (after_default "match {{b}}" ≡ 0)
    -- a case that follows the default stands before it in the shape
    × Apart "match {{a} b {c}}" "match {b {c} {a}}"
    × (after_default "match {{a} b {c}}" ≡ 1)
    × (after_default "match {b {c} {a}}" ≡ 0)
    -- a match inside a case has a default of its own
    × (after_default "match {b {match {{c}}} {a}}" ≡ 0)
    -- a doc waits through an import
    × Apart "#! d\nimport \"x\" let y = 1" "import \"x\"\n#! d\nlet y = 1"
    × (docs_plain "#! d\nimport \"x\" let y = 1" ≡ false)
    × (docs_plain "import \"x\"\n#! d\nlet y = 1" ≡ true)
    -- and is dropped where the script ends behind the import
    × Apart "#! d\nimport \"x\"" "import \"x\""
    × (docs_plain "#! d\nimport \"x\"" ≡ false)
    × (docs_plain "import \"x\"" ≡ true)
    -- right before Eof a doc is refused (13), so that condition costs no script
    × (accepted (form "import \"x\"\n#! d") ≡ false)
unfolding computed accepted same_word same_words same_bytes
apart = ((refl, refl, refl), refl, refl, (refl, refl, refl), refl, refl, refl, (refl, refl, refl), refl, refl, (refl, refl, refl), refl, refl, refl)
