-- `from_keyword` meets its contract: of the keywords only those with the name's first byte are
-- asked about. The spellings are those of `keywords`, which antt computes.
-- Assumes nothing.
use mathlib.Core.Path.{refl, ◌∙◌, sym}
use mathlib.Core.List.{List, [], ◌∷◌}
use Prim.Native.Nat.{ℕ}
use Rattle.lex.specs.Bytes.{count_while, differs_from, before}
use Rattle.lex.specs.Kind.{Keyword, k_fn, k_false, keywords}
use Rattle.lex.proofs.Laws.{name_hit, name_more, shorter, another_first, by_first}
use Rattle.lex.proofs.tok.Type.from_keyword.Goals as goal

-- the first byte of each arm
firsts : List ℕ
firsts = 105 ∷ 101 ∷ 108 ∷ 102 ∷ 109 ∷ 97 ∷ 116 ∷ 83 ∷ 73 ∷ 68 ∷ 66 ∷ 86 ∷ 79 ∷ 65 ∷ 70 ∷ 82 ∷ []

-- the two keywords with the same first byte
fn : Keyword
fn = record { kind = k_fn; spelling = 102 ∷ 110 ∷ [] }

false : Keyword
false = record { kind = k_false; spelling = 102 ∷ 97 ∷ 108 ∷ 115 ∷ 101 ∷ [] }

pub returns-then-name-lt2 : goal.returns-then-name-lt2
unfolding keywords
returns-then-name-lt2 c = sym (shorter 2 keywords _ refl c.if-name-lt2.true)

pub returns-then-same_bytes : goal.returns-then-same_bytes
unfolding keywords fn false
returns-then-same_bytes c =
    name_hit fn (false ∷ []) _ (sym c.same_bytes.ensures ∙ c.if-same_bytes.true)
    ∙ by_first keywords _ c.in-102.is

pub returns-in-105 : goal.returns-in-105
unfolding keywords
returns-in-105 c = c.kind_if.ensures ∙ by_first keywords _ c.in-105.is

pub returns-in-101 : goal.returns-in-101
unfolding keywords
returns-in-101 c = c.kind_if-in-101.ensures ∙ by_first keywords _ c.in-101.is

pub returns-in-108 : goal.returns-in-108
unfolding keywords
returns-in-108 c = c.kind_if-in-108.ensures ∙ by_first keywords _ c.in-108.is

pub returns-else-same_bytes : goal.returns-else-same_bytes
unfolding keywords fn false
returns-else-same_bytes c =
    c.kind_if-in-102.ensures
    ∙ name_more fn (false ∷ []) _ (sym c.same_bytes.ensures ∙ c.if-same_bytes.false)
    ∙ by_first keywords _ c.in-102.is

pub returns-in-109 : goal.returns-in-109
unfolding keywords
returns-in-109 c = c.kind_if-in-109.ensures ∙ by_first keywords _ c.in-109.is

pub returns-in-97 : goal.returns-in-97
unfolding keywords
returns-in-97 c = c.kind_if-in-97.ensures ∙ by_first keywords _ c.in-97.is

pub returns-in-116 : goal.returns-in-116
unfolding keywords
returns-in-116 c = c.kind_if-in-116.ensures ∙ by_first keywords _ c.in-116.is

pub returns-in-83 : goal.returns-in-83
unfolding keywords
returns-in-83 c = c.kind_if-in-83.ensures ∙ by_first keywords _ c.in-83.is

pub returns-in-73 : goal.returns-in-73
unfolding keywords
returns-in-73 c = c.kind_if-in-73.ensures ∙ by_first keywords _ c.in-73.is

pub returns-in-68 : goal.returns-in-68
unfolding keywords
returns-in-68 c = c.kind_if-in-68.ensures ∙ by_first keywords _ c.in-68.is

pub returns-in-66 : goal.returns-in-66
unfolding keywords
returns-in-66 c = c.kind_if-in-66.ensures ∙ by_first keywords _ c.in-66.is

pub returns-in-86 : goal.returns-in-86
unfolding keywords
returns-in-86 c = c.kind_if-in-86.ensures ∙ by_first keywords _ c.in-86.is

pub returns-in-79 : goal.returns-in-79
unfolding keywords
returns-in-79 c = c.kind_if-in-79.ensures ∙ by_first keywords _ c.in-79.is

pub returns-in-65 : goal.returns-in-65
unfolding keywords
returns-in-65 c = c.kind_if-in-65.ensures ∙ by_first keywords _ c.in-65.is

pub returns-in-70 : goal.returns-in-70
unfolding keywords
returns-in-70 c = c.kind_if-in-70.ensures ∙ by_first keywords _ c.in-70.is

pub returns-in-82 : goal.returns-in-82
unfolding keywords
returns-in-82 c = c.kind_if-in-82.ensures ∙ by_first keywords _ c.in-82.is

pub returns-in_default : goal.returns-in_default
unfolding keywords firsts before count_while differs_from
returns-in_default c = sym (another_first firsts keywords _ refl c.in_default.in_default-own.rest)
