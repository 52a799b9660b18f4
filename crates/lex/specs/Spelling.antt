-- Where a token's own spelling begins, and whether a token is well formed. Only S, D, I, Ident and
-- Doc take their spelling from the script.
use Rattle.std.specs.Prelude.{Bool, true, false, List, ℕ, ◌+◌, leb, eqb, length, drop, Option, Some, None}
use Rattle.lex.specs.declared.tok.Token.{Token}
use Rattle.lex.specs.Bytes.{if, between}
use Rattle.lex.specs.Kind.{k_s, k_doc, fixed_spelling}
use Rattle.lex.specs.Lex.{leading_space}

-- the kinds whose spelling comes from the script: S, D, I, Ident and Doc, which stand in this order
abbrev pub has_spelling : ℕ → Bool
has_spelling k = elim (leb k_s k) [ true ↦ leb k k_doc | false ↦ false ]

-- how many of a token's bytes stand before its spelling: a quote; `#!` and one blank
unfoldable pub spelling_offset : ℕ → List ℕ → ℕ
spelling_offset kind bs =
    elim (eqb kind k_s) [
      | true ↦ 1
      | false ↦ elim (eqb kind k_doc) [ true ↦ leading_space (drop 2 bs) + 2 | false ↦ 0 ]
    ]

-- where a token's spelling begins
unfoldable pub spelling_start : List ℕ → Token → ℕ
spelling_start script t = t.start + spelling_offset t.kind (drop t.start script)

-- where the spelling of any token begins, if its kind has one and it lies within the script
unfoldable pub spelling : List ℕ → Token → Option ℕ
spelling script t =
    elim (has_spelling t.kind) [
      | true ↦
          elim (leb (spelling_start script t + t.len) (length script)) [
            | true ↦ Some (spelling_start script t)
            | false ↦ None
          ]
      | false ↦ None
    ]

-- its kind is one of `Type`, and its spelling lies in the script
unfoldable pub well_formed : List ℕ → Token → Bool
well_formed script t = elim (between 1 43 t.kind) [ true ↦ elim (has_spelling t.kind) [ true ↦ leb (spelling_start script t + t.len) (length script) | false ↦ true ] | false ↦ false ]

-- the length of `as_str`: of a spelling from the script, or of the kind's fixed one, whatever the token says
unfoldable pub as_str_length : Token → ℕ
as_str_length t = if (has_spelling t.kind) t.len (length (fixed_spelling t.kind))
