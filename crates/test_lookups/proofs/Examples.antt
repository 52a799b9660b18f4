-- What the definitions say of the cases that `test_lookups` reads, in their order: written by
-- tools/cases, with the program's stdin and stdout.
use mathlib.Core.Path.{◌≡◌, refl}
use mathlib.Core.Bool.{true, false}
use mathlib.Core.Option.{none, some}
use mathlib.Core.List.{[], ◌∷◌}
use Prim.Native.Nat.{ℕ}
use lib.ListN.{replicate}
use Rattle.lex.specs.Answer.{refused, answer}
use Rattle.lex.specs.Bytes.{between}
use Rattle.lex.specs.Lex.{leading_space}
use Rattle.lex.specs.Kind.{keywords, fixed_spellings, fixed_spelling}
use Rattle.lex.specs.Spelling.{spelling_offset, spelling_start, well_formed, as_str_length}
use Rattle.ast.specs.Layout.{padded}
use Rattle.rules.specs.Shape as R
use Rattle.ast.specs.Lists as Lists
use Rattle.ast.specs.Lists.{and_then, map₁, map₂, map₃, map₄, map₅}
use Rattle.ast.specs.Tabulate.{lookup, tabulate, rows, entries_below, entry_at}
use Rattle.ast.specs.declared.Counts.{Counts}
use Rattle.ast.specs.Decode.{node_of, nodes_by_kind, node_at, type_of, types_by_kind, type_at}
use Rattle.ast.specs.Answer.{unless, lent, refusal}
use Rattle.lookups.specs.Lookup.{unless_malformed, record_asked, token_start, or_else, match_start, start_of, node_start, spelled, well_formed_token, type_token_of, type_token}
use Rattle.positions.specs.Span.{span_of, token_span}
use Rattle.positions.specs.Position.{feeds, columns_of, since, place_of, place_at}
use Rattle.compare.specs.Shapes.{types_below, nodes_below, root_shapes}
use Rattle.compare.specs.Same.{computed}
use Rattle.compare.specs.Compare.{refusals, compare_shapes, compare}

abbrev counts : ℕ → ℕ → ℕ → ℕ → Counts
counts n t c r = record { nodes = n; types = t; cells = c; roots = r; values = 0; diagnostics = 0 }

-- `unfolding tokens`, .. opens all that a definition is made of
unfoldable tokens : Unit {0}
unfolding well_formed between fixed_spelling fixed_spellings keywords spelling_start spelling_offset leading_space
tokens = tt

unfoldable records : Unit {0}
unfolding tokens refusal record_asked unless unless_malformed entry_at entries_below lookup tabulate rows and_then node_at node_of nodes_by_kind type_at type_of types_by_kind
records = tt

unfoldable start : Unit {0}
unfolding records node_start start_of token_start or_else match_start
start = tt

unfoldable type : Unit {0}
unfolding records type_token type_token_of well_formed_token spelled as_str_length
type = tt

unfoldable span : Unit {0}
unfolding tokens token_span span_of as_str_length
span = tt

unfoldable place : Unit {0}
unfolding place_at place_of feeds since columns_of between
place = tt

unfoldable comparison : Unit {0}
unfolding records computed compare compare_shapes refusals root_shapes nodes_below types_below R.shapes_of R.node_shape R.type_shape R.w R.word R.word_of R.words R.word_in R.params R.param_in R.shapes R.fields R.field_in R.cases R.case_in R.fns R.fn_in Lists.list_at Lists.items Lists.from Lists.chain Lists.resolve Lists.both Lists.number Lists.token Lists.run Lists.decoded map₁ map₂ map₃ map₄ map₅
comparison = tt

-- []
case_0 : node_start (lent (91 ∷ 93 ∷ []) (padded 32 (14 ∷ 0 ∷ 18 ∷ 0 ∷ 1 ∷ [])) (padded 16 ([])) (padded 16 ([])) (padded 2 ([])) (counts 1 0 0 0)) 0 ≡ answer none
unfolding start
case_0 = refl

-- [].b
case_1 : node_start (lent (91 ∷ 93 ∷ 46 ∷ 98 ∷ []) (padded 64 (14 ∷ 0 ∷ 18 ∷ 0 ∷ 1 ∷ 0 ∷ 0 ∷ 0 ∷ 0 ∷ 0 ∷ 0 ∷ 0 ∷ 0 ∷ 0 ∷ 0 ∷ 0 ∷ 9 ∷ 1 ∷ 0 ∷ 25 ∷ 3 ∷ 1 ∷ [])) (padded 32 ([])) (padded 32 ([])) (padded 4 ([])) (counts 2 0 0 0)) 1 ≡ answer none
unfolding start
case_1 = refl

-- [[] 1]
case_2 : node_start (lent (91 ∷ 91 ∷ 93 ∷ 32 ∷ 49 ∷ 93 ∷ []) (padded 96 (14 ∷ 0 ∷ 18 ∷ 1 ∷ 1 ∷ 0 ∷ 0 ∷ 0 ∷ 0 ∷ 0 ∷ 0 ∷ 0 ∷ 0 ∷ 0 ∷ 0 ∷ 0 ∷ 1 ∷ 1 ∷ 24 ∷ 4 ∷ 1 ∷ 0 ∷ 0 ∷ 0 ∷ 0 ∷ 0 ∷ 0 ∷ 0 ∷ 0 ∷ 0 ∷ 0 ∷ 0 ∷ 14 ∷ 0 ∷ 18 ∷ 0 ∷ 1 ∷ 0 ∷ 2 ∷ [])) (padded 48 ([])) (padded 48 (0 ∷ 1 ∷ [])) (padded 6 ([])) (counts 3 0 2 0)) 2 ≡ answer none
unfolding start
case_2 = refl

-- [] * a
case_3 : node_start (lent (91 ∷ 93 ∷ 32 ∷ 42 ∷ 32 ∷ 97 ∷ []) (padded 96 (14 ∷ 0 ∷ 18 ∷ 0 ∷ 1 ∷ 0 ∷ 0 ∷ 0 ∷ 0 ∷ 0 ∷ 0 ∷ 0 ∷ 0 ∷ 0 ∷ 0 ∷ 0 ∷ 2 ∷ 0 ∷ 25 ∷ 5 ∷ 1 ∷ 0 ∷ 0 ∷ 0 ∷ 0 ∷ 0 ∷ 0 ∷ 0 ∷ 0 ∷ 0 ∷ 0 ∷ 0 ∷ 3 ∷ 2 ∷ 6 ∷ 3 ∷ 1 ∷ 0 ∷ 1 ∷ [])) (padded 48 ([])) (padded 48 ([])) (padded 6 ([])) (counts 3 0 0 0)) 2 ≡ answer (some 3)
unfolding start
case_3 = refl

-- match with a case
case_4 : node_start (lent (109 ∷ 32 ∷ 97 ∷ 123 ∷ 98 ∷ 125 ∷ 32 ∷ 99 ∷ []) (padded 128 (7 ∷ 0 ∷ 0 ∷ 1 ∷ 20 ∷ 7 ∷ 1 ∷ [])) (padded 64 ([])) (padded 64 (25 ∷ 2 ∷ 1 ∷ [])) (padded 8 ([])) (counts 1 0 6 0)) 0 ≡ answer (some 2)
unfolding start
case_4 = refl

-- match without cases
case_5 : node_start (lent (109 ∷ 32 ∷ 97 ∷ 123 ∷ 98 ∷ 125 ∷ 32 ∷ 99 ∷ []) (padded 128 (7 ∷ 0 ∷ 0 ∷ 0 ∷ 20 ∷ 7 ∷ 1 ∷ [])) (padded 64 ([])) (padded 64 ([])) (padded 8 ([])) (counts 1 0 0 0)) 0 ≡ answer (some 7)
unfolding start
case_5 = refl

-- call of a name
case_6 : node_start (lent (102 ∷ 40 ∷ 41 ∷ []) (padded 48 (2 ∷ 0 ∷ 25 ∷ 0 ∷ 1 ∷ 0 ∷ 0 ∷ 0 ∷ 0 ∷ 0 ∷ 0 ∷ 0 ∷ 0 ∷ 0 ∷ 0 ∷ 0 ∷ 8 ∷ 1 ∷ [])) (padded 24 ([])) (padded 24 ([])) (padded 3 ([])) (counts 2 0 0 0)) 1 ≡ answer (some 0)
unfolding start
case_6 = refl

-- cast at its word
case_7 : node_start (lent (97 ∷ 32 ∷ 97 ∷ 115 ∷ 32 ∷ 73 ∷ []) (padded 96 (2 ∷ 0 ∷ 25 ∷ 0 ∷ 1 ∷ 0 ∷ 0 ∷ 0 ∷ 0 ∷ 0 ∷ 0 ∷ 0 ∷ 0 ∷ 0 ∷ 0 ∷ 0 ∷ 10 ∷ 1 ∷ 32 ∷ 2 ∷ 2 ∷ [])) (padded 48 ([])) (padded 48 ([])) (padded 6 ([])) (counts 2 0 0 0)) 1 ≡ answer (some 2)
unfolding start
case_7 = refl

-- node of kind 0
case_8 : node_start (lent (97 ∷ []) (padded 16 ([])) (padded 8 ([])) (padded 8 ([])) (padded 1 ([])) (counts 1 0 0 0)) 0 ≡ refused 4
unfolding start
case_8 = refl

-- node of kind 15
case_9 : node_start (lent (97 ∷ []) (padded 16 (15 ∷ 0 ∷ 25 ∷ 0 ∷ 1 ∷ [])) (padded 8 ([])) (padded 8 ([])) (padded 1 ([])) (counts 1 0 0 0)) 0 ≡ refused 4
unfolding start
case_9 = refl

-- token of kind 0
case_10 : node_start (lent (97 ∷ []) (padded 16 (2 ∷ 0 ∷ 0 ∷ 0 ∷ 1 ∷ [])) (padded 8 ([])) (padded 8 ([])) (padded 1 ([])) (counts 1 0 0 0)) 0 ≡ refused 4
unfolding start
case_10 = refl

-- token of kind 44
case_11 : node_start (lent (97 ∷ []) (padded 16 (4 ∷ 0 ∷ 44 ∷ 0 ∷ 1 ∷ [])) (padded 8 ([])) (padded 8 ([])) (padded 1 ([])) (counts 1 0 0 0)) 0 ≡ refused 4
unfolding start
case_11 = refl

-- token with a fixed spelling past the script
case_12 : node_start (lent (97 ∷ []) (padded 16 (4 ∷ 0 ∷ 43 ∷ 9 ∷ 1 ∷ [])) (padded 8 ([])) (padded 8 ([])) (padded 1 ([])) (counts 1 0 0 0)) 0 ≡ answer (some 9)
unfolding start
case_12 = refl

-- spelling up to the end
case_13 : node_start (lent (97 ∷ 98 ∷ []) (padded 32 (2 ∷ 0 ∷ 25 ∷ 1 ∷ 1 ∷ [])) (padded 16 ([])) (padded 16 ([])) (padded 2 ([])) (counts 1 0 0 0)) 0 ≡ answer (some 1)
unfolding start
case_13 = refl

-- spelling past the end
case_14 : node_start (lent (97 ∷ 98 ∷ []) (padded 32 (2 ∷ 0 ∷ 25 ∷ 1 ∷ 2 ∷ [])) (padded 16 ([])) (padded 16 ([])) (padded 2 ([])) (counts 1 0 0 0)) 0 ≡ refused 4
unfolding start
case_14 = refl

-- string whose quote is the last byte
case_15 : node_start (lent (97 ∷ 34 ∷ []) (padded 32 (1 ∷ 0 ∷ 22 ∷ 1 ∷ 1 ∷ [])) (padded 16 ([])) (padded 16 ([])) (padded 2 ([])) (counts 1 0 0 0)) 0 ≡ refused 4
unfolding start
case_15 = refl

-- child that is itself
case_16 : node_start (lent (97 ∷ []) (padded 16 (9 ∷ 0 ∷ 0 ∷ 25 ∷ 0 ∷ 1 ∷ [])) (padded 8 ([])) (padded 8 ([])) (padded 1 ([])) (counts 1 0 0 0)) 0 ≡ refused 4
unfolding start
case_16 = refl

-- child above
case_17 : node_start (lent (97 ∷ 97 ∷ []) (padded 32 (9 ∷ 0 ∷ 1 ∷ 25 ∷ 0 ∷ 1 ∷ 0 ∷ 0 ∷ 0 ∷ 0 ∷ 0 ∷ 0 ∷ 0 ∷ 0 ∷ 0 ∷ 0 ∷ 2 ∷ 0 ∷ 25 ∷ 0 ∷ 1 ∷ [])) (padded 16 ([])) (padded 16 ([])) (padded 2 ([])) (counts 2 0 0 0)) 0 ≡ refused 4
unfolding start
case_17 = refl

-- member past the list cells in use
case_18 : node_start (lent (97 ∷ 97 ∷ []) (padded 32 (2 ∷ 0 ∷ 25 ∷ 0 ∷ 1 ∷ 0 ∷ 0 ∷ 0 ∷ 0 ∷ 0 ∷ 0 ∷ 0 ∷ 0 ∷ 0 ∷ 0 ∷ 0 ∷ 14 ∷ 0 ∷ 18 ∷ 0 ∷ 1 ∷ 0 ∷ 1 ∷ [])) (padded 16 ([])) (padded 16 ([])) (padded 2 ([])) (counts 2 0 0 0)) 1 ≡ refused 4
unfolding start
case_18 = refl

-- empty run past the list cells
case_19 : node_start (lent (97 ∷ 97 ∷ []) (padded 32 (14 ∷ 0 ∷ 18 ∷ 0 ∷ 1 ∷ 1 ∷ [])) (padded 16 ([])) (padded 16 ([])) (padded 2 ([])) (counts 1 0 0 0)) 0 ≡ refused 4
unfolding start
case_19 = refl

-- cases of six cells each
case_20 : node_start (lent (97 ∷ 97 ∷ []) (padded 32 (7 ∷ 0 ∷ 0 ∷ 1 ∷ 25 ∷ 0 ∷ 1 ∷ [])) (padded 16 ([])) (padded 16 (25 ∷ 0 ∷ 1 ∷ [])) (padded 2 ([])) (counts 1 0 5 0)) 0 ≡ refused 4
unfolding start
case_20 = refl

-- node at the count
case_21 : node_start (lent (97 ∷ []) (padded 16 (2 ∷ 0 ∷ 25 ∷ 0 ∷ 1 ∷ [])) (padded 8 ([])) (padded 8 ([])) (padded 1 ([])) (counts 1 0 0 0)) 1 ≡ refused 3
unfolding start
case_21 = refl

-- node before a count past the array
case_22 : node_start (lent (97 ∷ []) (padded 16 (2 ∷ 0 ∷ 25 ∷ 0 ∷ 1 ∷ [])) (padded 8 ([])) (padded 8 ([])) (padded 1 ([])) (counts 9 0 0 0)) 0 ≡ answer (some 0)
unfolding start
case_22 = refl

-- node past the array's whole records
case_23 : node_start (lent (97 ∷ []) (padded 31 (2 ∷ 0 ∷ 25 ∷ 0 ∷ 1 ∷ 0 ∷ 0 ∷ 0 ∷ 0 ∷ 0 ∷ 0 ∷ 0 ∷ 0 ∷ 0 ∷ 0 ∷ 0 ∷ 2 ∷ 0 ∷ 25 ∷ [])) (padded 8 ([])) (padded 8 ([])) (padded 1 ([])) (counts 9 0 0 0)) 1 ≡ refused 3
unfolding start
case_23 = refl

-- node, nodes one cell short
case_24 : node_start (lent (97 ∷ 97 ∷ []) (padded 31 (2 ∷ 0 ∷ 25 ∷ 0 ∷ 1 ∷ [])) (padded 16 ([])) (padded 16 ([])) (padded 2 ([])) (counts 1 0 0 0)) 9 ≡ refused 2
unfolding start
case_24 = refl

-- node, types one cell short
case_25 : node_start (lent (97 ∷ 97 ∷ []) (padded 32 (2 ∷ 0 ∷ 25 ∷ 0 ∷ 1 ∷ [])) (padded 15 ([])) (padded 16 ([])) (padded 2 ([])) (counts 1 0 0 0)) 9 ≡ refused 2
unfolding start
case_25 = refl

-- node, lists one cell short
case_26 : node_start (lent (97 ∷ 97 ∷ []) (padded 32 (2 ∷ 0 ∷ 25 ∷ 0 ∷ 1 ∷ [])) (padded 16 ([])) (padded 15 ([])) (padded 2 ([])) (counts 1 0 0 0)) 9 ≡ refused 2
unfolding start
case_26 = refl

-- node, roots one cell short
case_27 : node_start (lent (97 ∷ 97 ∷ []) (padded 32 (2 ∷ 0 ∷ 25 ∷ 0 ∷ 1 ∷ [])) (padded 16 ([])) (padded 16 ([])) (padded 1 ([])) (counts 1 0 0 0)) 9 ≡ refused 2
unfolding start
case_27 = refl

-- node, 65,537 bytes
case_28 : node_start (lent (replicate 65537 32) (padded 1 ([])) (padded 1 ([])) (padded 1 ([])) (padded 1 ([])) (counts 0 0 0 0)) 0 ≡ refused 1
unfolding start
case_28 = refl

-- node, 65,536 bytes and short arrays
case_29 : node_start (lent (replicate 65536 32) (padded 1 ([])) (padded 1 ([])) (padded 1 ([])) (padded 1 ([])) (counts 0 0 0 0)) 0 ≡ refused 2
unfolding start
case_29 = refl

-- option of an array of Int
case_30 : type_token (lent (63 ∷ 63 ∷ 91 ∷ 93 ∷ 73 ∷ 110 ∷ 116 ∷ 32 ∷ []) (padded 128 ([])) (padded 64 (1 ∷ 36 ∷ 4 ∷ 3 ∷ 0 ∷ 0 ∷ 0 ∷ 0 ∷ 4 ∷ 0 ∷ 0 ∷ 0 ∷ 0 ∷ 0 ∷ 0 ∷ 0 ∷ 3 ∷ 1 ∷ [])) (padded 64 ([])) (padded 8 ([])) (counts 0 3 0 0)) 2 ≡ answer (record { kind = 36; start = 4; len = 3 })
unfolding type
case_30 = refl

-- record
case_31 : type_token (lent (82 ∷ 101 ∷ 99 ∷ 111 ∷ 114 ∷ 100 ∷ 60 ∷ 62 ∷ []) (padded 128 ([])) (padded 64 (5 ∷ 43 ∷ 0 ∷ 6 ∷ [])) (padded 64 ([])) (padded 8 ([])) (counts 0 1 0 0)) 0 ≡ answer (record { kind = 43; start = 0; len = 6 })
unfolding type
case_31 = refl

-- Void past the script
case_32 : type_token (lent (97 ∷ []) (padded 16 ([])) (padded 8 (1 ∷ 39 ∷ 9 ∷ 4 ∷ [])) (padded 8 ([])) (padded 1 ([])) (counts 0 1 0 0)) 0 ≡ answer (record { kind = 39; start = 9; len = 4 })
unfolding type
case_32 = refl

-- Int whose cell says 99
case_33 : type_token (lent (73 ∷ 110 ∷ 116 ∷ []) (padded 48 ([])) (padded 24 (1 ∷ 36 ∷ 0 ∷ 99 ∷ [])) (padded 24 ([])) (padded 3 ([])) (counts 0 1 0 0)) 0 ≡ answer (record { kind = 36; start = 0; len = 3 })
unfolding type
case_33 = refl

-- record whose cell says 0, in an array
case_34 : type_token (lent (82 ∷ 101 ∷ 99 ∷ 111 ∷ 114 ∷ 100 ∷ 60 ∷ 62 ∷ []) (padded 128 ([])) (padded 64 (5 ∷ 43 ∷ 0 ∷ 0 ∷ 0 ∷ 0 ∷ 0 ∷ 0 ∷ 4 ∷ [])) (padded 64 ([])) (padded 8 ([])) (counts 0 2 0 0)) 1 ≡ answer (record { kind = 43; start = 0; len = 6 })
unfolding type
case_34 = refl

-- foreign name, by its own length
case_35 : type_token (lent (70 ∷ 111 ∷ 114 ∷ 101 ∷ 105 ∷ 103 ∷ 110 ∷ 60 ∷ 97 ∷ 62 ∷ []) (padded 160 ([])) (padded 80 (2 ∷ 25 ∷ 8 ∷ 1 ∷ [])) (padded 80 ([])) (padded 10 ([])) (counts 0 1 0 0)) 0 ≡ answer (record { kind = 25; start = 8; len = 1 })
unfolding type
case_35 = refl

-- foreign, of the kind of a sign
case_36 : type_token (lent (97 ∷ []) (padded 16 ([])) (padded 8 (2 ∷ 4 ∷ 7 ∷ 5 ∷ [])) (padded 8 ([])) (padded 1 ([])) (counts 0 1 0 0)) 0 ≡ answer (record { kind = 4; start = 7; len = 1 })
unfolding type
case_36 = refl

-- inner type that is itself
case_37 : type_token (lent (97 ∷ []) (padded 16 ([])) (padded 8 (3 ∷ [])) (padded 8 ([])) (padded 1 ([])) (counts 0 1 0 0)) 0 ≡ refused 4
unfolding type
case_37 = refl

-- inner type above
case_38 : type_token (lent (97 ∷ 97 ∷ []) (padded 32 ([])) (padded 16 (4 ∷ 1 ∷ 0 ∷ 0 ∷ 0 ∷ 0 ∷ 0 ∷ 0 ∷ 1 ∷ 25 ∷ 0 ∷ 1 ∷ [])) (padded 16 ([])) (padded 2 ([])) (counts 0 2 0 0)) 0 ≡ refused 4
unfolding type
case_38 = refl

-- type of kind 6
case_39 : type_token (lent (97 ∷ []) (padded 16 ([])) (padded 8 (6 ∷ 25 ∷ 0 ∷ 1 ∷ [])) (padded 8 ([])) (padded 1 ([])) (counts 0 1 0 0)) 0 ≡ refused 4
unfolding type
case_39 = refl

-- foreign name past the end
case_40 : type_token (lent (97 ∷ []) (padded 16 ([])) (padded 8 (2 ∷ 25 ∷ 0 ∷ 2 ∷ [])) (padded 8 ([])) (padded 1 ([])) (counts 0 1 0 0)) 0 ≡ refused 4
unfolding type
case_40 = refl

-- type at the count
case_41 : type_token (lent (97 ∷ []) (padded 16 ([])) (padded 8 (1 ∷ 36 ∷ 0 ∷ 3 ∷ [])) (padded 8 ([])) (padded 1 ([])) (counts 0 1 0 0)) 1 ≡ refused 3
unfolding type
case_41 = refl

-- type past the array's whole records
case_42 : type_token (lent (97 ∷ []) (padded 16 ([])) (padded 15 (1 ∷ 36 ∷ 0 ∷ 3 ∷ 0 ∷ 0 ∷ 0 ∷ 0 ∷ 1 ∷ 36 ∷ [])) (padded 8 ([])) (padded 1 ([])) (counts 0 9 0 0)) 1 ≡ refused 3
unfolding type
case_42 = refl

-- type, nodes one cell short
case_43 : type_token (lent (97 ∷ 97 ∷ []) (padded 31 ([])) (padded 16 (1 ∷ 36 ∷ 0 ∷ 3 ∷ [])) (padded 16 ([])) (padded 2 ([])) (counts 0 1 0 0)) 9 ≡ refused 2
unfolding type
case_43 = refl

-- type, types one cell short
case_44 : type_token (lent (97 ∷ 97 ∷ []) (padded 32 ([])) (padded 15 (1 ∷ 36 ∷ 0 ∷ 3 ∷ [])) (padded 16 ([])) (padded 2 ([])) (counts 0 1 0 0)) 9 ≡ refused 2
unfolding type
case_44 = refl

-- type, lists one cell short
case_45 : type_token (lent (97 ∷ 97 ∷ []) (padded 32 ([])) (padded 16 (1 ∷ 36 ∷ 0 ∷ 3 ∷ [])) (padded 15 ([])) (padded 2 ([])) (counts 0 1 0 0)) 9 ≡ refused 2
unfolding type
case_45 = refl

-- type, roots one cell short
case_46 : type_token (lent (97 ∷ 97 ∷ []) (padded 32 ([])) (padded 16 (1 ∷ 36 ∷ 0 ∷ 3 ∷ [])) (padded 16 ([])) (padded 1 ([])) (counts 0 1 0 0)) 9 ≡ refused 2
unfolding type
case_46 = refl

-- type, 65,537 bytes
case_47 : type_token (lent (replicate 65537 32) (padded 1 ([])) (padded 1 ([])) (padded 1 ([])) (padded 1 ([])) (counts 0 0 0 0)) 0 ≡ refused 1
unfolding type
case_47 = refl

-- span of a name
case_48 : token_span (32 ∷ 97 ∷ 98 ∷ []) (record { kind = 25; start = 1; len = 2 }) ≡ answer (record { start = 1; len = 2 })
unfolding span
case_48 = refl

-- span of a string
case_49 : token_span (34 ∷ 97 ∷ 98 ∷ 34 ∷ []) (record { kind = 22; start = 0; len = 2 }) ≡ answer (record { start = 1; len = 2 })
unfolding span
case_49 = refl

-- span of a doc
case_50 : token_span (35 ∷ 33 ∷ 32 ∷ 100 ∷ []) (record { kind = 26; start = 0; len = 1 }) ≡ answer (record { start = 0; len = 1 })
unfolding span
case_50 = refl

-- span of the end
case_51 : token_span (97 ∷ 98 ∷ []) (record { kind = 1; start = 2; len = 3 }) ≡ answer (record { start = 2; len = 3 })
unfolding span
case_51 = refl

-- span of a fixed spelling, whatever its length
case_52 : token_span (43 ∷ []) (record { kind = 4; start = 0; len = 7 }) ≡ answer (record { start = 0; len = 1 })
unfolding span
case_52 = refl

-- span of a Void past the script
case_53 : token_span (97 ∷ []) (record { kind = 39; start = 9; len = 4 }) ≡ answer (record { start = 9; len = 4 })
unfolding span
case_53 = refl

-- span of a doc past the end
case_54 : token_span (35 ∷ 33 ∷ 32 ∷ 100 ∷ []) (record { kind = 26; start = 0; len = 2 }) ≡ refused 4
unfolding span
case_54 = refl

-- span of kind 0
case_55 : token_span (97 ∷ []) (record { kind = 0; start = 0; len = 1 }) ≡ refused 4
unfolding span
case_55 = refl

-- span of kind 44
case_56 : token_span (97 ∷ []) (record { kind = 44; start = 0; len = 1 }) ≡ refused 4
unfolding span
case_56 = refl

-- span at the end of 65,536 bytes
case_57 : token_span (replicate 65536 32) (record { kind = 1; start = 65536; len = 3 }) ≡ answer (record { start = 65536; len = 3 })
unfolding span
case_57 = refl

-- span of kind 44 in 65,537 bytes
case_58 : token_span (replicate 65537 32) (record { kind = 44; start = 0; len = 1 }) ≡ refused 1
unfolding span
case_58 = refl

-- place in an empty script
case_59 : place_at ([]) 0 ≡ answer (record { line = 1; column = 1 })
unfolding place
case_59 = refl

-- place of a line feed
case_60 : place_at (97 ∷ 10 ∷ 98 ∷ []) 1 ≡ answer (record { line = 1; column = 2 })
unfolding place
case_60 = refl

-- place behind a line feed
case_61 : place_at (97 ∷ 10 ∷ 98 ∷ []) 2 ≡ answer (record { line = 2; column = 1 })
unfolding place
case_61 = refl

-- place at the end
case_62 : place_at (97 ∷ 10 ∷ 10 ∷ 98 ∷ 99 ∷ []) 5 ≡ answer (record { line = 3; column = 3 })
unfolding place
case_62 = refl

-- place past the end
case_63 : place_at (97 ∷ 10 ∷ 10 ∷ 98 ∷ 99 ∷ []) 6 ≡ refused 3
unfolding place
case_63 = refl

-- place behind an accent
case_64 : place_at (195 ∷ 169 ∷ 33 ∷ 120 ∷ []) 3 ≡ answer (record { line = 1; column = 3 })
unfolding place
case_64 = refl

-- place between the two bytes of an accent
case_65 : place_at (195 ∷ 169 ∷ 33 ∷ 120 ∷ []) 1 ≡ answer (record { line = 1; column = 2 })
unfolding place
case_65 = refl

-- place behind broken UTF-8
case_66 : place_at (191 ∷ 10 ∷ 128 ∷ 127 ∷ 191 ∷ 192 ∷ 255 ∷ 33 ∷ []) 8 ≡ answer (record { line = 2; column = 5 })
unfolding place
case_66 = refl

-- place in 65,536 bytes
case_67 : place_at (replicate 65536 32) 3 ≡ answer (record { line = 1; column = 4 })
unfolding place
case_67 = refl

-- place past the end of 65,536 bytes
case_68 : place_at (replicate 65536 32) 65537 ≡ refused 3
unfolding place
case_68 = refl

-- place past the end of 65,537 bytes
case_69 : place_at (replicate 65537 32) 65538 ≡ refused 1
unfolding place
case_69 = refl

-- a + b and a+b, its nodes in another order
case_70 : compare (lent (97 ∷ 32 ∷ 43 ∷ 32 ∷ 98 ∷ []) (padded 80 (2 ∷ 0 ∷ 25 ∷ 0 ∷ 1 ∷ 0 ∷ 0 ∷ 0 ∷ 0 ∷ 0 ∷ 0 ∷ 0 ∷ 0 ∷ 0 ∷ 0 ∷ 0 ∷ 2 ∷ 0 ∷ 25 ∷ 4 ∷ 1 ∷ 0 ∷ 0 ∷ 0 ∷ 0 ∷ 0 ∷ 0 ∷ 0 ∷ 0 ∷ 0 ∷ 0 ∷ 0 ∷ 3 ∷ 2 ∷ 4 ∷ 2 ∷ 1 ∷ 0 ∷ 1 ∷ [])) (padded 40 ([])) (padded 40 ([])) (padded 5 (2 ∷ [])) (counts 3 0 0 1)) (lent (97 ∷ 43 ∷ 98 ∷ []) (padded 48 (2 ∷ 0 ∷ 25 ∷ 2 ∷ 1 ∷ 0 ∷ 0 ∷ 0 ∷ 0 ∷ 0 ∷ 0 ∷ 0 ∷ 0 ∷ 0 ∷ 0 ∷ 0 ∷ 2 ∷ 0 ∷ 25 ∷ 0 ∷ 1 ∷ 0 ∷ 0 ∷ 0 ∷ 0 ∷ 0 ∷ 0 ∷ 0 ∷ 0 ∷ 0 ∷ 0 ∷ 0 ∷ 3 ∷ 9 ∷ 4 ∷ 1 ∷ 1 ∷ 1 ∷ [])) (padded 24 ([])) (padded 24 ([])) (padded 3 (2 ∷ [])) (counts 3 0 0 1)) ≡ answer true
unfolding comparison
case_70 = refl

-- a + b and a+c
case_71 : compare (lent (97 ∷ 32 ∷ 43 ∷ 32 ∷ 98 ∷ []) (padded 80 (2 ∷ 0 ∷ 25 ∷ 0 ∷ 1 ∷ 0 ∷ 0 ∷ 0 ∷ 0 ∷ 0 ∷ 0 ∷ 0 ∷ 0 ∷ 0 ∷ 0 ∷ 0 ∷ 2 ∷ 0 ∷ 25 ∷ 4 ∷ 1 ∷ 0 ∷ 0 ∷ 0 ∷ 0 ∷ 0 ∷ 0 ∷ 0 ∷ 0 ∷ 0 ∷ 0 ∷ 0 ∷ 3 ∷ 2 ∷ 4 ∷ 2 ∷ 1 ∷ 0 ∷ 1 ∷ [])) (padded 40 ([])) (padded 40 ([])) (padded 5 (2 ∷ [])) (counts 3 0 0 1)) (lent (97 ∷ 43 ∷ 99 ∷ []) (padded 48 (2 ∷ 0 ∷ 25 ∷ 0 ∷ 1 ∷ 0 ∷ 0 ∷ 0 ∷ 0 ∷ 0 ∷ 0 ∷ 0 ∷ 0 ∷ 0 ∷ 0 ∷ 0 ∷ 2 ∷ 0 ∷ 25 ∷ 2 ∷ 1 ∷ 0 ∷ 0 ∷ 0 ∷ 0 ∷ 0 ∷ 0 ∷ 0 ∷ 0 ∷ 0 ∷ 0 ∷ 0 ∷ 3 ∷ 2 ∷ 4 ∷ 1 ∷ 1 ∷ 0 ∷ 1 ∷ [])) (padded 24 ([])) (padded 24 ([])) (padded 3 (2 ∷ [])) (counts 3 0 0 1)) ≡ answer false
unfolding comparison
case_71 = refl

-- a + b and a*b
case_72 : compare (lent (97 ∷ 32 ∷ 43 ∷ 32 ∷ 98 ∷ []) (padded 80 (2 ∷ 0 ∷ 25 ∷ 0 ∷ 1 ∷ 0 ∷ 0 ∷ 0 ∷ 0 ∷ 0 ∷ 0 ∷ 0 ∷ 0 ∷ 0 ∷ 0 ∷ 0 ∷ 2 ∷ 0 ∷ 25 ∷ 4 ∷ 1 ∷ 0 ∷ 0 ∷ 0 ∷ 0 ∷ 0 ∷ 0 ∷ 0 ∷ 0 ∷ 0 ∷ 0 ∷ 0 ∷ 3 ∷ 2 ∷ 4 ∷ 2 ∷ 1 ∷ 0 ∷ 1 ∷ [])) (padded 40 ([])) (padded 40 ([])) (padded 5 (2 ∷ [])) (counts 3 0 0 1)) (lent (97 ∷ 42 ∷ 98 ∷ []) (padded 48 (2 ∷ 0 ∷ 25 ∷ 0 ∷ 1 ∷ 0 ∷ 0 ∷ 0 ∷ 0 ∷ 0 ∷ 0 ∷ 0 ∷ 0 ∷ 0 ∷ 0 ∷ 0 ∷ 2 ∷ 0 ∷ 25 ∷ 2 ∷ 1 ∷ 0 ∷ 0 ∷ 0 ∷ 0 ∷ 0 ∷ 0 ∷ 0 ∷ 0 ∷ 0 ∷ 0 ∷ 0 ∷ 3 ∷ 2 ∷ 6 ∷ 1 ∷ 1 ∷ 0 ∷ 1 ∷ [])) (padded 24 ([])) (padded 24 ([])) (padded 3 (2 ∷ [])) (counts 3 0 0 1)) ≡ answer false
unfolding comparison
case_72 = refl

-- one root more
case_73 : compare (lent (97 ∷ 32 ∷ 43 ∷ 32 ∷ 98 ∷ []) (padded 80 (2 ∷ 0 ∷ 25 ∷ 0 ∷ 1 ∷ 0 ∷ 0 ∷ 0 ∷ 0 ∷ 0 ∷ 0 ∷ 0 ∷ 0 ∷ 0 ∷ 0 ∷ 0 ∷ 2 ∷ 0 ∷ 25 ∷ 4 ∷ 1 ∷ 0 ∷ 0 ∷ 0 ∷ 0 ∷ 0 ∷ 0 ∷ 0 ∷ 0 ∷ 0 ∷ 0 ∷ 0 ∷ 3 ∷ 2 ∷ 4 ∷ 2 ∷ 1 ∷ 0 ∷ 1 ∷ [])) (padded 40 ([])) (padded 40 ([])) (padded 5 (2 ∷ [])) (counts 3 0 0 1)) (lent (97 ∷ 43 ∷ 98 ∷ []) (padded 48 (2 ∷ 0 ∷ 25 ∷ 0 ∷ 1 ∷ 0 ∷ 0 ∷ 0 ∷ 0 ∷ 0 ∷ 0 ∷ 0 ∷ 0 ∷ 0 ∷ 0 ∷ 0 ∷ 2 ∷ 0 ∷ 25 ∷ 2 ∷ 1 ∷ 0 ∷ 0 ∷ 0 ∷ 0 ∷ 0 ∷ 0 ∷ 0 ∷ 0 ∷ 0 ∷ 0 ∷ 0 ∷ 3 ∷ 2 ∷ 4 ∷ 1 ∷ 1 ∷ 0 ∷ 1 ∷ [])) (padded 24 ([])) (padded 24 ([])) (padded 3 (2 ∷ [])) (counts 3 0 0 2)) ≡ answer false
unfolding comparison
case_73 = refl

-- no roots
case_74 : compare (lent ([]) (padded 0 ([])) (padded 0 ([])) (padded 0 ([])) (padded 0 ([])) (counts 0 0 0 0)) (lent (97 ∷ []) (padded 16 ([])) (padded 8 ([])) (padded 8 ([])) (padded 1 ([])) (counts 0 0 0 0)) ≡ answer true
unfolding comparison
case_74 = refl

-- a name and a number
case_75 : compare (lent (97 ∷ []) (padded 16 (2 ∷ 0 ∷ 25 ∷ 0 ∷ 1 ∷ [])) (padded 8 ([])) (padded 8 ([])) (padded 1 ([])) (counts 1 0 0 1)) (lent (49 ∷ []) (padded 16 (1 ∷ 0 ∷ 24 ∷ 0 ∷ 1 ∷ [])) (padded 8 ([])) (padded 8 ([])) (padded 1 ([])) (counts 1 0 0 1)) ≡ answer false
unfolding comparison
case_75 = refl

-- a call with one argument more
case_76 : compare (lent (102 ∷ 32 ∷ 97 ∷ 32 ∷ []) (padded 64 (2 ∷ 0 ∷ 25 ∷ 0 ∷ 1 ∷ 0 ∷ 0 ∷ 0 ∷ 0 ∷ 0 ∷ 0 ∷ 0 ∷ 0 ∷ 0 ∷ 0 ∷ 0 ∷ 2 ∷ 0 ∷ 25 ∷ 2 ∷ 1 ∷ 0 ∷ 0 ∷ 0 ∷ 0 ∷ 0 ∷ 0 ∷ 0 ∷ 0 ∷ 0 ∷ 0 ∷ 0 ∷ 8 ∷ 2 ∷ [])) (padded 32 ([])) (padded 32 (1 ∷ [])) (padded 4 (2 ∷ [])) (counts 3 0 1 1)) (lent (102 ∷ 32 ∷ 97 ∷ 32 ∷ []) (padded 64 (2 ∷ 0 ∷ 25 ∷ 0 ∷ 1 ∷ 0 ∷ 0 ∷ 0 ∷ 0 ∷ 0 ∷ 0 ∷ 0 ∷ 0 ∷ 0 ∷ 0 ∷ 0 ∷ 2 ∷ 0 ∷ 25 ∷ 2 ∷ 1 ∷ 0 ∷ 0 ∷ 0 ∷ 0 ∷ 0 ∷ 0 ∷ 0 ∷ 0 ∷ 0 ∷ 0 ∷ 0 ∷ 8 ∷ 2 ∷ 0 ∷ 0 ∷ 1 ∷ [])) (padded 32 ([])) (padded 32 (1 ∷ [])) (padded 4 (2 ∷ [])) (counts 3 0 1 1)) ≡ answer false
unfolding comparison
case_76 = refl

-- a let with a doc
case_77 : compare (lent (35 ∷ 33 ∷ 100 ∷ 32 ∷ 97 ∷ []) (padded 80 (2 ∷ 0 ∷ 25 ∷ 4 ∷ 1 ∷ 0 ∷ 0 ∷ 0 ∷ 0 ∷ 0 ∷ 0 ∷ 0 ∷ 0 ∷ 0 ∷ 0 ∷ 0 ∷ 5 ∷ 1 ∷ 0 ∷ 0 ∷ 25 ∷ 4 ∷ 1 ∷ [])) (padded 40 ([])) (padded 40 (26 ∷ 0 ∷ 1 ∷ [])) (padded 5 (1 ∷ [])) (counts 2 0 3 1)) (lent (35 ∷ 33 ∷ 100 ∷ 32 ∷ 97 ∷ []) (padded 80 (2 ∷ 0 ∷ 25 ∷ 4 ∷ 1 ∷ 0 ∷ 0 ∷ 0 ∷ 0 ∷ 0 ∷ 0 ∷ 0 ∷ 0 ∷ 0 ∷ 0 ∷ 0 ∷ 5 ∷ 1 ∷ 0 ∷ 1 ∷ 25 ∷ 4 ∷ 1 ∷ [])) (padded 40 ([])) (padded 40 (26 ∷ 0 ∷ 1 ∷ [])) (padded 5 (1 ∷ [])) (counts 2 0 3 1)) ≡ answer false
unfolding comparison
case_77 = refl

-- a case's own token, well formed, is left out
case_78 : compare (lent (97 ∷ 98 ∷ 99 ∷ []) (padded 48 (2 ∷ 0 ∷ 25 ∷ 0 ∷ 1 ∷ 0 ∷ 0 ∷ 0 ∷ 0 ∷ 0 ∷ 0 ∷ 0 ∷ 0 ∷ 0 ∷ 0 ∷ 0 ∷ 2 ∷ 0 ∷ 25 ∷ 1 ∷ 1 ∷ 0 ∷ 0 ∷ 0 ∷ 0 ∷ 0 ∷ 0 ∷ 0 ∷ 0 ∷ 0 ∷ 0 ∷ 0 ∷ 7 ∷ 2 ∷ 0 ∷ 1 ∷ 20 ∷ 0 ∷ 1 ∷ 7 ∷ 1 ∷ [])) (padded 24 ([])) (padded 24 (20 ∷ 0 ∷ 1 ∷ 0 ∷ 6 ∷ 1 ∷ 1 ∷ 1 ∷ [])) (padded 3 (2 ∷ [])) (counts 3 0 8 1)) (lent (97 ∷ 98 ∷ 99 ∷ []) (padded 48 (2 ∷ 0 ∷ 25 ∷ 0 ∷ 1 ∷ 0 ∷ 0 ∷ 0 ∷ 0 ∷ 0 ∷ 0 ∷ 0 ∷ 0 ∷ 0 ∷ 0 ∷ 0 ∷ 2 ∷ 0 ∷ 25 ∷ 1 ∷ 1 ∷ 0 ∷ 0 ∷ 0 ∷ 0 ∷ 0 ∷ 0 ∷ 0 ∷ 0 ∷ 0 ∷ 0 ∷ 0 ∷ 7 ∷ 2 ∷ 0 ∷ 1 ∷ 20 ∷ 0 ∷ 1 ∷ 7 ∷ 1 ∷ [])) (padded 24 ([])) (padded 24 (21 ∷ 0 ∷ 1 ∷ 0 ∷ 6 ∷ 1 ∷ 1 ∷ 1 ∷ [])) (padded 3 (2 ∷ [])) (counts 3 0 8 1)) ≡ answer true
unfolding comparison
case_78 = refl

-- a default's own token is not
case_79 : compare (lent (97 ∷ 98 ∷ 99 ∷ []) (padded 48 (2 ∷ 0 ∷ 25 ∷ 0 ∷ 1 ∷ 0 ∷ 0 ∷ 0 ∷ 0 ∷ 0 ∷ 0 ∷ 0 ∷ 0 ∷ 0 ∷ 0 ∷ 0 ∷ 2 ∷ 0 ∷ 25 ∷ 1 ∷ 1 ∷ 0 ∷ 0 ∷ 0 ∷ 0 ∷ 0 ∷ 0 ∷ 0 ∷ 0 ∷ 0 ∷ 0 ∷ 0 ∷ 7 ∷ 2 ∷ 0 ∷ 1 ∷ 20 ∷ 0 ∷ 1 ∷ 7 ∷ 1 ∷ [])) (padded 24 ([])) (padded 24 (20 ∷ 0 ∷ 1 ∷ 0 ∷ 6 ∷ 1 ∷ 1 ∷ 1 ∷ [])) (padded 3 (2 ∷ [])) (counts 3 0 8 1)) (lent (97 ∷ 98 ∷ 99 ∷ []) (padded 48 (2 ∷ 0 ∷ 25 ∷ 0 ∷ 1 ∷ 0 ∷ 0 ∷ 0 ∷ 0 ∷ 0 ∷ 0 ∷ 0 ∷ 0 ∷ 0 ∷ 0 ∷ 0 ∷ 2 ∷ 0 ∷ 25 ∷ 1 ∷ 1 ∷ 0 ∷ 0 ∷ 0 ∷ 0 ∷ 0 ∷ 0 ∷ 0 ∷ 0 ∷ 0 ∷ 0 ∷ 0 ∷ 7 ∷ 2 ∷ 0 ∷ 1 ∷ 21 ∷ 0 ∷ 1 ∷ 7 ∷ 1 ∷ [])) (padded 24 ([])) (padded 24 (20 ∷ 0 ∷ 1 ∷ 0 ∷ 6 ∷ 1 ∷ 1 ∷ 1 ∷ [])) (padded 3 (2 ∷ [])) (counts 3 0 8 1)) ≡ answer false
unfolding comparison
case_79 = refl

-- an orphan is not reached
case_80 : compare (lent (97 ∷ []) (padded 32 (99 ∷ 0 ∷ 0 ∷ 0 ∷ 0 ∷ 0 ∷ 0 ∷ 0 ∷ 0 ∷ 0 ∷ 0 ∷ 0 ∷ 0 ∷ 0 ∷ 0 ∷ 0 ∷ 2 ∷ 0 ∷ 25 ∷ 0 ∷ 1 ∷ [])) (padded 8 ([])) (padded 8 ([])) (padded 1 (1 ∷ [])) (counts 2 0 0 1)) (lent (97 ∷ []) (padded 16 (2 ∷ 0 ∷ 25 ∷ 0 ∷ 1 ∷ [])) (padded 8 ([])) (padded 8 ([])) (padded 1 ([])) (counts 1 0 0 1)) ≡ answer true
unfolding comparison
case_80 = refl

-- fn with docs, arguments, type and body
case_81 : compare (lent (35 ∷ 33 ∷ 32 ∷ 100 ∷ 32 ∷ 102 ∷ 58 ∷ 73 ∷ 97 ∷ []) (padded 144 (2 ∷ 0 ∷ 25 ∷ 7 ∷ 1 ∷ 0 ∷ 0 ∷ 0 ∷ 0 ∷ 0 ∷ 0 ∷ 0 ∷ 0 ∷ 0 ∷ 0 ∷ 0 ∷ 6 ∷ 1 ∷ 0 ∷ 1 ∷ 25 ∷ 5 ∷ 1 ∷ 3 ∷ 1 ∷ 0 ∷ 7 ∷ 1 ∷ [])) (padded 72 (1 ∷ 36 ∷ 7 ∷ 3 ∷ [])) (padded 72 (26 ∷ 0 ∷ 1 ∷ 25 ∷ 8 ∷ 1 ∷ [])) (padded 9 (1 ∷ [])) (counts 2 1 8 1)) (lent (35 ∷ 33 ∷ 100 ∷ 32 ∷ 102 ∷ 58 ∷ 73 ∷ 97 ∷ 97 ∷ []) (padded 144 (2 ∷ 0 ∷ 25 ∷ 6 ∷ 1 ∷ 0 ∷ 0 ∷ 0 ∷ 0 ∷ 0 ∷ 0 ∷ 0 ∷ 0 ∷ 0 ∷ 0 ∷ 0 ∷ 6 ∷ 1 ∷ 0 ∷ 1 ∷ 25 ∷ 4 ∷ 1 ∷ 3 ∷ 1 ∷ 0 ∷ 7 ∷ 1 ∷ [])) (padded 72 (1 ∷ 36 ∷ 6 ∷ 3 ∷ [])) (padded 72 (26 ∷ 0 ∷ 1 ∷ 25 ∷ 7 ∷ 1 ∷ [])) (padded 9 (1 ∷ [])) (counts 2 1 8 1)) ≡ answer true
unfolding comparison
case_81 = refl

-- root past the nodes, left
case_82 : compare (lent (97 ∷ []) (padded 16 (2 ∷ 0 ∷ 25 ∷ 0 ∷ 1 ∷ [])) (padded 8 ([])) (padded 8 ([])) (padded 1 (1 ∷ [])) (counts 1 0 0 1)) (lent (97 ∷ 32 ∷ 43 ∷ 32 ∷ 98 ∷ []) (padded 80 (2 ∷ 0 ∷ 25 ∷ 0 ∷ 1 ∷ 0 ∷ 0 ∷ 0 ∷ 0 ∷ 0 ∷ 0 ∷ 0 ∷ 0 ∷ 0 ∷ 0 ∷ 0 ∷ 2 ∷ 0 ∷ 25 ∷ 4 ∷ 1 ∷ 0 ∷ 0 ∷ 0 ∷ 0 ∷ 0 ∷ 0 ∷ 0 ∷ 0 ∷ 0 ∷ 0 ∷ 0 ∷ 3 ∷ 2 ∷ 4 ∷ 2 ∷ 1 ∷ 0 ∷ 1 ∷ [])) (padded 40 ([])) (padded 40 ([])) (padded 5 (2 ∷ [])) (counts 3 0 0 1)) ≡ refused 4
unfolding comparison
case_82 = refl

-- root past the nodes, right
case_83 : compare (lent (97 ∷ 32 ∷ 43 ∷ 32 ∷ 98 ∷ []) (padded 80 (2 ∷ 0 ∷ 25 ∷ 0 ∷ 1 ∷ 0 ∷ 0 ∷ 0 ∷ 0 ∷ 0 ∷ 0 ∷ 0 ∷ 0 ∷ 0 ∷ 0 ∷ 0 ∷ 2 ∷ 0 ∷ 25 ∷ 4 ∷ 1 ∷ 0 ∷ 0 ∷ 0 ∷ 0 ∷ 0 ∷ 0 ∷ 0 ∷ 0 ∷ 0 ∷ 0 ∷ 0 ∷ 3 ∷ 2 ∷ 4 ∷ 2 ∷ 1 ∷ 0 ∷ 1 ∷ [])) (padded 40 ([])) (padded 40 ([])) (padded 5 (2 ∷ [])) (counts 3 0 0 1)) (lent (97 ∷ []) (padded 16 (2 ∷ 0 ∷ 25 ∷ 0 ∷ 1 ∷ [])) (padded 8 ([])) (padded 8 ([])) (padded 1 (1 ∷ [])) (counts 1 0 0 1)) ≡ refused 4
unfolding comparison
case_83 = refl

-- root past the array's whole records, left
case_84 : compare (lent (97 ∷ []) (padded 31 (2 ∷ 0 ∷ 25 ∷ 0 ∷ 1 ∷ 0 ∷ 0 ∷ 0 ∷ 0 ∷ 0 ∷ 0 ∷ 0 ∷ 0 ∷ 0 ∷ 0 ∷ 0 ∷ 2 ∷ 0 ∷ 25 ∷ [])) (padded 8 ([])) (padded 8 ([])) (padded 1 (1 ∷ [])) (counts 9 0 0 1)) (lent (97 ∷ 32 ∷ 43 ∷ 32 ∷ 98 ∷ []) (padded 80 (2 ∷ 0 ∷ 25 ∷ 0 ∷ 1 ∷ 0 ∷ 0 ∷ 0 ∷ 0 ∷ 0 ∷ 0 ∷ 0 ∷ 0 ∷ 0 ∷ 0 ∷ 0 ∷ 2 ∷ 0 ∷ 25 ∷ 4 ∷ 1 ∷ 0 ∷ 0 ∷ 0 ∷ 0 ∷ 0 ∷ 0 ∷ 0 ∷ 0 ∷ 0 ∷ 0 ∷ 0 ∷ 3 ∷ 2 ∷ 4 ∷ 2 ∷ 1 ∷ 0 ∷ 1 ∷ [])) (padded 40 ([])) (padded 40 ([])) (padded 5 (2 ∷ [])) (counts 3 0 0 1)) ≡ refused 4
unfolding comparison
case_84 = refl

-- root past the array's whole records, right
case_85 : compare (lent (97 ∷ 32 ∷ 43 ∷ 32 ∷ 98 ∷ []) (padded 80 (2 ∷ 0 ∷ 25 ∷ 0 ∷ 1 ∷ 0 ∷ 0 ∷ 0 ∷ 0 ∷ 0 ∷ 0 ∷ 0 ∷ 0 ∷ 0 ∷ 0 ∷ 0 ∷ 2 ∷ 0 ∷ 25 ∷ 4 ∷ 1 ∷ 0 ∷ 0 ∷ 0 ∷ 0 ∷ 0 ∷ 0 ∷ 0 ∷ 0 ∷ 0 ∷ 0 ∷ 0 ∷ 3 ∷ 2 ∷ 4 ∷ 2 ∷ 1 ∷ 0 ∷ 1 ∷ [])) (padded 40 ([])) (padded 40 ([])) (padded 5 (2 ∷ [])) (counts 3 0 0 1)) (lent (97 ∷ []) (padded 31 (2 ∷ 0 ∷ 25 ∷ 0 ∷ 1 ∷ 0 ∷ 0 ∷ 0 ∷ 0 ∷ 0 ∷ 0 ∷ 0 ∷ 0 ∷ 0 ∷ 0 ∷ 0 ∷ 2 ∷ 0 ∷ 25 ∷ [])) (padded 8 ([])) (padded 8 ([])) (padded 1 (1 ∷ [])) (counts 9 0 0 1)) ≡ refused 4
unfolding comparison
case_85 = refl

-- count of roots past the array, left
case_86 : compare (lent (97 ∷ []) (padded 16 (2 ∷ 0 ∷ 25 ∷ 0 ∷ 1 ∷ [])) (padded 8 ([])) (padded 8 ([])) (padded 1 ([])) (counts 1 0 0 2)) (lent (97 ∷ 32 ∷ 43 ∷ 32 ∷ 98 ∷ []) (padded 80 (2 ∷ 0 ∷ 25 ∷ 0 ∷ 1 ∷ 0 ∷ 0 ∷ 0 ∷ 0 ∷ 0 ∷ 0 ∷ 0 ∷ 0 ∷ 0 ∷ 0 ∷ 0 ∷ 2 ∷ 0 ∷ 25 ∷ 4 ∷ 1 ∷ 0 ∷ 0 ∷ 0 ∷ 0 ∷ 0 ∷ 0 ∷ 0 ∷ 0 ∷ 0 ∷ 0 ∷ 0 ∷ 3 ∷ 2 ∷ 4 ∷ 2 ∷ 1 ∷ 0 ∷ 1 ∷ [])) (padded 40 ([])) (padded 40 ([])) (padded 5 (2 ∷ [])) (counts 3 0 0 1)) ≡ refused 4
unfolding comparison
case_86 = refl

-- count of roots past the array, right
case_87 : compare (lent (97 ∷ 32 ∷ 43 ∷ 32 ∷ 98 ∷ []) (padded 80 (2 ∷ 0 ∷ 25 ∷ 0 ∷ 1 ∷ 0 ∷ 0 ∷ 0 ∷ 0 ∷ 0 ∷ 0 ∷ 0 ∷ 0 ∷ 0 ∷ 0 ∷ 0 ∷ 2 ∷ 0 ∷ 25 ∷ 4 ∷ 1 ∷ 0 ∷ 0 ∷ 0 ∷ 0 ∷ 0 ∷ 0 ∷ 0 ∷ 0 ∷ 0 ∷ 0 ∷ 0 ∷ 3 ∷ 2 ∷ 4 ∷ 2 ∷ 1 ∷ 0 ∷ 1 ∷ [])) (padded 40 ([])) (padded 40 ([])) (padded 5 (2 ∷ [])) (counts 3 0 0 1)) (lent (97 ∷ []) (padded 16 (2 ∷ 0 ∷ 25 ∷ 0 ∷ 1 ∷ [])) (padded 8 ([])) (padded 8 ([])) (padded 1 ([])) (counts 1 0 0 2)) ≡ refused 4
unfolding comparison
case_87 = refl

-- root of an unknown kind, left
case_88 : compare (lent (97 ∷ []) (padded 16 (15 ∷ [])) (padded 8 ([])) (padded 8 ([])) (padded 1 ([])) (counts 1 0 0 1)) (lent (97 ∷ 32 ∷ 43 ∷ 32 ∷ 98 ∷ []) (padded 80 (2 ∷ 0 ∷ 25 ∷ 0 ∷ 1 ∷ 0 ∷ 0 ∷ 0 ∷ 0 ∷ 0 ∷ 0 ∷ 0 ∷ 0 ∷ 0 ∷ 0 ∷ 0 ∷ 2 ∷ 0 ∷ 25 ∷ 4 ∷ 1 ∷ 0 ∷ 0 ∷ 0 ∷ 0 ∷ 0 ∷ 0 ∷ 0 ∷ 0 ∷ 0 ∷ 0 ∷ 0 ∷ 3 ∷ 2 ∷ 4 ∷ 2 ∷ 1 ∷ 0 ∷ 1 ∷ [])) (padded 40 ([])) (padded 40 ([])) (padded 5 (2 ∷ [])) (counts 3 0 0 1)) ≡ refused 4
unfolding comparison
case_88 = refl

-- root of an unknown kind, right
case_89 : compare (lent (97 ∷ 32 ∷ 43 ∷ 32 ∷ 98 ∷ []) (padded 80 (2 ∷ 0 ∷ 25 ∷ 0 ∷ 1 ∷ 0 ∷ 0 ∷ 0 ∷ 0 ∷ 0 ∷ 0 ∷ 0 ∷ 0 ∷ 0 ∷ 0 ∷ 0 ∷ 2 ∷ 0 ∷ 25 ∷ 4 ∷ 1 ∷ 0 ∷ 0 ∷ 0 ∷ 0 ∷ 0 ∷ 0 ∷ 0 ∷ 0 ∷ 0 ∷ 0 ∷ 0 ∷ 3 ∷ 2 ∷ 4 ∷ 2 ∷ 1 ∷ 0 ∷ 1 ∷ [])) (padded 40 ([])) (padded 40 ([])) (padded 5 (2 ∷ [])) (counts 3 0 0 1)) (lent (97 ∷ []) (padded 16 (15 ∷ [])) (padded 8 ([])) (padded 8 ([])) (padded 1 ([])) (counts 1 0 0 1)) ≡ refused 4
unfolding comparison
case_89 = refl

-- right child not below, left
case_90 : compare (lent (97 ∷ 97 ∷ []) (padded 32 (2 ∷ 0 ∷ 25 ∷ 0 ∷ 1 ∷ 0 ∷ 0 ∷ 0 ∷ 0 ∷ 0 ∷ 0 ∷ 0 ∷ 0 ∷ 0 ∷ 0 ∷ 0 ∷ 3 ∷ 2 ∷ 4 ∷ 0 ∷ 1 ∷ 0 ∷ 1 ∷ [])) (padded 16 ([])) (padded 16 ([])) (padded 2 (1 ∷ [])) (counts 2 0 0 1)) (lent (97 ∷ 32 ∷ 43 ∷ 32 ∷ 98 ∷ []) (padded 80 (2 ∷ 0 ∷ 25 ∷ 0 ∷ 1 ∷ 0 ∷ 0 ∷ 0 ∷ 0 ∷ 0 ∷ 0 ∷ 0 ∷ 0 ∷ 0 ∷ 0 ∷ 0 ∷ 2 ∷ 0 ∷ 25 ∷ 4 ∷ 1 ∷ 0 ∷ 0 ∷ 0 ∷ 0 ∷ 0 ∷ 0 ∷ 0 ∷ 0 ∷ 0 ∷ 0 ∷ 0 ∷ 3 ∷ 2 ∷ 4 ∷ 2 ∷ 1 ∷ 0 ∷ 1 ∷ [])) (padded 40 ([])) (padded 40 ([])) (padded 5 (2 ∷ [])) (counts 3 0 0 1)) ≡ refused 4
unfolding comparison
case_90 = refl

-- right child not below, right
case_91 : compare (lent (97 ∷ 32 ∷ 43 ∷ 32 ∷ 98 ∷ []) (padded 80 (2 ∷ 0 ∷ 25 ∷ 0 ∷ 1 ∷ 0 ∷ 0 ∷ 0 ∷ 0 ∷ 0 ∷ 0 ∷ 0 ∷ 0 ∷ 0 ∷ 0 ∷ 0 ∷ 2 ∷ 0 ∷ 25 ∷ 4 ∷ 1 ∷ 0 ∷ 0 ∷ 0 ∷ 0 ∷ 0 ∷ 0 ∷ 0 ∷ 0 ∷ 0 ∷ 0 ∷ 0 ∷ 3 ∷ 2 ∷ 4 ∷ 2 ∷ 1 ∷ 0 ∷ 1 ∷ [])) (padded 40 ([])) (padded 40 ([])) (padded 5 (2 ∷ [])) (counts 3 0 0 1)) (lent (97 ∷ 97 ∷ []) (padded 32 (2 ∷ 0 ∷ 25 ∷ 0 ∷ 1 ∷ 0 ∷ 0 ∷ 0 ∷ 0 ∷ 0 ∷ 0 ∷ 0 ∷ 0 ∷ 0 ∷ 0 ∷ 0 ∷ 3 ∷ 2 ∷ 4 ∷ 0 ∷ 1 ∷ 0 ∷ 1 ∷ [])) (padded 16 ([])) (padded 16 ([])) (padded 2 (1 ∷ [])) (counts 2 0 0 1)) ≡ refused 4
unfolding comparison
case_91 = refl

-- type past the types, left
case_92 : compare (lent (97 ∷ 97 ∷ []) (padded 32 (2 ∷ 0 ∷ 25 ∷ 0 ∷ 1 ∷ 0 ∷ 0 ∷ 0 ∷ 0 ∷ 0 ∷ 0 ∷ 0 ∷ 0 ∷ 0 ∷ 0 ∷ 0 ∷ 10 ∷ 1 ∷ 32 ∷ 0 ∷ 2 ∷ [])) (padded 16 ([])) (padded 16 ([])) (padded 2 (1 ∷ [])) (counts 2 0 0 1)) (lent (97 ∷ 32 ∷ 43 ∷ 32 ∷ 98 ∷ []) (padded 80 (2 ∷ 0 ∷ 25 ∷ 0 ∷ 1 ∷ 0 ∷ 0 ∷ 0 ∷ 0 ∷ 0 ∷ 0 ∷ 0 ∷ 0 ∷ 0 ∷ 0 ∷ 0 ∷ 2 ∷ 0 ∷ 25 ∷ 4 ∷ 1 ∷ 0 ∷ 0 ∷ 0 ∷ 0 ∷ 0 ∷ 0 ∷ 0 ∷ 0 ∷ 0 ∷ 0 ∷ 0 ∷ 3 ∷ 2 ∷ 4 ∷ 2 ∷ 1 ∷ 0 ∷ 1 ∷ [])) (padded 40 ([])) (padded 40 ([])) (padded 5 (2 ∷ [])) (counts 3 0 0 1)) ≡ refused 4
unfolding comparison
case_92 = refl

-- type past the types, right
case_93 : compare (lent (97 ∷ 32 ∷ 43 ∷ 32 ∷ 98 ∷ []) (padded 80 (2 ∷ 0 ∷ 25 ∷ 0 ∷ 1 ∷ 0 ∷ 0 ∷ 0 ∷ 0 ∷ 0 ∷ 0 ∷ 0 ∷ 0 ∷ 0 ∷ 0 ∷ 0 ∷ 2 ∷ 0 ∷ 25 ∷ 4 ∷ 1 ∷ 0 ∷ 0 ∷ 0 ∷ 0 ∷ 0 ∷ 0 ∷ 0 ∷ 0 ∷ 0 ∷ 0 ∷ 0 ∷ 3 ∷ 2 ∷ 4 ∷ 2 ∷ 1 ∷ 0 ∷ 1 ∷ [])) (padded 40 ([])) (padded 40 ([])) (padded 5 (2 ∷ [])) (counts 3 0 0 1)) (lent (97 ∷ 97 ∷ []) (padded 32 (2 ∷ 0 ∷ 25 ∷ 0 ∷ 1 ∷ 0 ∷ 0 ∷ 0 ∷ 0 ∷ 0 ∷ 0 ∷ 0 ∷ 0 ∷ 0 ∷ 0 ∷ 0 ∷ 10 ∷ 1 ∷ 32 ∷ 0 ∷ 2 ∷ [])) (padded 16 ([])) (padded 16 ([])) (padded 2 (1 ∷ [])) (counts 2 0 0 1)) ≡ refused 4
unfolding comparison
case_93 = refl

-- type of an unknown kind, left
case_94 : compare (lent (97 ∷ 97 ∷ []) (padded 32 (2 ∷ 0 ∷ 25 ∷ 0 ∷ 1 ∷ 0 ∷ 0 ∷ 0 ∷ 0 ∷ 0 ∷ 0 ∷ 0 ∷ 0 ∷ 0 ∷ 0 ∷ 0 ∷ 10 ∷ 1 ∷ 32 ∷ 0 ∷ 2 ∷ [])) (padded 16 (6 ∷ 36 ∷ 0 ∷ 3 ∷ [])) (padded 16 ([])) (padded 2 (1 ∷ [])) (counts 2 1 0 1)) (lent (97 ∷ 32 ∷ 43 ∷ 32 ∷ 98 ∷ []) (padded 80 (2 ∷ 0 ∷ 25 ∷ 0 ∷ 1 ∷ 0 ∷ 0 ∷ 0 ∷ 0 ∷ 0 ∷ 0 ∷ 0 ∷ 0 ∷ 0 ∷ 0 ∷ 0 ∷ 2 ∷ 0 ∷ 25 ∷ 4 ∷ 1 ∷ 0 ∷ 0 ∷ 0 ∷ 0 ∷ 0 ∷ 0 ∷ 0 ∷ 0 ∷ 0 ∷ 0 ∷ 0 ∷ 3 ∷ 2 ∷ 4 ∷ 2 ∷ 1 ∷ 0 ∷ 1 ∷ [])) (padded 40 ([])) (padded 40 ([])) (padded 5 (2 ∷ [])) (counts 3 0 0 1)) ≡ refused 4
unfolding comparison
case_94 = refl

-- type of an unknown kind, right
case_95 : compare (lent (97 ∷ 32 ∷ 43 ∷ 32 ∷ 98 ∷ []) (padded 80 (2 ∷ 0 ∷ 25 ∷ 0 ∷ 1 ∷ 0 ∷ 0 ∷ 0 ∷ 0 ∷ 0 ∷ 0 ∷ 0 ∷ 0 ∷ 0 ∷ 0 ∷ 0 ∷ 2 ∷ 0 ∷ 25 ∷ 4 ∷ 1 ∷ 0 ∷ 0 ∷ 0 ∷ 0 ∷ 0 ∷ 0 ∷ 0 ∷ 0 ∷ 0 ∷ 0 ∷ 0 ∷ 3 ∷ 2 ∷ 4 ∷ 2 ∷ 1 ∷ 0 ∷ 1 ∷ [])) (padded 40 ([])) (padded 40 ([])) (padded 5 (2 ∷ [])) (counts 3 0 0 1)) (lent (97 ∷ 97 ∷ []) (padded 32 (2 ∷ 0 ∷ 25 ∷ 0 ∷ 1 ∷ 0 ∷ 0 ∷ 0 ∷ 0 ∷ 0 ∷ 0 ∷ 0 ∷ 0 ∷ 0 ∷ 0 ∷ 0 ∷ 10 ∷ 1 ∷ 32 ∷ 0 ∷ 2 ∷ [])) (padded 16 (6 ∷ 36 ∷ 0 ∷ 3 ∷ [])) (padded 16 ([])) (padded 2 (1 ∷ [])) (counts 2 1 0 1)) ≡ refused 4
unfolding comparison
case_95 = refl

-- docs past the list cells, left
case_96 : compare (lent (97 ∷ 97 ∷ []) (padded 32 (2 ∷ 0 ∷ 25 ∷ 0 ∷ 1 ∷ 0 ∷ 0 ∷ 0 ∷ 0 ∷ 0 ∷ 0 ∷ 0 ∷ 0 ∷ 0 ∷ 0 ∷ 0 ∷ 5 ∷ 1 ∷ 0 ∷ 1 ∷ 25 ∷ 0 ∷ 1 ∷ [])) (padded 16 ([])) (padded 16 (26 ∷ [])) (padded 2 (1 ∷ [])) (counts 2 0 2 1)) (lent (97 ∷ 32 ∷ 43 ∷ 32 ∷ 98 ∷ []) (padded 80 (2 ∷ 0 ∷ 25 ∷ 0 ∷ 1 ∷ 0 ∷ 0 ∷ 0 ∷ 0 ∷ 0 ∷ 0 ∷ 0 ∷ 0 ∷ 0 ∷ 0 ∷ 0 ∷ 2 ∷ 0 ∷ 25 ∷ 4 ∷ 1 ∷ 0 ∷ 0 ∷ 0 ∷ 0 ∷ 0 ∷ 0 ∷ 0 ∷ 0 ∷ 0 ∷ 0 ∷ 0 ∷ 3 ∷ 2 ∷ 4 ∷ 2 ∷ 1 ∷ 0 ∷ 1 ∷ [])) (padded 40 ([])) (padded 40 ([])) (padded 5 (2 ∷ [])) (counts 3 0 0 1)) ≡ refused 4
unfolding comparison
case_96 = refl

-- docs past the list cells, right
case_97 : compare (lent (97 ∷ 32 ∷ 43 ∷ 32 ∷ 98 ∷ []) (padded 80 (2 ∷ 0 ∷ 25 ∷ 0 ∷ 1 ∷ 0 ∷ 0 ∷ 0 ∷ 0 ∷ 0 ∷ 0 ∷ 0 ∷ 0 ∷ 0 ∷ 0 ∷ 0 ∷ 2 ∷ 0 ∷ 25 ∷ 4 ∷ 1 ∷ 0 ∷ 0 ∷ 0 ∷ 0 ∷ 0 ∷ 0 ∷ 0 ∷ 0 ∷ 0 ∷ 0 ∷ 0 ∷ 3 ∷ 2 ∷ 4 ∷ 2 ∷ 1 ∷ 0 ∷ 1 ∷ [])) (padded 40 ([])) (padded 40 ([])) (padded 5 (2 ∷ [])) (counts 3 0 0 1)) (lent (97 ∷ 97 ∷ []) (padded 32 (2 ∷ 0 ∷ 25 ∷ 0 ∷ 1 ∷ 0 ∷ 0 ∷ 0 ∷ 0 ∷ 0 ∷ 0 ∷ 0 ∷ 0 ∷ 0 ∷ 0 ∷ 0 ∷ 5 ∷ 1 ∷ 0 ∷ 1 ∷ 25 ∷ 0 ∷ 1 ∷ [])) (padded 16 ([])) (padded 16 (26 ∷ [])) (padded 2 (1 ∷ [])) (counts 2 0 2 1)) ≡ refused 4
unfolding comparison
case_97 = refl

-- spelling past the script, left
case_98 : compare (lent (97 ∷ 97 ∷ []) (padded 32 (2 ∷ 0 ∷ 25 ∷ 1 ∷ 2 ∷ [])) (padded 16 ([])) (padded 16 ([])) (padded 2 ([])) (counts 1 0 0 1)) (lent (97 ∷ 32 ∷ 43 ∷ 32 ∷ 98 ∷ []) (padded 80 (2 ∷ 0 ∷ 25 ∷ 0 ∷ 1 ∷ 0 ∷ 0 ∷ 0 ∷ 0 ∷ 0 ∷ 0 ∷ 0 ∷ 0 ∷ 0 ∷ 0 ∷ 0 ∷ 2 ∷ 0 ∷ 25 ∷ 4 ∷ 1 ∷ 0 ∷ 0 ∷ 0 ∷ 0 ∷ 0 ∷ 0 ∷ 0 ∷ 0 ∷ 0 ∷ 0 ∷ 0 ∷ 3 ∷ 2 ∷ 4 ∷ 2 ∷ 1 ∷ 0 ∷ 1 ∷ [])) (padded 40 ([])) (padded 40 ([])) (padded 5 (2 ∷ [])) (counts 3 0 0 1)) ≡ refused 4
unfolding comparison
case_98 = refl

-- spelling past the script, right
case_99 : compare (lent (97 ∷ 32 ∷ 43 ∷ 32 ∷ 98 ∷ []) (padded 80 (2 ∷ 0 ∷ 25 ∷ 0 ∷ 1 ∷ 0 ∷ 0 ∷ 0 ∷ 0 ∷ 0 ∷ 0 ∷ 0 ∷ 0 ∷ 0 ∷ 0 ∷ 0 ∷ 2 ∷ 0 ∷ 25 ∷ 4 ∷ 1 ∷ 0 ∷ 0 ∷ 0 ∷ 0 ∷ 0 ∷ 0 ∷ 0 ∷ 0 ∷ 0 ∷ 0 ∷ 0 ∷ 3 ∷ 2 ∷ 4 ∷ 2 ∷ 1 ∷ 0 ∷ 1 ∷ [])) (padded 40 ([])) (padded 40 ([])) (padded 5 (2 ∷ [])) (counts 3 0 0 1)) (lent (97 ∷ 97 ∷ []) (padded 32 (2 ∷ 0 ∷ 25 ∷ 1 ∷ 2 ∷ [])) (padded 16 ([])) (padded 16 ([])) (padded 2 ([])) (counts 1 0 0 1)) ≡ refused 4
unfolding comparison
case_99 = refl

-- case's own token of an unknown kind, left
case_100 : compare (lent (97 ∷ 98 ∷ 99 ∷ []) (padded 48 (2 ∷ 0 ∷ 25 ∷ 0 ∷ 1 ∷ 0 ∷ 0 ∷ 0 ∷ 0 ∷ 0 ∷ 0 ∷ 0 ∷ 0 ∷ 0 ∷ 0 ∷ 0 ∷ 2 ∷ 0 ∷ 25 ∷ 1 ∷ 1 ∷ 0 ∷ 0 ∷ 0 ∷ 0 ∷ 0 ∷ 0 ∷ 0 ∷ 0 ∷ 0 ∷ 0 ∷ 0 ∷ 7 ∷ 2 ∷ 0 ∷ 1 ∷ 20 ∷ 0 ∷ 1 ∷ 7 ∷ 1 ∷ [])) (padded 24 ([])) (padded 24 (99 ∷ 0 ∷ 1 ∷ 0 ∷ 6 ∷ 1 ∷ 1 ∷ 1 ∷ [])) (padded 3 (2 ∷ [])) (counts 3 0 8 1)) (lent (97 ∷ 32 ∷ 43 ∷ 32 ∷ 98 ∷ []) (padded 80 (2 ∷ 0 ∷ 25 ∷ 0 ∷ 1 ∷ 0 ∷ 0 ∷ 0 ∷ 0 ∷ 0 ∷ 0 ∷ 0 ∷ 0 ∷ 0 ∷ 0 ∷ 0 ∷ 2 ∷ 0 ∷ 25 ∷ 4 ∷ 1 ∷ 0 ∷ 0 ∷ 0 ∷ 0 ∷ 0 ∷ 0 ∷ 0 ∷ 0 ∷ 0 ∷ 0 ∷ 0 ∷ 3 ∷ 2 ∷ 4 ∷ 2 ∷ 1 ∷ 0 ∷ 1 ∷ [])) (padded 40 ([])) (padded 40 ([])) (padded 5 (2 ∷ [])) (counts 3 0 0 1)) ≡ refused 4
unfolding comparison
case_100 = refl

-- case's own token of an unknown kind, right
case_101 : compare (lent (97 ∷ 32 ∷ 43 ∷ 32 ∷ 98 ∷ []) (padded 80 (2 ∷ 0 ∷ 25 ∷ 0 ∷ 1 ∷ 0 ∷ 0 ∷ 0 ∷ 0 ∷ 0 ∷ 0 ∷ 0 ∷ 0 ∷ 0 ∷ 0 ∷ 0 ∷ 2 ∷ 0 ∷ 25 ∷ 4 ∷ 1 ∷ 0 ∷ 0 ∷ 0 ∷ 0 ∷ 0 ∷ 0 ∷ 0 ∷ 0 ∷ 0 ∷ 0 ∷ 0 ∷ 3 ∷ 2 ∷ 4 ∷ 2 ∷ 1 ∷ 0 ∷ 1 ∷ [])) (padded 40 ([])) (padded 40 ([])) (padded 5 (2 ∷ [])) (counts 3 0 0 1)) (lent (97 ∷ 98 ∷ 99 ∷ []) (padded 48 (2 ∷ 0 ∷ 25 ∷ 0 ∷ 1 ∷ 0 ∷ 0 ∷ 0 ∷ 0 ∷ 0 ∷ 0 ∷ 0 ∷ 0 ∷ 0 ∷ 0 ∷ 0 ∷ 2 ∷ 0 ∷ 25 ∷ 1 ∷ 1 ∷ 0 ∷ 0 ∷ 0 ∷ 0 ∷ 0 ∷ 0 ∷ 0 ∷ 0 ∷ 0 ∷ 0 ∷ 0 ∷ 7 ∷ 2 ∷ 0 ∷ 1 ∷ 20 ∷ 0 ∷ 1 ∷ 7 ∷ 1 ∷ [])) (padded 24 ([])) (padded 24 (99 ∷ 0 ∷ 1 ∷ 0 ∷ 6 ∷ 1 ∷ 1 ∷ 1 ∷ [])) (padded 3 (2 ∷ [])) (counts 3 0 8 1)) ≡ refused 4
unfolding comparison
case_101 = refl

-- case's own token past the script, left
case_102 : compare (lent (97 ∷ 98 ∷ 99 ∷ []) (padded 48 (2 ∷ 0 ∷ 25 ∷ 0 ∷ 1 ∷ 0 ∷ 0 ∷ 0 ∷ 0 ∷ 0 ∷ 0 ∷ 0 ∷ 0 ∷ 0 ∷ 0 ∷ 0 ∷ 2 ∷ 0 ∷ 25 ∷ 1 ∷ 1 ∷ 0 ∷ 0 ∷ 0 ∷ 0 ∷ 0 ∷ 0 ∷ 0 ∷ 0 ∷ 0 ∷ 0 ∷ 0 ∷ 7 ∷ 2 ∷ 0 ∷ 1 ∷ 20 ∷ 0 ∷ 1 ∷ 7 ∷ 1 ∷ [])) (padded 24 ([])) (padded 24 (25 ∷ 3 ∷ 1 ∷ 0 ∷ 6 ∷ 1 ∷ 1 ∷ 1 ∷ [])) (padded 3 (2 ∷ [])) (counts 3 0 8 1)) (lent (97 ∷ 32 ∷ 43 ∷ 32 ∷ 98 ∷ []) (padded 80 (2 ∷ 0 ∷ 25 ∷ 0 ∷ 1 ∷ 0 ∷ 0 ∷ 0 ∷ 0 ∷ 0 ∷ 0 ∷ 0 ∷ 0 ∷ 0 ∷ 0 ∷ 0 ∷ 2 ∷ 0 ∷ 25 ∷ 4 ∷ 1 ∷ 0 ∷ 0 ∷ 0 ∷ 0 ∷ 0 ∷ 0 ∷ 0 ∷ 0 ∷ 0 ∷ 0 ∷ 0 ∷ 3 ∷ 2 ∷ 4 ∷ 2 ∷ 1 ∷ 0 ∷ 1 ∷ [])) (padded 40 ([])) (padded 40 ([])) (padded 5 (2 ∷ [])) (counts 3 0 0 1)) ≡ refused 4
unfolding comparison
case_102 = refl

-- case's own token past the script, right
case_103 : compare (lent (97 ∷ 32 ∷ 43 ∷ 32 ∷ 98 ∷ []) (padded 80 (2 ∷ 0 ∷ 25 ∷ 0 ∷ 1 ∷ 0 ∷ 0 ∷ 0 ∷ 0 ∷ 0 ∷ 0 ∷ 0 ∷ 0 ∷ 0 ∷ 0 ∷ 0 ∷ 2 ∷ 0 ∷ 25 ∷ 4 ∷ 1 ∷ 0 ∷ 0 ∷ 0 ∷ 0 ∷ 0 ∷ 0 ∷ 0 ∷ 0 ∷ 0 ∷ 0 ∷ 0 ∷ 3 ∷ 2 ∷ 4 ∷ 2 ∷ 1 ∷ 0 ∷ 1 ∷ [])) (padded 40 ([])) (padded 40 ([])) (padded 5 (2 ∷ [])) (counts 3 0 0 1)) (lent (97 ∷ 98 ∷ 99 ∷ []) (padded 48 (2 ∷ 0 ∷ 25 ∷ 0 ∷ 1 ∷ 0 ∷ 0 ∷ 0 ∷ 0 ∷ 0 ∷ 0 ∷ 0 ∷ 0 ∷ 0 ∷ 0 ∷ 0 ∷ 2 ∷ 0 ∷ 25 ∷ 1 ∷ 1 ∷ 0 ∷ 0 ∷ 0 ∷ 0 ∷ 0 ∷ 0 ∷ 0 ∷ 0 ∷ 0 ∷ 0 ∷ 0 ∷ 7 ∷ 2 ∷ 0 ∷ 1 ∷ 20 ∷ 0 ∷ 1 ∷ 7 ∷ 1 ∷ [])) (padded 24 ([])) (padded 24 (25 ∷ 3 ∷ 1 ∷ 0 ∷ 6 ∷ 1 ∷ 1 ∷ 1 ∷ [])) (padded 3 (2 ∷ [])) (counts 3 0 8 1)) ≡ refused 4
unfolding comparison
case_103 = refl

-- default's token of an unknown kind, left
case_104 : compare (lent (97 ∷ 97 ∷ []) (padded 32 (7 ∷ 0 ∷ 0 ∷ 0 ∷ 44 ∷ 0 ∷ 1 ∷ [])) (padded 16 ([])) (padded 16 ([])) (padded 2 ([])) (counts 1 0 0 1)) (lent (97 ∷ 32 ∷ 43 ∷ 32 ∷ 98 ∷ []) (padded 80 (2 ∷ 0 ∷ 25 ∷ 0 ∷ 1 ∷ 0 ∷ 0 ∷ 0 ∷ 0 ∷ 0 ∷ 0 ∷ 0 ∷ 0 ∷ 0 ∷ 0 ∷ 0 ∷ 2 ∷ 0 ∷ 25 ∷ 4 ∷ 1 ∷ 0 ∷ 0 ∷ 0 ∷ 0 ∷ 0 ∷ 0 ∷ 0 ∷ 0 ∷ 0 ∷ 0 ∷ 0 ∷ 3 ∷ 2 ∷ 4 ∷ 2 ∷ 1 ∷ 0 ∷ 1 ∷ [])) (padded 40 ([])) (padded 40 ([])) (padded 5 (2 ∷ [])) (counts 3 0 0 1)) ≡ refused 4
unfolding comparison
case_104 = refl

-- default's token of an unknown kind, right
case_105 : compare (lent (97 ∷ 32 ∷ 43 ∷ 32 ∷ 98 ∷ []) (padded 80 (2 ∷ 0 ∷ 25 ∷ 0 ∷ 1 ∷ 0 ∷ 0 ∷ 0 ∷ 0 ∷ 0 ∷ 0 ∷ 0 ∷ 0 ∷ 0 ∷ 0 ∷ 0 ∷ 2 ∷ 0 ∷ 25 ∷ 4 ∷ 1 ∷ 0 ∷ 0 ∷ 0 ∷ 0 ∷ 0 ∷ 0 ∷ 0 ∷ 0 ∷ 0 ∷ 0 ∷ 0 ∷ 3 ∷ 2 ∷ 4 ∷ 2 ∷ 1 ∷ 0 ∷ 1 ∷ [])) (padded 40 ([])) (padded 40 ([])) (padded 5 (2 ∷ [])) (counts 3 0 0 1)) (lent (97 ∷ 97 ∷ []) (padded 32 (7 ∷ 0 ∷ 0 ∷ 0 ∷ 44 ∷ 0 ∷ 1 ∷ [])) (padded 16 ([])) (padded 16 ([])) (padded 2 ([])) (counts 1 0 0 1)) ≡ refused 4
unfolding comparison
case_105 = refl

-- nodes one cell short, left
case_106 : compare (lent (97 ∷ 97 ∷ []) (padded 31 (15 ∷ [])) (padded 16 ([])) (padded 16 ([])) (padded 2 ([])) (counts 1 0 0 1)) (lent (97 ∷ 32 ∷ 43 ∷ 32 ∷ 98 ∷ []) (padded 80 (2 ∷ 0 ∷ 25 ∷ 0 ∷ 1 ∷ 0 ∷ 0 ∷ 0 ∷ 0 ∷ 0 ∷ 0 ∷ 0 ∷ 0 ∷ 0 ∷ 0 ∷ 0 ∷ 2 ∷ 0 ∷ 25 ∷ 4 ∷ 1 ∷ 0 ∷ 0 ∷ 0 ∷ 0 ∷ 0 ∷ 0 ∷ 0 ∷ 0 ∷ 0 ∷ 0 ∷ 0 ∷ 3 ∷ 2 ∷ 4 ∷ 2 ∷ 1 ∷ 0 ∷ 1 ∷ [])) (padded 40 ([])) (padded 40 ([])) (padded 5 (2 ∷ [])) (counts 3 0 0 1)) ≡ refused 2
unfolding comparison
case_106 = refl

-- nodes one cell short, right
case_107 : compare (lent (97 ∷ 32 ∷ 43 ∷ 32 ∷ 98 ∷ []) (padded 80 (2 ∷ 0 ∷ 25 ∷ 0 ∷ 1 ∷ 0 ∷ 0 ∷ 0 ∷ 0 ∷ 0 ∷ 0 ∷ 0 ∷ 0 ∷ 0 ∷ 0 ∷ 0 ∷ 2 ∷ 0 ∷ 25 ∷ 4 ∷ 1 ∷ 0 ∷ 0 ∷ 0 ∷ 0 ∷ 0 ∷ 0 ∷ 0 ∷ 0 ∷ 0 ∷ 0 ∷ 0 ∷ 3 ∷ 2 ∷ 4 ∷ 2 ∷ 1 ∷ 0 ∷ 1 ∷ [])) (padded 40 ([])) (padded 40 ([])) (padded 5 (2 ∷ [])) (counts 3 0 0 1)) (lent (97 ∷ 97 ∷ []) (padded 31 (15 ∷ [])) (padded 16 ([])) (padded 16 ([])) (padded 2 ([])) (counts 1 0 0 1)) ≡ refused 2
unfolding comparison
case_107 = refl

-- types one cell short, left
case_108 : compare (lent (97 ∷ 97 ∷ []) (padded 32 (15 ∷ [])) (padded 15 ([])) (padded 16 ([])) (padded 2 ([])) (counts 1 0 0 1)) (lent (97 ∷ 32 ∷ 43 ∷ 32 ∷ 98 ∷ []) (padded 80 (2 ∷ 0 ∷ 25 ∷ 0 ∷ 1 ∷ 0 ∷ 0 ∷ 0 ∷ 0 ∷ 0 ∷ 0 ∷ 0 ∷ 0 ∷ 0 ∷ 0 ∷ 0 ∷ 2 ∷ 0 ∷ 25 ∷ 4 ∷ 1 ∷ 0 ∷ 0 ∷ 0 ∷ 0 ∷ 0 ∷ 0 ∷ 0 ∷ 0 ∷ 0 ∷ 0 ∷ 0 ∷ 3 ∷ 2 ∷ 4 ∷ 2 ∷ 1 ∷ 0 ∷ 1 ∷ [])) (padded 40 ([])) (padded 40 ([])) (padded 5 (2 ∷ [])) (counts 3 0 0 1)) ≡ refused 2
unfolding comparison
case_108 = refl

-- types one cell short, right
case_109 : compare (lent (97 ∷ 32 ∷ 43 ∷ 32 ∷ 98 ∷ []) (padded 80 (2 ∷ 0 ∷ 25 ∷ 0 ∷ 1 ∷ 0 ∷ 0 ∷ 0 ∷ 0 ∷ 0 ∷ 0 ∷ 0 ∷ 0 ∷ 0 ∷ 0 ∷ 0 ∷ 2 ∷ 0 ∷ 25 ∷ 4 ∷ 1 ∷ 0 ∷ 0 ∷ 0 ∷ 0 ∷ 0 ∷ 0 ∷ 0 ∷ 0 ∷ 0 ∷ 0 ∷ 0 ∷ 3 ∷ 2 ∷ 4 ∷ 2 ∷ 1 ∷ 0 ∷ 1 ∷ [])) (padded 40 ([])) (padded 40 ([])) (padded 5 (2 ∷ [])) (counts 3 0 0 1)) (lent (97 ∷ 97 ∷ []) (padded 32 (15 ∷ [])) (padded 15 ([])) (padded 16 ([])) (padded 2 ([])) (counts 1 0 0 1)) ≡ refused 2
unfolding comparison
case_109 = refl

-- lists one cell short, left
case_110 : compare (lent (97 ∷ 97 ∷ []) (padded 32 (15 ∷ [])) (padded 16 ([])) (padded 15 ([])) (padded 2 ([])) (counts 1 0 0 1)) (lent (97 ∷ 32 ∷ 43 ∷ 32 ∷ 98 ∷ []) (padded 80 (2 ∷ 0 ∷ 25 ∷ 0 ∷ 1 ∷ 0 ∷ 0 ∷ 0 ∷ 0 ∷ 0 ∷ 0 ∷ 0 ∷ 0 ∷ 0 ∷ 0 ∷ 0 ∷ 2 ∷ 0 ∷ 25 ∷ 4 ∷ 1 ∷ 0 ∷ 0 ∷ 0 ∷ 0 ∷ 0 ∷ 0 ∷ 0 ∷ 0 ∷ 0 ∷ 0 ∷ 0 ∷ 3 ∷ 2 ∷ 4 ∷ 2 ∷ 1 ∷ 0 ∷ 1 ∷ [])) (padded 40 ([])) (padded 40 ([])) (padded 5 (2 ∷ [])) (counts 3 0 0 1)) ≡ refused 2
unfolding comparison
case_110 = refl

-- lists one cell short, right
case_111 : compare (lent (97 ∷ 32 ∷ 43 ∷ 32 ∷ 98 ∷ []) (padded 80 (2 ∷ 0 ∷ 25 ∷ 0 ∷ 1 ∷ 0 ∷ 0 ∷ 0 ∷ 0 ∷ 0 ∷ 0 ∷ 0 ∷ 0 ∷ 0 ∷ 0 ∷ 0 ∷ 2 ∷ 0 ∷ 25 ∷ 4 ∷ 1 ∷ 0 ∷ 0 ∷ 0 ∷ 0 ∷ 0 ∷ 0 ∷ 0 ∷ 0 ∷ 0 ∷ 0 ∷ 0 ∷ 3 ∷ 2 ∷ 4 ∷ 2 ∷ 1 ∷ 0 ∷ 1 ∷ [])) (padded 40 ([])) (padded 40 ([])) (padded 5 (2 ∷ [])) (counts 3 0 0 1)) (lent (97 ∷ 97 ∷ []) (padded 32 (15 ∷ [])) (padded 16 ([])) (padded 15 ([])) (padded 2 ([])) (counts 1 0 0 1)) ≡ refused 2
unfolding comparison
case_111 = refl

-- roots one cell short, left
case_112 : compare (lent (97 ∷ 97 ∷ []) (padded 32 (15 ∷ [])) (padded 16 ([])) (padded 16 ([])) (padded 1 ([])) (counts 1 0 0 1)) (lent (97 ∷ 32 ∷ 43 ∷ 32 ∷ 98 ∷ []) (padded 80 (2 ∷ 0 ∷ 25 ∷ 0 ∷ 1 ∷ 0 ∷ 0 ∷ 0 ∷ 0 ∷ 0 ∷ 0 ∷ 0 ∷ 0 ∷ 0 ∷ 0 ∷ 0 ∷ 2 ∷ 0 ∷ 25 ∷ 4 ∷ 1 ∷ 0 ∷ 0 ∷ 0 ∷ 0 ∷ 0 ∷ 0 ∷ 0 ∷ 0 ∷ 0 ∷ 0 ∷ 0 ∷ 3 ∷ 2 ∷ 4 ∷ 2 ∷ 1 ∷ 0 ∷ 1 ∷ [])) (padded 40 ([])) (padded 40 ([])) (padded 5 (2 ∷ [])) (counts 3 0 0 1)) ≡ refused 2
unfolding comparison
case_112 = refl

-- roots one cell short, right
case_113 : compare (lent (97 ∷ 32 ∷ 43 ∷ 32 ∷ 98 ∷ []) (padded 80 (2 ∷ 0 ∷ 25 ∷ 0 ∷ 1 ∷ 0 ∷ 0 ∷ 0 ∷ 0 ∷ 0 ∷ 0 ∷ 0 ∷ 0 ∷ 0 ∷ 0 ∷ 0 ∷ 2 ∷ 0 ∷ 25 ∷ 4 ∷ 1 ∷ 0 ∷ 0 ∷ 0 ∷ 0 ∷ 0 ∷ 0 ∷ 0 ∷ 0 ∷ 0 ∷ 0 ∷ 0 ∷ 3 ∷ 2 ∷ 4 ∷ 2 ∷ 1 ∷ 0 ∷ 1 ∷ [])) (padded 40 ([])) (padded 40 ([])) (padded 5 (2 ∷ [])) (counts 3 0 0 1)) (lent (97 ∷ 97 ∷ []) (padded 32 (15 ∷ [])) (padded 16 ([])) (padded 16 ([])) (padded 1 ([])) (counts 1 0 0 1)) ≡ refused 2
unfolding comparison
case_113 = refl

-- 2 on the right before 4 on the left
case_114 : compare (lent (97 ∷ []) (padded 16 (15 ∷ [])) (padded 8 ([])) (padded 8 ([])) (padded 1 ([])) (counts 1 0 0 1)) (lent (97 ∷ 97 ∷ []) (padded 32 ([])) (padded 16 ([])) (padded 16 ([])) (padded 1 ([])) (counts 0 0 0 0)) ≡ refused 2
unfolding comparison
case_114 = refl

-- 1 on the right before 2 on the left
case_115 : compare (lent (97 ∷ 97 ∷ []) (padded 1 ([])) (padded 1 ([])) (padded 1 ([])) (padded 1 ([])) (counts 0 0 0 0)) (lent (replicate 65537 32) (padded 1 ([])) (padded 1 ([])) (padded 1 ([])) (padded 1 ([])) (counts 0 0 0 0)) ≡ refused 1
unfolding comparison
case_115 = refl

-- 65,536 bytes on the right
case_116 : compare (lent (97 ∷ 32 ∷ 43 ∷ 32 ∷ 98 ∷ []) (padded 80 (2 ∷ 0 ∷ 25 ∷ 0 ∷ 1 ∷ 0 ∷ 0 ∷ 0 ∷ 0 ∷ 0 ∷ 0 ∷ 0 ∷ 0 ∷ 0 ∷ 0 ∷ 0 ∷ 2 ∷ 0 ∷ 25 ∷ 4 ∷ 1 ∷ 0 ∷ 0 ∷ 0 ∷ 0 ∷ 0 ∷ 0 ∷ 0 ∷ 0 ∷ 0 ∷ 0 ∷ 0 ∷ 3 ∷ 2 ∷ 4 ∷ 2 ∷ 1 ∷ 0 ∷ 1 ∷ [])) (padded 40 ([])) (padded 40 ([])) (padded 5 (2 ∷ [])) (counts 3 0 0 1)) (lent (replicate 65536 32) (padded 1 ([])) (padded 1 ([])) (padded 1 ([])) (padded 1 ([])) (counts 0 0 0 0)) ≡ refused 2
unfolding comparison
case_116 = refl
