-- What the definitions say of the cases that `test_readings` reads, in their order: written by
-- tools/cases, with the program's stdin and stdout.
use mathlib.Core.Path.{◌≡◌, refl}
use mathlib.Core.List.{List, [], ◌∷◌, flatten}
use Prim.Native.Nat.{ℕ}
use lib.ListN.{replicate}
use Rattle.lex.specs.Bytes.{or}
use Rattle.tokens.specs.Tables as T
use Rattle.ast.specs.Layout.{token_cells, run_cells, padded, node_cells, type_cells, diagnostic_cells}
use Rattle.rules.specs.Rules.{stage_one}
use Rattle.rules.specs.Parse.{Reading, parse, parse_collect}
use Rattle.rules.specs.Promise.{Arrays, Outcome, too_short, zeroed, holding, outcome}
use Rattle.parser.specs.Steps.{any_too_short, parse_promised}
use Rattle.rules.specs.Parsed.{Parsed}
use Rattle.rules.specs.Parsed as P
use Rattle.rules.proofs.Compute.{computed_from}

abbrev tree : ℕ → ℕ → ℕ → ℕ → ℕ → ℕ → Parsed
tree nodes types cells roots values diagnostics = P.Tree (record { nodes = nodes; types = types; cells = cells; roots = roots; values = values; diagnostics = diagnostics })

abbrev error : ℕ → ℕ → ℕ → ℕ → ℕ → Parsed
error number start len wanted seen = P.Error (record { number = number; start = start; len = len; wanted = wanted; seen = seen })

abbrev refused : ℕ → Parsed
refused n = P.Refused n

-- arrays of these lengths, as the program lends them
abbrev rubbish : ℕ → ℕ → ℕ → ℕ → ℕ → Arrays
rubbish a b c d e = record { nodes = replicate a 4294967295; types = replicate b 4294967295; lists = replicate c 4294967295; roots = replicate d 4294967295; diagnostics = replicate e 4294967295 }

abbrev result : Parsed → Arrays → Outcome
result answer arrays = record { answer = answer; arrays = arrays }

-- what is promised of the answer and the five arrays, with tables as the program lends them
abbrev promised : (List ℕ → Reading) → List ℕ → Arrays → Outcome
promised how script l =
    let r = parse_promised how script (replicate 516 4294967295) (replicate 768 4294967295) l in
    result r.answer r.arrays

-- `unfolding reading` opens all that the definitions are made of
unfoldable reading : Unit {0}
unfolding computed_from or flatten token_cells run_cells node_cells type_cells diagnostic_cells too_short T.too_short any_too_short zeroed holding outcome parse_promised
reading = tt

-- empty script, strict, exactly enough
case_0 : promised (parse stage_one) ([]) (rubbish 0 0 0 0 0) ≡ result (tree 0 0 0 0 0 0) (record { nodes = padded 0 ([]); types = padded 0 ([]); lists = padded 0 ([]); roots = padded 0 ([]); diagnostics = padded 0 ([]) })
unfolding reading
case_0 = refl

-- empty script, strict, longer
case_1 : promised (parse stage_one) ([]) (rubbish 1 2 3 4 5) ≡ result (tree 0 0 0 0 0 0) (record { nodes = padded 1 ([]); types = padded 2 ([]); lists = padded 3 ([]); roots = padded 4 ([]); diagnostics = padded 5 ([]) })
unfolding reading
case_1 = refl

-- empty script, collecting, exactly enough
case_2 : promised (parse_collect stage_one) ([]) (rubbish 0 0 0 0 0) ≡ result (tree 0 0 0 0 0 0) (record { nodes = padded 0 ([]); types = padded 0 ([]); lists = padded 0 ([]); roots = padded 0 ([]); diagnostics = padded 0 ([]) })
unfolding reading
case_2 = refl

-- empty script, collecting, longer
case_3 : promised (parse_collect stage_one) ([]) (rubbish 1 2 3 4 5) ≡ result (tree 0 0 0 0 0 0) (record { nodes = padded 1 ([]); types = padded 2 ([]); lists = padded 3 ([]); roots = padded 4 ([]); diagnostics = padded 5 ([]) })
unfolding reading
case_3 = refl

-- blank, strict, exactly enough
case_4 : promised (parse stage_one) (32 ∷ []) (rubbish 16 8 8 1 5) ≡ result (tree 0 0 0 0 0 0) (record { nodes = padded 16 ([]); types = padded 8 ([]); lists = padded 8 ([]); roots = padded 1 ([]); diagnostics = padded 5 ([]) })
unfolding reading
case_4 = refl

-- blank, strict, longer
case_5 : promised (parse stage_one) (32 ∷ []) (rubbish 17 10 11 5 10) ≡ result (tree 0 0 0 0 0 0) (record { nodes = padded 17 ([]); types = padded 10 ([]); lists = padded 11 ([]); roots = padded 5 ([]); diagnostics = padded 10 ([]) })
unfolding reading
case_5 = refl

-- blank, collecting, exactly enough
case_6 : promised (parse_collect stage_one) (32 ∷ []) (rubbish 16 8 8 1 5) ≡ result (tree 0 0 0 0 0 0) (record { nodes = padded 16 ([]); types = padded 8 ([]); lists = padded 8 ([]); roots = padded 1 ([]); diagnostics = padded 5 ([]) })
unfolding reading
case_6 = refl

-- blank, collecting, longer
case_7 : promised (parse_collect stage_one) (32 ∷ []) (rubbish 17 10 11 5 10) ≡ result (tree 0 0 0 0 0 0) (record { nodes = padded 17 ([]); types = padded 10 ([]); lists = padded 11 ([]); roots = padded 5 ([]); diagnostics = padded 10 ([]) })
unfolding reading
case_7 = refl

-- name, strict, exactly enough
case_8 : promised (parse stage_one) (97 ∷ []) (rubbish 16 8 8 1 5) ≡ result (tree 1 0 0 1 1 0) (record { nodes = padded 16 (2 ∷ 0 ∷ 25 ∷ 0 ∷ 1 ∷ []); types = padded 8 ([]); lists = padded 8 ([]); roots = padded 1 ([]); diagnostics = padded 5 ([]) })
unfolding reading
case_8 = refl

-- name, strict, longer
case_9 : promised (parse stage_one) (97 ∷ []) (rubbish 17 10 11 5 10) ≡ result (tree 1 0 0 1 1 0) (record { nodes = padded 17 (2 ∷ 0 ∷ 25 ∷ 0 ∷ 1 ∷ []); types = padded 10 ([]); lists = padded 11 ([]); roots = padded 5 ([]); diagnostics = padded 10 ([]) })
unfolding reading
case_9 = refl

-- name, collecting, exactly enough
case_10 : promised (parse_collect stage_one) (97 ∷ []) (rubbish 16 8 8 1 5) ≡ result (tree 1 0 0 1 1 0) (record { nodes = padded 16 (2 ∷ 0 ∷ 25 ∷ 0 ∷ 1 ∷ []); types = padded 8 ([]); lists = padded 8 ([]); roots = padded 1 ([]); diagnostics = padded 5 ([]) })
unfolding reading
case_10 = refl

-- name, collecting, longer
case_11 : promised (parse_collect stage_one) (97 ∷ []) (rubbish 17 10 11 5 10) ≡ result (tree 1 0 0 1 1 0) (record { nodes = padded 17 (2 ∷ 0 ∷ 25 ∷ 0 ∷ 1 ∷ []); types = padded 10 ([]); lists = padded 11 ([]); roots = padded 5 ([]); diagnostics = padded 10 ([]) })
unfolding reading
case_11 = refl

-- fault, strict, exactly enough
case_12 : promised (parse stage_one) (36 ∷ []) (rubbish 16 8 8 1 5) ≡ result (tree 0 0 0 0 0 0) (record { nodes = padded 16 ([]); types = padded 8 ([]); lists = padded 8 ([]); roots = padded 1 ([]); diagnostics = padded 5 ([]) })
unfolding reading
case_12 = refl

-- fault, strict, longer
case_13 : promised (parse stage_one) (36 ∷ []) (rubbish 17 10 11 5 10) ≡ result (tree 0 0 0 0 0 0) (record { nodes = padded 17 ([]); types = padded 10 ([]); lists = padded 11 ([]); roots = padded 5 ([]); diagnostics = padded 10 ([]) })
unfolding reading
case_13 = refl

-- fault, collecting, exactly enough
case_14 : promised (parse_collect stage_one) (36 ∷ []) (rubbish 16 8 8 1 5) ≡ result (tree 0 0 0 0 0 1) (record { nodes = padded 16 ([]); types = padded 8 ([]); lists = padded 8 ([]); roots = padded 1 ([]); diagnostics = padded 5 (33 ∷ 0 ∷ 1 ∷ 0 ∷ 36 ∷ []) })
unfolding reading
case_14 = refl

-- fault, collecting, longer
case_15 : promised (parse_collect stage_one) (36 ∷ []) (rubbish 17 10 11 5 10) ≡ result (tree 0 0 0 0 0 1) (record { nodes = padded 17 ([]); types = padded 10 ([]); lists = padded 11 ([]); roots = padded 5 ([]); diagnostics = padded 10 (33 ∷ 0 ∷ 1 ∷ 0 ∷ 36 ∷ []) })
unfolding reading
case_15 = refl

-- error at the end, strict, exactly enough
case_16 : promised (parse stage_one) (108 ∷ 101 ∷ 116 ∷ []) (rubbish 48 24 24 3 15) ≡ result (error 12 3 3 0 1) (record { nodes = padded 48 ([]); types = padded 24 ([]); lists = padded 24 ([]); roots = padded 3 ([]); diagnostics = padded 15 ([]) })
unfolding reading
case_16 = refl

-- error at the end, strict, longer
case_17 : promised (parse stage_one) (108 ∷ 101 ∷ 116 ∷ []) (rubbish 49 26 27 7 20) ≡ result (error 12 3 3 0 1) (record { nodes = padded 49 ([]); types = padded 26 ([]); lists = padded 27 ([]); roots = padded 7 ([]); diagnostics = padded 20 ([]) })
unfolding reading
case_17 = refl

-- error at the end, collecting, exactly enough
case_18 : promised (parse_collect stage_one) (108 ∷ 101 ∷ 116 ∷ []) (rubbish 48 24 24 3 15) ≡ result (tree 0 0 0 0 0 1) (record { nodes = padded 48 ([]); types = padded 24 ([]); lists = padded 24 ([]); roots = padded 3 ([]); diagnostics = padded 15 (12 ∷ 3 ∷ 3 ∷ 0 ∷ 1 ∷ []) })
unfolding reading
case_18 = refl

-- error at the end, collecting, longer
case_19 : promised (parse_collect stage_one) (108 ∷ 101 ∷ 116 ∷ []) (rubbish 49 26 27 7 20) ≡ result (tree 0 0 0 0 0 1) (record { nodes = padded 49 ([]); types = padded 26 ([]); lists = padded 27 ([]); roots = padded 7 ([]); diagnostics = padded 20 (12 ∷ 3 ∷ 3 ∷ 0 ∷ 1 ∷ []) })
unfolding reading
case_19 = refl

-- docs that wait at the end, strict, exactly enough
case_20 : promised (parse stage_one) (35 ∷ 33 ∷ 100 ∷ []) (rubbish 48 24 24 3 15) ≡ result (error 13 0 1 0 26) (record { nodes = padded 48 ([]); types = padded 24 ([]); lists = padded 24 ([]); roots = padded 3 ([]); diagnostics = padded 15 ([]) })
unfolding reading
case_20 = refl

-- docs that wait at the end, strict, longer
case_21 : promised (parse stage_one) (35 ∷ 33 ∷ 100 ∷ []) (rubbish 49 26 27 7 20) ≡ result (error 13 0 1 0 26) (record { nodes = padded 49 ([]); types = padded 26 ([]); lists = padded 27 ([]); roots = padded 7 ([]); diagnostics = padded 20 ([]) })
unfolding reading
case_21 = refl

-- docs that wait at the end, collecting, exactly enough
case_22 : promised (parse_collect stage_one) (35 ∷ 33 ∷ 100 ∷ []) (rubbish 48 24 24 3 15) ≡ result (tree 0 0 0 0 0 1) (record { nodes = padded 48 ([]); types = padded 24 ([]); lists = padded 24 ([]); roots = padded 3 ([]); diagnostics = padded 15 (13 ∷ 0 ∷ 1 ∷ 0 ∷ 26 ∷ []) })
unfolding reading
case_22 = refl

-- docs that wait at the end, collecting, longer
case_23 : promised (parse_collect stage_one) (35 ∷ 33 ∷ 100 ∷ []) (rubbish 49 26 27 7 20) ≡ result (tree 0 0 0 0 0 1) (record { nodes = padded 49 ([]); types = padded 26 ([]); lists = padded 27 ([]); roots = padded 7 ([]); diagnostics = padded 20 (13 ∷ 0 ∷ 1 ∷ 0 ∷ 26 ∷ []) })
unfolding reading
case_23 = refl

-- list that does not end, strict, exactly enough
case_24 : promised (parse stage_one) (102 ∷ 40 ∷ 97 ∷ 32 ∷ 98 ∷ []) (rubbish 80 40 40 5 25) ≡ result (error 11 5 3 3 1) (record { nodes = padded 80 ([]); types = padded 40 ([]); lists = padded 40 ([]); roots = padded 5 ([]); diagnostics = padded 25 ([]) })
unfolding reading
case_24 = refl

-- list that does not end, strict, longer
case_25 : promised (parse stage_one) (102 ∷ 40 ∷ 97 ∷ 32 ∷ 98 ∷ []) (rubbish 81 42 43 9 30) ≡ result (error 11 5 3 3 1) (record { nodes = padded 81 ([]); types = padded 42 ([]); lists = padded 43 ([]); roots = padded 9 ([]); diagnostics = padded 30 ([]) })
unfolding reading
case_25 = refl

-- list that does not end, collecting, exactly enough
case_26 : promised (parse_collect stage_one) (102 ∷ 40 ∷ 97 ∷ 32 ∷ 98 ∷ []) (rubbish 80 40 40 5 25) ≡ result (tree 3 0 0 0 3 1) (record { nodes = padded 80 (2 ∷ 0 ∷ 25 ∷ 0 ∷ 1 ∷ 0 ∷ 0 ∷ 0 ∷ 0 ∷ 0 ∷ 0 ∷ 0 ∷ 0 ∷ 0 ∷ 0 ∷ 0 ∷ 2 ∷ 1 ∷ 25 ∷ 2 ∷ 1 ∷ 0 ∷ 0 ∷ 0 ∷ 0 ∷ 0 ∷ 0 ∷ 0 ∷ 0 ∷ 0 ∷ 0 ∷ 0 ∷ 2 ∷ 2 ∷ 25 ∷ 4 ∷ 1 ∷ []); types = padded 40 ([]); lists = padded 40 ([]); roots = padded 5 ([]); diagnostics = padded 25 (11 ∷ 5 ∷ 3 ∷ 3 ∷ 1 ∷ []) })
unfolding reading
case_26 = refl

-- list that does not end, collecting, longer
case_27 : promised (parse_collect stage_one) (102 ∷ 40 ∷ 97 ∷ 32 ∷ 98 ∷ []) (rubbish 81 42 43 9 30) ≡ result (tree 3 0 0 0 3 1) (record { nodes = padded 81 (2 ∷ 0 ∷ 25 ∷ 0 ∷ 1 ∷ 0 ∷ 0 ∷ 0 ∷ 0 ∷ 0 ∷ 0 ∷ 0 ∷ 0 ∷ 0 ∷ 0 ∷ 0 ∷ 2 ∷ 1 ∷ 25 ∷ 2 ∷ 1 ∷ 0 ∷ 0 ∷ 0 ∷ 0 ∷ 0 ∷ 0 ∷ 0 ∷ 0 ∷ 0 ∷ 0 ∷ 0 ∷ 2 ∷ 2 ∷ 25 ∷ 4 ∷ 1 ∷ []); types = padded 42 ([]); lists = padded 43 ([]); roots = padded 9 ([]); diagnostics = padded 30 (11 ∷ 5 ∷ 3 ∷ 3 ∷ 1 ∷ []) })
unfolding reading
case_27 = refl

-- error, fault, let, strict, exactly enough
case_28 : promised (parse stage_one) (108 ∷ 101 ∷ 116 ∷ 32 ∷ 49 ∷ 32 ∷ 36 ∷ 32 ∷ 108 ∷ 101 ∷ 116 ∷ 32 ∷ 120 ∷ 32 ∷ 61 ∷ 32 ∷ 50 ∷ []) (rubbish 272 136 136 17 85) ≡ result (error 12 4 1 0 24) (record { nodes = padded 272 ([]); types = padded 136 ([]); lists = padded 136 ([]); roots = padded 17 ([]); diagnostics = padded 85 ([]) })
unfolding reading
case_28 = refl

-- error, fault, let, strict, longer
case_29 : promised (parse stage_one) (108 ∷ 101 ∷ 116 ∷ 32 ∷ 49 ∷ 32 ∷ 36 ∷ 32 ∷ 108 ∷ 101 ∷ 116 ∷ 32 ∷ 120 ∷ 32 ∷ 61 ∷ 32 ∷ 50 ∷ []) (rubbish 273 138 139 21 90) ≡ result (error 12 4 1 0 24) (record { nodes = padded 273 ([]); types = padded 138 ([]); lists = padded 139 ([]); roots = padded 21 ([]); diagnostics = padded 90 ([]) })
unfolding reading
case_29 = refl

-- error, fault, let, collecting, exactly enough
case_30 : promised (parse_collect stage_one) (108 ∷ 101 ∷ 116 ∷ 32 ∷ 49 ∷ 32 ∷ 36 ∷ 32 ∷ 108 ∷ 101 ∷ 116 ∷ 32 ∷ 120 ∷ 32 ∷ 61 ∷ 32 ∷ 50 ∷ []) (rubbish 272 136 136 17 85) ≡ result (tree 2 0 0 1 2 2) (record { nodes = padded 272 (1 ∷ 0 ∷ 24 ∷ 16 ∷ 1 ∷ 0 ∷ 0 ∷ 0 ∷ 0 ∷ 0 ∷ 0 ∷ 0 ∷ 0 ∷ 0 ∷ 0 ∷ 0 ∷ 5 ∷ 1 ∷ 0 ∷ 0 ∷ 25 ∷ 12 ∷ 1 ∷ []); types = padded 136 ([]); lists = padded 136 ([]); roots = padded 17 (1 ∷ []); diagnostics = padded 85 (12 ∷ 4 ∷ 1 ∷ 0 ∷ 24 ∷ 33 ∷ 6 ∷ 1 ∷ 0 ∷ 36 ∷ []) })
unfolding reading
case_30 = refl

-- error, fault, let, collecting, longer
case_31 : promised (parse_collect stage_one) (108 ∷ 101 ∷ 116 ∷ 32 ∷ 49 ∷ 32 ∷ 36 ∷ 32 ∷ 108 ∷ 101 ∷ 116 ∷ 32 ∷ 120 ∷ 32 ∷ 61 ∷ 32 ∷ 50 ∷ []) (rubbish 273 138 139 21 90) ≡ result (tree 2 0 0 1 2 2) (record { nodes = padded 273 (1 ∷ 0 ∷ 24 ∷ 16 ∷ 1 ∷ 0 ∷ 0 ∷ 0 ∷ 0 ∷ 0 ∷ 0 ∷ 0 ∷ 0 ∷ 0 ∷ 0 ∷ 0 ∷ 5 ∷ 1 ∷ 0 ∷ 0 ∷ 25 ∷ 12 ∷ 1 ∷ []); types = padded 138 ([]); lists = padded 139 ([]); roots = padded 21 (1 ∷ []); diagnostics = padded 90 (12 ∷ 4 ∷ 1 ∷ 0 ∷ 24 ∷ 33 ∷ 6 ∷ 1 ∷ 0 ∷ 36 ∷ []) })
unfolding reading
case_31 = refl

-- fn with docs, strict, exactly enough
case_32 : promised (parse stage_one) (35 ∷ 33 ∷ 100 ∷ 10 ∷ 102 ∷ 110 ∷ 32 ∷ 102 ∷ 40 ∷ 97 ∷ 58 ∷ 73 ∷ 110 ∷ 116 ∷ 41 ∷ 123 ∷ 97 ∷ 125 ∷ []) (rubbish 288 144 144 18 90) ≡ result (tree 2 2 8 1 3 0) (record { nodes = padded 288 (2 ∷ 0 ∷ 25 ∷ 16 ∷ 1 ∷ 0 ∷ 0 ∷ 0 ∷ 0 ∷ 0 ∷ 0 ∷ 0 ∷ 0 ∷ 0 ∷ 0 ∷ 0 ∷ 6 ∷ 1 ∷ 0 ∷ 1 ∷ 25 ∷ 7 ∷ 1 ∷ 3 ∷ 1 ∷ 1 ∷ 7 ∷ 1 ∷ []); types = padded 144 (1 ∷ 36 ∷ 11 ∷ 3 ∷ 0 ∷ 0 ∷ 0 ∷ 0 ∷ 1 ∷ 39 ∷ 15 ∷ 4 ∷ []); lists = padded 144 (26 ∷ 0 ∷ 1 ∷ 25 ∷ 9 ∷ 1 ∷ []); roots = padded 18 (1 ∷ []); diagnostics = padded 90 ([]) })
unfolding reading
case_32 = refl

-- fn with docs, strict, longer
case_33 : promised (parse stage_one) (35 ∷ 33 ∷ 100 ∷ 10 ∷ 102 ∷ 110 ∷ 32 ∷ 102 ∷ 40 ∷ 97 ∷ 58 ∷ 73 ∷ 110 ∷ 116 ∷ 41 ∷ 123 ∷ 97 ∷ 125 ∷ []) (rubbish 289 146 147 22 95) ≡ result (tree 2 2 8 1 3 0) (record { nodes = padded 289 (2 ∷ 0 ∷ 25 ∷ 16 ∷ 1 ∷ 0 ∷ 0 ∷ 0 ∷ 0 ∷ 0 ∷ 0 ∷ 0 ∷ 0 ∷ 0 ∷ 0 ∷ 0 ∷ 6 ∷ 1 ∷ 0 ∷ 1 ∷ 25 ∷ 7 ∷ 1 ∷ 3 ∷ 1 ∷ 1 ∷ 7 ∷ 1 ∷ []); types = padded 146 (1 ∷ 36 ∷ 11 ∷ 3 ∷ 0 ∷ 0 ∷ 0 ∷ 0 ∷ 1 ∷ 39 ∷ 15 ∷ 4 ∷ []); lists = padded 147 (26 ∷ 0 ∷ 1 ∷ 25 ∷ 9 ∷ 1 ∷ []); roots = padded 22 (1 ∷ []); diagnostics = padded 95 ([]) })
unfolding reading
case_33 = refl

-- fn with docs, collecting, exactly enough
case_34 : promised (parse_collect stage_one) (35 ∷ 33 ∷ 100 ∷ 10 ∷ 102 ∷ 110 ∷ 32 ∷ 102 ∷ 40 ∷ 97 ∷ 58 ∷ 73 ∷ 110 ∷ 116 ∷ 41 ∷ 123 ∷ 97 ∷ 125 ∷ []) (rubbish 288 144 144 18 90) ≡ result (tree 2 2 8 1 3 0) (record { nodes = padded 288 (2 ∷ 0 ∷ 25 ∷ 16 ∷ 1 ∷ 0 ∷ 0 ∷ 0 ∷ 0 ∷ 0 ∷ 0 ∷ 0 ∷ 0 ∷ 0 ∷ 0 ∷ 0 ∷ 6 ∷ 1 ∷ 0 ∷ 1 ∷ 25 ∷ 7 ∷ 1 ∷ 3 ∷ 1 ∷ 1 ∷ 7 ∷ 1 ∷ []); types = padded 144 (1 ∷ 36 ∷ 11 ∷ 3 ∷ 0 ∷ 0 ∷ 0 ∷ 0 ∷ 1 ∷ 39 ∷ 15 ∷ 4 ∷ []); lists = padded 144 (26 ∷ 0 ∷ 1 ∷ 25 ∷ 9 ∷ 1 ∷ []); roots = padded 18 (1 ∷ []); diagnostics = padded 90 ([]) })
unfolding reading
case_34 = refl

-- fn with docs, collecting, longer
case_35 : promised (parse_collect stage_one) (35 ∷ 33 ∷ 100 ∷ 10 ∷ 102 ∷ 110 ∷ 32 ∷ 102 ∷ 40 ∷ 97 ∷ 58 ∷ 73 ∷ 110 ∷ 116 ∷ 41 ∷ 123 ∷ 97 ∷ 125 ∷ []) (rubbish 289 146 147 22 95) ≡ result (tree 2 2 8 1 3 0) (record { nodes = padded 289 (2 ∷ 0 ∷ 25 ∷ 16 ∷ 1 ∷ 0 ∷ 0 ∷ 0 ∷ 0 ∷ 0 ∷ 0 ∷ 0 ∷ 0 ∷ 0 ∷ 0 ∷ 0 ∷ 6 ∷ 1 ∷ 0 ∷ 1 ∷ 25 ∷ 7 ∷ 1 ∷ 3 ∷ 1 ∷ 1 ∷ 7 ∷ 1 ∷ []); types = padded 146 (1 ∷ 36 ∷ 11 ∷ 3 ∷ 0 ∷ 0 ∷ 0 ∷ 0 ∷ 1 ∷ 39 ∷ 15 ∷ 4 ∷ []); lists = padded 147 (26 ∷ 0 ∷ 1 ∷ 25 ∷ 9 ∷ 1 ∷ []); roots = padded 22 (1 ∷ []); diagnostics = padded 95 ([]) })
unfolding reading
case_35 = refl

-- level 129, strict, exactly enough
case_36 : promised (parse stage_one) (40 ∷ 40 ∷ 40 ∷ 40 ∷ 40 ∷ 40 ∷ 40 ∷ 40 ∷ 40 ∷ 40 ∷ 40 ∷ 40 ∷ 40 ∷ 40 ∷ 40 ∷ 40 ∷ 40 ∷ 40 ∷ 40 ∷ 40 ∷ 40 ∷ 40 ∷ 40 ∷ 40 ∷ 40 ∷ 40 ∷ 40 ∷ 40 ∷ 40 ∷ 40 ∷ 40 ∷ 40 ∷ 40 ∷ 40 ∷ 40 ∷ 40 ∷ 40 ∷ 40 ∷ 40 ∷ 40 ∷ 40 ∷ 40 ∷ 40 ∷ 40 ∷ 40 ∷ 40 ∷ 40 ∷ 40 ∷ 40 ∷ 40 ∷ 40 ∷ 40 ∷ 40 ∷ 40 ∷ 40 ∷ 40 ∷ 40 ∷ 40 ∷ 40 ∷ 40 ∷ 40 ∷ 40 ∷ 40 ∷ 40 ∷ 40 ∷ 40 ∷ 40 ∷ 40 ∷ 40 ∷ 40 ∷ 40 ∷ 40 ∷ 40 ∷ 40 ∷ 40 ∷ 40 ∷ 40 ∷ 40 ∷ 40 ∷ 40 ∷ 40 ∷ 40 ∷ 40 ∷ 40 ∷ 40 ∷ 40 ∷ 40 ∷ 40 ∷ 40 ∷ 40 ∷ 40 ∷ 40 ∷ 40 ∷ 40 ∷ 40 ∷ 40 ∷ 40 ∷ 40 ∷ 40 ∷ 40 ∷ 40 ∷ 40 ∷ 40 ∷ 40 ∷ 40 ∷ 40 ∷ 40 ∷ 40 ∷ 40 ∷ 40 ∷ 40 ∷ 40 ∷ 40 ∷ 40 ∷ 40 ∷ 40 ∷ 40 ∷ 40 ∷ 40 ∷ 40 ∷ 40 ∷ 40 ∷ 40 ∷ 40 ∷ 40 ∷ 40 ∷ 40 ∷ []) (rubbish 2032 1016 1016 127 635) ≡ result (error 10 127 3 0 1) (record { nodes = padded 2032 ([]); types = padded 1016 ([]); lists = padded 1016 ([]); roots = padded 127 ([]); diagnostics = padded 635 ([]) })
unfolding reading
case_36 = refl

-- level 129, collecting, exactly enough
case_37 : promised (parse_collect stage_one) (40 ∷ 40 ∷ 40 ∷ 40 ∷ 40 ∷ 40 ∷ 40 ∷ 40 ∷ 40 ∷ 40 ∷ 40 ∷ 40 ∷ 40 ∷ 40 ∷ 40 ∷ 40 ∷ 40 ∷ 40 ∷ 40 ∷ 40 ∷ 40 ∷ 40 ∷ 40 ∷ 40 ∷ 40 ∷ 40 ∷ 40 ∷ 40 ∷ 40 ∷ 40 ∷ 40 ∷ 40 ∷ 40 ∷ 40 ∷ 40 ∷ 40 ∷ 40 ∷ 40 ∷ 40 ∷ 40 ∷ 40 ∷ 40 ∷ 40 ∷ 40 ∷ 40 ∷ 40 ∷ 40 ∷ 40 ∷ 40 ∷ 40 ∷ 40 ∷ 40 ∷ 40 ∷ 40 ∷ 40 ∷ 40 ∷ 40 ∷ 40 ∷ 40 ∷ 40 ∷ 40 ∷ 40 ∷ 40 ∷ 40 ∷ 40 ∷ 40 ∷ 40 ∷ 40 ∷ 40 ∷ 40 ∷ 40 ∷ 40 ∷ 40 ∷ 40 ∷ 40 ∷ 40 ∷ 40 ∷ 40 ∷ 40 ∷ 40 ∷ 40 ∷ 40 ∷ 40 ∷ 40 ∷ 40 ∷ 40 ∷ 40 ∷ 40 ∷ 40 ∷ 40 ∷ 40 ∷ 40 ∷ 40 ∷ 40 ∷ 40 ∷ 40 ∷ 40 ∷ 40 ∷ 40 ∷ 40 ∷ 40 ∷ 40 ∷ 40 ∷ 40 ∷ 40 ∷ 40 ∷ 40 ∷ 40 ∷ 40 ∷ 40 ∷ 40 ∷ 40 ∷ 40 ∷ 40 ∷ 40 ∷ 40 ∷ 40 ∷ 40 ∷ 40 ∷ 40 ∷ 40 ∷ 40 ∷ 40 ∷ 40 ∷ 40 ∷ 40 ∷ 40 ∷ []) (rubbish 2032 1016 1016 127 635) ≡ result (error 10 127 3 0 1) (record { nodes = padded 2032 ([]); types = padded 1016 ([]); lists = padded 1016 ([]); roots = padded 127 ([]); diagnostics = padded 635 ([]) })
unfolding reading
case_37 = refl

-- name, strict, nodes one cell short
case_38 : promised (parse stage_one) (97 ∷ []) (rubbish 15 8 8 1 5) ≡ result (refused 2) (rubbish 15 8 8 1 5)
unfolding reading
case_38 = refl

-- fn with docs, strict, nodes one cell short, the others longer
case_39 : promised (parse stage_one) (35 ∷ 33 ∷ 100 ∷ 10 ∷ 102 ∷ 110 ∷ 32 ∷ 102 ∷ 40 ∷ 97 ∷ 58 ∷ 73 ∷ 110 ∷ 116 ∷ 41 ∷ 123 ∷ 97 ∷ 125 ∷ []) (rubbish 287 146 147 22 95) ≡ result (refused 2) (rubbish 287 146 147 22 95)
unfolding reading
case_39 = refl

-- name, collecting, nodes one cell short
case_40 : promised (parse_collect stage_one) (97 ∷ []) (rubbish 15 8 8 1 5) ≡ result (refused 2) (rubbish 15 8 8 1 5)
unfolding reading
case_40 = refl

-- fn with docs, collecting, nodes one cell short, the others longer
case_41 : promised (parse_collect stage_one) (35 ∷ 33 ∷ 100 ∷ 10 ∷ 102 ∷ 110 ∷ 32 ∷ 102 ∷ 40 ∷ 97 ∷ 58 ∷ 73 ∷ 110 ∷ 116 ∷ 41 ∷ 123 ∷ 97 ∷ 125 ∷ []) (rubbish 287 146 147 22 95) ≡ result (refused 2) (rubbish 287 146 147 22 95)
unfolding reading
case_41 = refl

-- name, strict, types one cell short
case_42 : promised (parse stage_one) (97 ∷ []) (rubbish 16 7 8 1 5) ≡ result (refused 2) (rubbish 16 7 8 1 5)
unfolding reading
case_42 = refl

-- fn with docs, strict, types one cell short, the others longer
case_43 : promised (parse stage_one) (35 ∷ 33 ∷ 100 ∷ 10 ∷ 102 ∷ 110 ∷ 32 ∷ 102 ∷ 40 ∷ 97 ∷ 58 ∷ 73 ∷ 110 ∷ 116 ∷ 41 ∷ 123 ∷ 97 ∷ 125 ∷ []) (rubbish 289 143 147 22 95) ≡ result (refused 2) (rubbish 289 143 147 22 95)
unfolding reading
case_43 = refl

-- name, collecting, types one cell short
case_44 : promised (parse_collect stage_one) (97 ∷ []) (rubbish 16 7 8 1 5) ≡ result (refused 2) (rubbish 16 7 8 1 5)
unfolding reading
case_44 = refl

-- fn with docs, collecting, types one cell short, the others longer
case_45 : promised (parse_collect stage_one) (35 ∷ 33 ∷ 100 ∷ 10 ∷ 102 ∷ 110 ∷ 32 ∷ 102 ∷ 40 ∷ 97 ∷ 58 ∷ 73 ∷ 110 ∷ 116 ∷ 41 ∷ 123 ∷ 97 ∷ 125 ∷ []) (rubbish 289 143 147 22 95) ≡ result (refused 2) (rubbish 289 143 147 22 95)
unfolding reading
case_45 = refl

-- name, strict, lists one cell short
case_46 : promised (parse stage_one) (97 ∷ []) (rubbish 16 8 7 1 5) ≡ result (refused 2) (rubbish 16 8 7 1 5)
unfolding reading
case_46 = refl

-- fn with docs, strict, lists one cell short, the others longer
case_47 : promised (parse stage_one) (35 ∷ 33 ∷ 100 ∷ 10 ∷ 102 ∷ 110 ∷ 32 ∷ 102 ∷ 40 ∷ 97 ∷ 58 ∷ 73 ∷ 110 ∷ 116 ∷ 41 ∷ 123 ∷ 97 ∷ 125 ∷ []) (rubbish 289 146 143 22 95) ≡ result (refused 2) (rubbish 289 146 143 22 95)
unfolding reading
case_47 = refl

-- name, collecting, lists one cell short
case_48 : promised (parse_collect stage_one) (97 ∷ []) (rubbish 16 8 7 1 5) ≡ result (refused 2) (rubbish 16 8 7 1 5)
unfolding reading
case_48 = refl

-- fn with docs, collecting, lists one cell short, the others longer
case_49 : promised (parse_collect stage_one) (35 ∷ 33 ∷ 100 ∷ 10 ∷ 102 ∷ 110 ∷ 32 ∷ 102 ∷ 40 ∷ 97 ∷ 58 ∷ 73 ∷ 110 ∷ 116 ∷ 41 ∷ 123 ∷ 97 ∷ 125 ∷ []) (rubbish 289 146 143 22 95) ≡ result (refused 2) (rubbish 289 146 143 22 95)
unfolding reading
case_49 = refl

-- name, strict, roots one cell short
case_50 : promised (parse stage_one) (97 ∷ []) (rubbish 16 8 8 0 5) ≡ result (refused 2) (rubbish 16 8 8 0 5)
unfolding reading
case_50 = refl

-- fn with docs, strict, roots one cell short, the others longer
case_51 : promised (parse stage_one) (35 ∷ 33 ∷ 100 ∷ 10 ∷ 102 ∷ 110 ∷ 32 ∷ 102 ∷ 40 ∷ 97 ∷ 58 ∷ 73 ∷ 110 ∷ 116 ∷ 41 ∷ 123 ∷ 97 ∷ 125 ∷ []) (rubbish 289 146 147 17 95) ≡ result (refused 2) (rubbish 289 146 147 17 95)
unfolding reading
case_51 = refl

-- name, collecting, roots one cell short
case_52 : promised (parse_collect stage_one) (97 ∷ []) (rubbish 16 8 8 0 5) ≡ result (refused 2) (rubbish 16 8 8 0 5)
unfolding reading
case_52 = refl

-- fn with docs, collecting, roots one cell short, the others longer
case_53 : promised (parse_collect stage_one) (35 ∷ 33 ∷ 100 ∷ 10 ∷ 102 ∷ 110 ∷ 32 ∷ 102 ∷ 40 ∷ 97 ∷ 58 ∷ 73 ∷ 110 ∷ 116 ∷ 41 ∷ 123 ∷ 97 ∷ 125 ∷ []) (rubbish 289 146 147 17 95) ≡ result (refused 2) (rubbish 289 146 147 17 95)
unfolding reading
case_53 = refl

-- name, strict, diagnostics one cell short
case_54 : promised (parse stage_one) (97 ∷ []) (rubbish 16 8 8 1 4) ≡ result (refused 2) (rubbish 16 8 8 1 4)
unfolding reading
case_54 = refl

-- fn with docs, strict, diagnostics one cell short, the others longer
case_55 : promised (parse stage_one) (35 ∷ 33 ∷ 100 ∷ 10 ∷ 102 ∷ 110 ∷ 32 ∷ 102 ∷ 40 ∷ 97 ∷ 58 ∷ 73 ∷ 110 ∷ 116 ∷ 41 ∷ 123 ∷ 97 ∷ 125 ∷ []) (rubbish 289 146 147 22 89) ≡ result (refused 2) (rubbish 289 146 147 22 89)
unfolding reading
case_55 = refl

-- name, collecting, diagnostics one cell short
case_56 : promised (parse_collect stage_one) (97 ∷ []) (rubbish 16 8 8 1 4) ≡ result (refused 2) (rubbish 16 8 8 1 4)
unfolding reading
case_56 = refl

-- fn with docs, collecting, diagnostics one cell short, the others longer
case_57 : promised (parse_collect stage_one) (35 ∷ 33 ∷ 100 ∷ 10 ∷ 102 ∷ 110 ∷ 32 ∷ 102 ∷ 40 ∷ 97 ∷ 58 ∷ 73 ∷ 110 ∷ 116 ∷ 41 ∷ 123 ∷ 97 ∷ 125 ∷ []) (rubbish 289 146 147 22 89) ≡ result (refused 2) (rubbish 289 146 147 22 89)
unfolding reading
case_57 = refl

-- 65,536 blanks, strict, short arrays
case_58 : promised (parse stage_one) (replicate 65536 32) (rubbish 1 2 3 4 5) ≡ result (refused 2) (rubbish 1 2 3 4 5)
unfolding reading
case_58 = refl

-- 65,537 blanks, strict, short arrays
case_59 : promised (parse stage_one) (replicate 65537 32) (rubbish 1 2 3 4 5) ≡ result (refused 1) (rubbish 1 2 3 4 5)
unfolding reading
case_59 = refl

-- 65,536 blanks, collecting, short arrays
case_60 : promised (parse_collect stage_one) (replicate 65536 32) (rubbish 1 2 3 4 5) ≡ result (refused 2) (rubbish 1 2 3 4 5)
unfolding reading
case_60 = refl

-- 65,537 blanks, collecting, short arrays
case_61 : promised (parse_collect stage_one) (replicate 65537 32) (rubbish 1 2 3 4 5) ≡ result (refused 1) (rubbish 1 2 3 4 5)
unfolding reading
case_61 = refl
