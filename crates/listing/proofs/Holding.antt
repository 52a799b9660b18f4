-- Arrays that a reading filled are listed as the reading.
use mathlib.Core.Path.{◌≡◌, refl, sym, ◌∙◌, ap}
use mathlib.Core.Bool.{Bool, true, ◌&&◌}
use mathlib.Core.Option.{Option}
use mathlib.Core.List.{List, [], ◌∷◌, ◌++◌, map, flatten}
use Prim.Native.Nat.{ℕ, ◌+◌, ◌-◌, ◌*◌, ◌<◌}
use native.Mathlib.Nat.{add-zero}
use native.Mathlib.Omega.{arith}
use lib.Dec.{leb}
use lib.ListN.{length, get_or, take, drop, get_elem?, length-append, get_or-append}
use lib.Seq.{take-append_seam, get_or-take, get_or-drop}
use borrow.Author.Tests.{le-leb}
use Rattle.lex.specs.declared.diagnostic.Diagnostic.{Diagnostic}
use Rattle.ast.specs.declared.Node.{Node}
use Rattle.ast.specs.declared.TypeExpr.{TypeExpr}
use Rattle.ast.specs.declared.Counts.{Counts}
use Rattle.rules.specs.Tree.{Tree}
use Rattle.rules.specs.Parse.{Reading, read, ended}
use Rattle.ast.specs.Layout.{node_width, type_width, zeros, padded, node_cells, type_cells, diagnostic_cells}
use Rattle.rules.specs.Promise.{Arrays, no_error, holding, outcome}
use Rattle.ast.specs.Decode.{node_of, type_of, node_at, type_at}
use Rattle.ast.proofs.LayoutLaws.{node-inside, type-inside, node-length, type-length, node_trip, type_trip}
use Rattle.text.specs.Text.{bytes, number}
use Rattle.listing.specs.Text.{gap}
use Rattle.listing.proofs.LineLaws.{each_same}
use Rattle.listing.specs.Listing.{line, node_text, type_text, node_line, type_line, roots_line, numbers_line, tree_text, counts_of, listing_of, within, diagnostic_at, text_of}
use Rattle.listing.proofs.Stored.{stored, get_d_is, length_stored}

module _ (zs : List ℕ) where
  node-held : (ns : List Node) (i : ℕ) → i < length ns → node_at (flatten (map node_cells ns) ++ zs) i ≡ get_elem? ns i
  node-held ns i h =
      let s = stored node_width node_cells node-length zs ns i h in
      node-inside (flatten (map node_cells ns) ++ zs) i s.room ∙ ap node_of s.here ∙ node_trip s.member ∙ sym s.is

  type-held : (ts : List TypeExpr) (i : ℕ) → i < length ts → type_at (flatten (map type_cells ts) ++ zs) i ≡ get_elem? ts i
  type-held ts i h =
      let s = stored type_width type_cells type-length zs ts i h in
      type-inside (flatten (map type_cells ts) ++ zs) i s.room ∙ ap type_of s.here ∙ type_trip s.member ∙ sym s.is

  five : (e : Diagnostic) → length (diagnostic_cells e) ≡ 5
  unfolding diagnostic_cells
  five e = refl

  -- a cell of a record
  cell : (xs cs : List ℕ) (n k : ℕ) → take 5 (drop n xs) ≡ cs → k < 5 → get_or xs (n + k) 0 ≡ get_or cs k 0
  cell xs cs n k e h = sym (get_or-drop n xs k 0) ∙ sym (get_or-take 5 (drop n xs) k 0 h) ∙ ap (λ (l : List ℕ). get_or l k 0) e

  error-held : (es : List Diagnostic) (i : ℕ) → i < length es → diagnostic_at (flatten (map diagnostic_cells es) ++ zs) i ≡ get_or es i no_error
  unfolding diagnostic_cells
  error-held es i h =
      let xs = flatten (map diagnostic_cells es) ++ zs in
      let s = stored 5 diagnostic_cells five zs es i h in
      let c0 : get_or xs (5 * i) 0 ≡ s.member.number = ap (λ (n : ℕ). get_or xs n 0) (sym (add-zero (5 * i))) ∙ cell xs _ (5 * i) 0 s.here (omega arith) in
      let c1 : get_or xs (5 * i + 1) 0 ≡ s.member.start = cell xs _ (5 * i) 1 s.here (omega arith) in
      let c2 : get_or xs (5 * i + 2) 0 ≡ s.member.len = cell xs _ (5 * i) 2 s.here (omega arith) in
      let c3 : get_or xs (5 * i + 3) 0 ≡ s.member.wanted = cell xs _ (5 * i) 3 s.here (omega arith) in
      let c4 : get_or xs (5 * i + 4) 0 ≡ s.member.seen = cell xs _ (5 * i) 4 s.here (omega arith) in
      rw (c0, c1, c2, c3, c4) (sym (get_d_is es i no_error s.is))

-- what is used lies in an array that is padded
in_front_lem : (n : ℕ) (xs : List ℕ) (m : ℕ) → length xs ≡ n → leb n (length (padded m xs)) ≡ true
in_front_lem n xs m e = le-leb n (length (padded m xs)) (omega (arith, length-append xs (zeros (m - length xs))))

all_true : {a b c d e : Bool} → a ≡ true → b ≡ true → c ≡ true → d ≡ true → e ≡ true → (a && (b && (c && (d && e)))) ≡ true
all_true p q r s u = rw (p, q, r, s) u

module _ (t : Tree) (es : List Diagnostic) (l : Arrays) where
  counts-held : within (counts_of t es) (holding t es l) ≡ true
  unfolding within holding
  counts-held =
      let a = t.arena in
      all_true (in_front_lem (16 * length a.nodes) (flatten (map node_cells a.nodes)) (length l.nodes) (length_stored 16 node_cells node-length a.nodes))
      (in_front_lem (8 * length a.types) (flatten (map type_cells a.types)) (length l.types) (length_stored 8 type_cells type-length a.types))
      (in_front_lem (length a.cells) a.cells (length l.lists) refl)
      (in_front_lem (length t.roots) t.roots (length l.roots) refl)
      (in_front_lem (5 * length es) (flatten (map diagnostic_cells es)) (length l.diagnostics) (length_stored 5 diagnostic_cells (five []) es))

  -- the records in the arrays are those of the tree
  tree-held : (c : Counts) (cells : List ℕ) → c.nodes ≡ length t.arena.nodes → c.types ≡ length t.arena.types → c.roots ≡ length t.roots → c.diagnostics ≡ length es
      → tree_text c cells (node_at (holding t es l).nodes) (type_at (holding t es l).types) (λ i. get_or (holding t es l).roots i 0) (diagnostic_at (holding t es l).diagnostics)
      ≡ tree_text c cells (get_elem? t.arena.nodes) (get_elem? t.arena.types) (λ i. get_or t.roots i 0) (λ i. get_or es i no_error)
  unfolding tree_text holding node_line type_line roots_line
  tree-held c cells n m r d =
      let z = zeros (length l.nodes - length (flatten (map node_cells t.arena.nodes))) in
      let y = zeros (length l.types - length (flatten (map type_cells t.arena.types))) in
      let w = zeros (length l.diagnostics - length (flatten (map diagnostic_cells es))) in
      let nodes = each_same (node_line cells (node_at (holding t es l).nodes)) (node_line cells (get_elem? t.arena.nodes)) c.nodes
      (λ (i : ℕ) (h : i < c.nodes). ap (λ (o : Option Node). line (bytes "node") (number i ∷ node_text cells o ∷ [])) (node-held z t.arena.nodes i (omega arith))) in
      let types = each_same (type_line cells (type_at (holding t es l).types)) (type_line cells (get_elem? t.arena.types)) c.types
      (λ (i : ℕ) (h : i < c.types). ap (λ (o : Option TypeExpr). line (bytes "type") (number i ∷ type_text cells o ∷ [])) (type-held y t.arena.types i (omega arith))) in
      let roots = each_same (λ (i : ℕ). gap 1 ++ number (get_or (holding t es l).roots i 0)) (λ (i : ℕ). gap 1 ++ number (get_or t.roots i 0)) c.roots
      (λ (i : ℕ) (h : i < c.roots). ap (λ (k : ℕ). gap 1 ++ number k) (get_or-append t.roots (zeros (length l.roots - length t.roots)) 0 i (omega arith))) in
      let errors = each_same (λ (i : ℕ). numbers_line (bytes "diag") (diagnostic_at (holding t es l).diagnostics i)) (λ (i : ℕ). numbers_line (bytes "diag") (get_or es i no_error)) c.diagnostics
      (λ (i : ℕ) (h : i < c.diagnostics). ap (numbers_line (bytes "diag")) (error-held w es i (omega arith))) in
      rw (nodes, types, roots, errors)

-- what a reading answers and leaves in whatever arrays, listed, is the listing of the reading
pub listing_held : (r : Reading) (l : Arrays) → text_of (outcome r l).answer (outcome r l).arrays ≡ listing_of r
unfolding outcome text_of listing_of holding
listing_held (read t es) l =
    rw (counts-held t es l, text_of)
    (ap (λ (cells : List ℕ). tree_text (counts_of t es) cells (node_at (holding t es l).nodes) (type_at (holding t es l).types) (λ i. get_or (holding t es l).roots i 0) (diagnostic_at (holding t es l).diagnostics)) (cells-held t l)
    ∙ tree-held t es l (counts_of t es) t.arena.cells refl refl refl refl)
  where
    cells-held : (t : Tree) (l : Arrays) → take (length t.arena.cells) (padded (length l.lists) t.arena.cells) ≡ t.arena.cells
    cells-held t l = take-append_seam t.arena.cells (zeros (length l.lists - length t.arena.cells))
listing_held (ended e) l = refl
