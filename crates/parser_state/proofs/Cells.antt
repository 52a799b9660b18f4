-- Records, and cells of lists under construction.
use Rattle.std.proofs.Common.{◌≡◌, ℕ, suc, ◌+◌, ◌-◌, ◌*◌, ◌<◌, ◌≤◌, true, ltb, List, [], ◌∷◌, ◌++◌, map, reverse, length, get_or, take, drop, set, sym, refl, ap, ◌∙◌, subst, append_assoc, append-nil, arith, length-append, length-drop, take-append-drop, drop_of_length-le, length-take-le, get_or-drop, get_or-take, take_all, take_at, drop_at, ltb-false, ltb-true}
use mathlib.Core.List.{flatten, reverse-cons, reverse-append, reverse-reverse}
use lib.ListN.{length-reverse, get_or-append}
use borrow.Rule.Slice.PartMut.{mid_of, put_mid}
use lib.Seq.{paste, length-paste, drop-append-add, drop-append-le, drop-paste, paste-suc, get_or_at}
use Rattle.lex.specs.declared.tok.Token.{Token}
use Rattle.rules.specs.Combinators.{pure, push_node_and, push_type, with_arena, alloc_slice}
use Rattle.ast.specs.Layout.{token_cells, run_cells, node_width, type_width, zeros, padded, node_cells, type_cells}
use Rattle.ast.specs.declared.Node.{Node}
use Rattle.ast.specs.declared.Node.TheVariants as N
use Rattle.ast.specs.declared.TypeExpr.{TypeExpr}
use Rattle.ast.specs.declared.TypeExpr.TheVariants as TE
use Rattle.parser_state.specs.Represents.{Code, Kept, AsNamed, AsLent, kept_of, loan, with_used, with_nodes, with_types, with_lists, going, doc_cells, NodesLaid, TypesLaid, ListsLaid}
use Rattle.parser_state.specs.Refines.{stack_unchanged, RefinesBy, PushesBy, ListsBy}
use Rattle.parser_state.specs.declared.Used.{Used}
use Rattle.parser_state.proofs.Steps.{either, true≢false, left-some}

-- ---- lists

pub flatten_snoc : {A : Type 0} (xs : List (List A)) (x : List A) → flatten (xs ++ (x ∷ [])) ≡ flatten xs ++ x
unfolding flatten
flatten_snoc [] x = append-nil x
flatten_snoc (y ∷ ys) x = ap (λ (l : List _). y ++ l) (flatten_snoc ys x) ∙ sym (append_assoc y (flatten ys) x)

pub map_snoc : {A B : Type 0} (f : A → B) (xs : List A) (x : A) → map f (xs ++ (x ∷ [])) ≡ map f xs ++ (f x ∷ [])
map_snoc f [] x = refl
map_snoc f (y ∷ ys) x = ap (λ (l : List _). f y ∷ l) (map_snoc f ys x)

-- ---- records

-- zeros behind cells take none away
pub padded-length : (n : ℕ) (xs : List ℕ) → length xs ≤ length (padded n xs)
padded-length n xs = omega (arith, length-append xs (zeros (n - length xs)))

-- cells laid over the first of those behind what is there
pub laid-over : (xs vs between back : List ℕ) (n : ℕ) → length xs ≡ n → length vs ≤ length between → paste (xs ++ (between ++ back)) n vs (length vs) ≡ (xs ++ vs) ++ (drop (length vs) between ++ back)
laid-over xs vs between back n e h =
    let a : take n (xs ++ (between ++ back)) ≡ xs = take_at xs (between ++ back) n e in
    let b : take (length vs) vs ≡ vs = take_all (length vs) vs (omega arith) in
    let c : drop (n + length vs) (xs ++ (between ++ back)) ≡ drop (length vs) between ++ back =
    subst (λ (k : ℕ). drop (k + length vs) (xs ++ (between ++ back)) ≡ drop (length vs) between ++ back) e
    (drop-append-add xs (between ++ back) (length vs) ∙ drop-append-le (length vs) between back h) in
    rw (a, b, c)

-- cells laid over the last of them
pub laid-last : (xs vs between back : List ℕ) (n : ℕ) → length vs ≤ length between → n ≡ length xs + (length between - length vs) → paste (xs ++ (between ++ back)) n vs (length vs) ≡ xs ++ (take (length between - length vs) between ++ (vs ++ back))
laid-last xs vs between back n h e =
    let k : ℕ = length between - length vs in
    let front : List ℕ = take k between in
    let rest : List ℕ = drop k between in
    let split : xs ++ (between ++ back) ≡ (xs ++ front) ++ (rest ++ back) =
    ap (λ (l : List ℕ). xs ++ (l ++ back)) (sym (take-append-drop k between)) ∙ simp append_assoc in
    let many : length rest ≡ length vs = omega (arith, length-drop k between) in
    let none : drop (length vs) rest ≡ [] = drop_of_length-le rest {i = length vs} (omega arith) in
    ap (λ (l : List ℕ). paste l n vs (length vs)) split
    ∙ laid-over (xs ++ front) vs rest back n (omega (arith, length-append xs front, length-take-le k between (omega arith))) (omega arith)
    ∙ rw none (simp append_assoc)

-- an array is as long as before, where that is said
abbrev pub Long : Kept → List ℕ → List ℕ → Type 0
Long AsNamed xs ys = Unit {0}
Long AsLent xs ys = length xs ≡ length ys

-- what is said of the loan holds where what is written is so
module _ (xs : List ℕ) (s : Code) where
  pub nodes_as_long : (kept : Kept) → Long kept xs s.nodes → kept_of kept (loan (with_nodes s xs)) ≡ kept_of kept (loan s)
  nodes_as_long AsNamed e = refl
  nodes_as_long AsLent e = λ i. record { names = s.names; nodes = e i; types = length s.types; lists = length s.lists }

  pub types_as_long : (kept : Kept) → Long kept xs s.types → kept_of kept (loan (with_types s xs)) ≡ kept_of kept (loan s)
  types_as_long AsNamed e = refl
  types_as_long AsLent e = λ i. record { names = s.names; nodes = length s.nodes; types = e i; lists = length s.lists }

  pub lists_as_long : (kept : Kept) → Long kept xs s.lists → kept_of kept (loan (with_lists s xs)) ≡ kept_of kept (loan s)
  lists_as_long AsNamed e = refl
  lists_as_long AsLent e = λ i. record { names = s.names; nodes = length s.nodes; types = length s.types; lists = e i }

-- one more record, `cells` being those of each
module _ {A : Type 0} (cells : A → List ℕ) (xs : List A) (x : A) (array array' between back vs : List ℕ) (n : ℕ) where
  pub record Grown : Type 0 where
    pub same : length array' ≡ length array
    pub new : array' ≡ flatten (map cells (xs ++ (x ∷ []))) ++ (drop (length vs) between ++ back)

  pub growing : array ≡ flatten (map cells xs) ++ (between ++ back) → length (flatten (map cells xs)) ≡ n → length vs ≤ length between → vs ≡ cells x → array' ≡ paste array n vs (length vs) → Grown
  growing a f fits v e =
      let front : List ℕ = flatten (map cells xs) in
      let more : flatten (map cells (xs ++ (x ∷ []))) ≡ front ++ vs = ap flatten (map_snoc cells xs x) ∙ flatten_snoc (map cells xs) (cells x) ∙ ap (λ (l : List ℕ). front ++ l) (sym v) in
      let all : length array ≡ length front + (length between + length back) = ap length a ∙ length-append front (between ++ back) ∙ ap (λ (k : ℕ). length front + k) (length-append between back) in
      record {
        same = ap length e ∙ length-paste array n vs (length vs) (omega arith) (omega arith);
        new = e ∙ ap (λ (l : List ℕ). paste l n vs (length vs)) a ∙ laid-over front vs between back n f fits ∙ ap (λ (l : List ℕ). l ++ (drop (length vs) between ++ back)) (sym more);
      }

-- ---- types

pub cells-length : (t : TypeExpr) → length (type_cells t) ≡ 8
unfolding type_cells token_cells run_cells
cells-length (TE.Atom t) = refl
cells-length (TE.Foreign t) = refl
cells-length (TE.Option i) = refl
cells-length (TE.Array i) = refl
cells-length (TE.Record src fields) = refl

pub types-length : (ts : List TypeExpr) → length (flatten (map type_cells ts)) ≡ 8 * length ts
unfolding flatten
types-length [] = refl
types-length (t ∷ ts) = omega (arith, length-append (type_cells t) (flatten (map type_cells ts)), cells-length t, types-length ts)

pub docs-length : (ds : List Token) → length (doc_cells ds) ≡ 3 * length ds
unfolding flatten token_cells
docs-length [] = refl
docs-length (d ∷ ds) = omega (arith, docs-length ds)

-- how many cells lie between the types and the docs
pub types-room : {types : List ℕ} {c k : ℕ} {arena : List TypeExpr} {docs : List Token} (h : TypesLaid types c k arena docs) → length types ≡ 8 * c + (length h.between + 3 * k)
types-room {types} {c} {k} {arena} {docs} h =
    omega (arith, h.counted, h.doc_counted, types-length arena, docs-length docs, length-reverse (doc_cells docs), ap length h.laid ∙ length-append (flatten (map type_cells arena)) _, length-append h.between (reverse (doc_cells docs)))

abbrev pub type_made : Used → Used
type_made u = record { nodes = u.nodes; values = u.values; types = u.types + 1; docs = u.docs; cells = u.cells; scratch = u.scratch }

pub making : {kept : Kept} (tokens cells : List ℕ) {types' : List ℕ} (s : Code) (t : TypeExpr) → going s ≡ true → cells ≡ type_cells t → types' ≡ paste s.types (type_width * s.parser.used.types) cells (length cells) → Long kept types' s.types
    → RefinesBy kept tokens 1 0 (push_type t) (λ i. i ≡ record { 0 = s.parser.used.types }) stack_unchanged 0 0 0 s (with_types (with_used s (type_made s.parser.used)) types')
unfolding push_type with_arena
making {kept} tokens cells {types'} s t g w e long = record {
  sticky = λ f. absurd (true≢false g f);
  same = types_as_long _ s kept long;
  monotone = omega arith;
  progress = λ _. omega arith;
  simulates = λ R L stack m h.
      let u : Used = s.parser.used in
      let laid = h.related.types in
      let credit = h.related.credit in
      let some : 1 ≤ length m.left = left-some h.related in
      let eight : length cells ≡ type_width = ap length w ∙ cells-length t in
      let n : length (flatten (map type_cells m.arena.types)) ≡ type_width * u.types = omega (arith, types-length m.arena.types, laid.counted) in
      let room : length cells ≤ length laid.between = omega (arith, credit.records, h.related.lent.types, types-room laid) in
      let more = growing type_cells m.arena.types t s.types types' laid.between (reverse (doc_cells m.docs)) cells (type_width * u.types) laid.laid n room w e in (
        (λ i. record { 0 = sym laid.counted i }),
        record {
          status = h.status;
          related = record {
            left = h.related.left;
            here = h.related.here;
            near = h.related.near;
            taken = h.related.taken;
            few = h.related.few;
            nodes = h.related.nodes;
            types = record {
              between = drop (length cells) laid.between;
              laid = more.new;
              counted = omega (arith, laid.counted, length-append m.arena.types (t ∷ []));
              doc_counted = laid.doc_counted;
              near = laid.near;
            };
            lists = h.related.lists;
            bytes = h.related.bytes;
            credit = record { records = omega (arith, credit.records); numbers = omega (arith, credit.numbers); room = omega (arith, credit.room) };
            lent = record { small = h.related.lent.small; nodes = h.related.lent.nodes; types = omega (arith, more.same, h.related.lent.types); lists = h.related.lent.lists };
          };
        },
      );
}

-- ---- nodes

pub node-length : (n : Node) → length (node_cells n) ≡ 16
unfolding node_cells token_cells run_cells
node-length (N.Atom id raw) = refl
node-length (N.Ident id name) = refl
node-length (N.Bin id op lhs rhs) = refl
node-length (N.Unary id op rhs) = refl
node-length (N.Let id docs name rhs) = refl
node-length (N.Fn id docs name args ret body) = refl
node-length (N.Match id cases t b) = refl
node-length (N.Call id target args) = refl
node-length (N.Field id target name) = refl
node-length (N.Cast id src lhs rhs) = refl
node-length (N.Import id src pkgs) = refl
node-length (N.Extern id src docs name fns) = refl
node-length (N.Record id src fields) = refl
node-length (N.Array id src elements) = refl

pub nodes-length : (ns : List Node) → length (flatten (map node_cells ns)) ≡ 16 * length ns
unfolding flatten
nodes-length [] = refl
nodes-length (n ∷ ns) = omega (arith, length-append (node_cells n) (flatten (map node_cells ns)), node-length n, nodes-length ns)

abbrev pub node_made : Used → ℕ → Used
node_made u more = record { nodes = u.nodes + 1; values = u.values + (1 + more); types = u.types; docs = u.docs; cells = u.cells; scratch = u.scratch }

-- how many cells lie behind the nodes
pub nodes-room : {nodes : List ℕ} {c v : ℕ} {arena : List Node} {given : ℕ} (h : NodesLaid nodes c v arena given) → length nodes ≡ 16 * c + length h.between
nodes-room {nodes} {c} {v} {arena} {given} h =
    omega (arith, h.counted, nodes-length arena, ap length h.laid ∙ length-append (flatten (map node_cells arena)) _, length-append h.between [])

pub node_making : {kept : Kept} (tokens cells : List ℕ) {nodes' : List ℕ} (s : Code) (f : ℕ → Node) (more rooms : ℕ) → 1 + more ≤ 40000 * rooms → going s ≡ true → cells ≡ node_cells (f s.parser.used.values) → nodes' ≡ paste s.nodes (node_width * s.parser.used.nodes) cells (length cells) → Long kept nodes' s.nodes
    → RefinesBy kept tokens rooms 0 (push_node_and more f) (λ i. i ≡ record { 0 = s.parser.used.nodes }) stack_unchanged 0 0 0 s (with_nodes (with_used s (node_made s.parser.used more)) nodes')
unfolding push_node_and with_arena
node_making {kept} tokens cells {nodes'} s f more rooms few g w e long = record {
  sticky = λ f. absurd (true≢false g f);
  same = nodes_as_long _ s kept long;
  monotone = omega arith;
  progress = λ _. omega arith;
  simulates = λ R L stack m h.
      let u : Used = s.parser.used in
      let laid = h.related.nodes in
      let credit = h.related.credit in
      let v : u.values ≡ m.arena.values = laid.valued in
      let x : Node = f m.arena.values in
      let some : 1 ≤ length m.left = left-some h.related in
      let made : cells ≡ node_cells x = w ∙ ap (λ (k : ℕ). node_cells (f k)) v in
      let wide : length cells ≡ node_width = ap length made ∙ node-length x in
      let n : length (flatten (map node_cells m.arena.nodes)) ≡ node_width * u.nodes = omega (arith, nodes-length m.arena.nodes, laid.counted) in
      let room : length cells ≤ length laid.between = omega (arith, credit.records, h.related.lent.nodes, nodes-room laid) in
      let more' = growing node_cells m.arena.nodes x s.nodes nodes' laid.between [] cells (node_width * u.nodes) laid.laid n room made e in (
        (λ i. record { 0 = sym laid.counted i }),
        record {
          status = h.status;
          related = record {
            left = h.related.left;
            here = h.related.here;
            near = h.related.near;
            taken = h.related.taken;
            few = h.related.few;
            nodes = record {
              between = drop (length cells) laid.between;
              laid = more'.new;
              counted = omega (arith, laid.counted, length-append m.arena.nodes (x ∷ []));
              valued = omega (arith, v);
            };
            types = h.related.types;
            lists = h.related.lists;
            bytes = h.related.bytes;
            credit = record { records = omega (arith, credit.records); numbers = omega (arith, credit.numbers); room = omega (arith, credit.room) };
            lent = record { small = h.related.lent.small; nodes = omega (arith, more'.same, h.related.lent.nodes); types = h.related.lent.types; lists = h.related.lent.lists };
          };
        },
      );
}

-- ---- cells under construction

abbrev pub pushed : Used → ℕ → Used
pushed u n = record { nodes = u.nodes; values = u.values; types = u.types; docs = u.docs; cells = u.cells; scratch = u.scratch + n }

-- how many cells lie between the lists and those under construction
pub lists-room : {lists : List ℕ} {c k : ℕ} {cells stack : List ℕ} (h : ListsLaid lists c k cells stack) → length lists ≡ c + (length h.between + k)
lists-room {lists} {c} {k} {cells} {stack} h =
    omega (arith, h.counted, h.stacked, ap length h.laid ∙ length-append cells _, length-append h.between (reverse stack), length-reverse stack)

-- cells that are written the last first before those are pushed
pub pushing : {kept : Kept} (tokens vs : List ℕ) {lists' : List ℕ} (s : Code) → going s ≡ true → lists' ≡ paste s.lists (length s.lists - (s.parser.used.scratch + length vs)) vs (length vs) → Long kept lists' s.lists
    → PushesBy kept tokens (2 * length vs) (reverse vs) s (with_lists (with_used s (pushed s.parser.used (length vs))) lists')
unfolding pure
pushing {kept} tokens vs {lists'} s g e long = record {
  sticky = λ f. absurd (true≢false g f);
  same = lists_as_long _ s kept long;
  monotone = omega arith;
  progress = λ _. omega arith;
  simulates = λ R L stack m h.
      let u : Used = s.parser.used in
      let laid = h.related.lists in
      let credit = h.related.credit in
      let at : ℕ = length s.lists - (u.scratch + length vs) in
      let all : length s.lists ≡ u.cells + (length laid.between + u.scratch) = lists-room laid in
      let some : 1 ≤ length m.left = left-some h.related in
      let room : length vs ≤ length laid.between = omega (arith, credit.room, h.related.lent.lists) in
      let same : length lists' ≡ length s.lists = ap length e ∙ length-paste s.lists at vs (length vs) (omega arith) (omega arith) in
      let new : lists' ≡ m.arena.cells ++ (take (length laid.between - length vs) laid.between ++ (vs ++ reverse stack)) =
      e ∙ ap (λ (l : List ℕ). paste l at vs (length vs)) laid.laid ∙ laid-last m.arena.cells vs laid.between (reverse stack) at room (omega (arith, laid.counted)) in (
        tt,
        record {
          status = h.status;
          related = record {
            left = h.related.left;
            here = h.related.here;
            near = h.related.near;
            taken = h.related.taken;
            few = h.related.few;
            nodes = h.related.nodes;
            types = h.related.types;
            lists = record {
              between = take (length laid.between - length vs) laid.between;
              laid = new ∙ rw (reverse-append stack (reverse vs), reverse-reverse vs) refl;
              counted = laid.counted;
              stacked = omega (arith, laid.stacked, length-append stack (reverse vs), length-reverse vs);
            };
            bytes = h.related.bytes;
            credit = record { records = omega (arith, credit.records); numbers = omega (arith, credit.numbers); room = omega (arith, credit.room) };
            lent = record { small = h.related.lent.small; nodes = h.related.lent.nodes; types = h.related.lent.types; lists = omega (arith, same, h.related.lent.lists) };
          };
        },
      );
}

-- ---- a finished list

abbrev pub finished : Used → ℕ → Used
finished u mark = record { nodes = u.nodes; values = u.values; types = u.types; docs = u.docs; cells = u.cells + (u.scratch - mark); scratch = mark }

-- what `move_list` makes of the table from `cells` on, `n` cells of `scratch` being the list
abbrev pub moved : List ℕ → ℕ → ℕ → List ℕ
moved part n scratch = paste part 0 (reverse (take n (drop (length part - scratch) part))) n

-- the list lies in front then, and still at the far end
moved_list : (between top base : List ℕ) (n scratch : ℕ) → length top ≡ n → length base + n ≡ scratch → n ≤ length between
    → moved (between ++ (reverse top ++ base)) n scratch ≡ top ++ (drop n between ++ (reverse top ++ base))
moved_list between top base n scratch e k fits =
    let part : List ℕ = between ++ (reverse top ++ base) in
    let size : length part ≡ length between + (length top + length base) = length-append between (reverse top ++ base) ∙ ap (λ (j : ℕ). length between + j) (length-append (reverse top) base ∙ ap (λ (j : ℕ). j + length base) (length-reverse top)) in
    let place : length part - scratch ≡ length between = omega arith in
    let far : drop (length part - scratch) part ≡ reverse top ++ base = ap (λ (j : ℕ). drop j part) place ∙ drop_at between (reverse top ++ base) (length between) refl in
    let cells : reverse (take n (drop (length part - scratch) part)) ≡ top = ap (λ (l : List ℕ). reverse (take n l)) far ∙ ap reverse (take_at (reverse top) base n (length-reverse top ∙ e)) ∙ reverse-reverse top in
    let w : n ≡ length top = sym e in
    ap (λ (l : List ℕ). paste part 0 l n) cells ∙ rw w (laid-over [] top between (reverse top ++ base) 0 refl (omega arith))

pub allocating : {kept : Kept} (tokens : List ℕ) {lists' : List ℕ} (s : Code) (mark members : ℕ) → going s ≡ true → lists' ≡ take s.parser.used.cells s.lists ++ moved (drop s.parser.used.cells s.lists) (s.parser.used.scratch - mark) s.parser.used.scratch → Long kept lists' s.lists
    → ListsBy kept tokens alloc_slice (λ run. run ≡ record { start = s.parser.used.cells; len = members }) 0 0 0 mark members s (with_lists (with_used s (finished s.parser.used mark)) lists')
unfolding alloc_slice with_arena
allocating {kept} tokens {lists'} s mark members g e long = record {
  sticky = λ f. absurd (true≢false g f);
  same = lists_as_long _ s kept long;
  monotone = omega arith;
  progress = λ _. omega arith;
  simulates = λ R L stack xs m a b few h.
      let u : Used = s.parser.used in
      let laid = h.related.lists in
      let credit = h.related.credit in
      let top : List ℕ = flatten xs in
      let cells : List ℕ = m.arena.cells in
      let between : List ℕ = laid.between in
      let all : length s.lists ≡ u.cells + (length between + u.scratch) = lists-room laid in
      let some : 1 ≤ length m.left = left-some h.related in
      let n : u.scratch ≡ length stack + length top = laid.stacked ∙ length-append stack top in
      let c : length cells ≡ u.cells = sym laid.counted in
      let old : s.lists ≡ cells ++ (between ++ (reverse top ++ reverse stack)) = laid.laid ∙ rw (reverse-append stack top) refl in
      let tail : drop u.cells s.lists ≡ between ++ (reverse top ++ reverse stack) = ap (drop u.cells) old ∙ drop_at cells _ u.cells c in
      let front : take u.cells s.lists ≡ cells = ap (take u.cells) old ∙ take_at cells _ u.cells c in
      let new : lists' ≡ cells ++ (top ++ (drop (u.scratch - mark) between ++ (reverse top ++ reverse stack))) =
      e ∙ ap (λ (l : List ℕ). l ++ moved (drop u.cells s.lists) (u.scratch - mark) u.scratch) front
      ∙ ap (λ (l : List ℕ). cells ++ moved l (u.scratch - mark) u.scratch) tail
      ∙ ap (λ (l : List ℕ). cells ++ l) (moved_list between top (reverse stack) (u.scratch - mark) u.scratch (omega arith) (omega (arith, length-reverse stack)) (omega (arith, credit.room, h.related.lent.lists))) in
      let same : length lists' ≡ length s.lists =
      omega (arith, ap length new ∙ length-append cells (top ++ (drop (u.scratch - mark) between ++ (reverse top ++ reverse stack))), length-append top (drop (u.scratch - mark) between ++ (reverse top ++ reverse stack)), length-append (drop (u.scratch - mark) between) (reverse top ++ reverse stack), length-drop (u.scratch - mark) between, length-append (reverse top) (reverse stack), length-reverse top, length-reverse stack, credit.room, h.related.lent.lists) in (
        (λ i. record { start = c i; len = b i }),
        record {
          status = h.status;
          related = record {
            left = h.related.left;
            here = h.related.here;
            near = h.related.near;
            taken = h.related.taken;
            few = h.related.few;
            nodes = h.related.nodes;
            types = h.related.types;
            lists = record {
              between = drop (u.scratch - mark) between ++ reverse top;
              laid = new ∙ simp append_assoc;
              counted = omega (arith, length-append cells top);
              stacked = sym a;
            };
            bytes = h.related.bytes;
            credit = record { records = omega (arith, credit.records); numbers = omega (arith, credit.numbers); room = omega (arith, credit.room) };
            lent = record { small = h.related.lent.small; nodes = h.related.lent.nodes; types = h.related.lent.types; lists = omega (arith, same, h.related.lent.lists) };
          };
        },
      );
}

-- what a part from a place to the end was, and the whole with another there
pub tail_mid : (a : ℕ) (xs : List ℕ) → mid_of a (length xs - a) xs ≡ drop a xs
tail_mid a xs = take_all (length xs - a) (drop a xs) (omega (arith, length-drop a xs))

pub tail_put : (a : ℕ) (xs ys zs : List ℕ) → ys ≡ zs → put_mid a (length xs - a) xs ys ≡ take a xs ++ zs
tail_put a xs ys zs e = let none : drop (length xs - a) (drop a xs) ≡ [] = drop_of_length-le (drop a xs) {i = length xs - a} (omega (arith, length-drop a xs)) in ap (λ (l : List ℕ). take a xs ++ (ys ++ l)) none ∙ ap (λ (l : List ℕ). take a xs ++ l) (append-nil ys ∙ e)

-- the whole stays as long where the part does
pub tail_put-length : (a : ℕ) (xs ys : List ℕ) → a ≤ length xs → length ys ≡ length (mid_of a (length xs - a) xs) → length (put_mid a (length xs - a) xs ys) ≡ length xs
tail_put-length a xs ys h e = omega (arith, ap length (tail_put a xs ys ys refl) ∙ length-append (take a xs) ys, length-take-le a xs h, ap length (tail_mid a xs), length-drop a xs)

-- ---- cells that are copied

-- a cell of a list in reverse
get_d_reverse : (l : List ℕ) (i : ℕ) → i < length l → get_or (reverse l) i 0 ≡ get_or l (length l - 1 - i) 0
get_d_reverse [] i h = absurd (omega arith)
get_d_reverse (x ∷ l) i h = ap (λ (r : List ℕ). get_or r i 0) (reverse-cons x l) ∙ either (ltb i (length l))
    (λ b. let less : i < length l = ltb-true _ _ b in let e : length (x ∷ l) - 1 - i ≡ suc (length l - 1 - i) = omega arith in
    get_or-append (reverse l) (x ∷ []) 0 i (omega (arith, length-reverse l)) ∙ get_d_reverse l i less ∙ ap (λ (k : ℕ). get_or (x ∷ l) k 0) (sym e))
    (λ b. let more : length l ≤ i = ltb-false _ _ b in let e : length (x ∷ l) - 1 - i ≡ 0 = omega arith in
    get_or_at (reverse l) x [] 0 i (omega (arith, length-reverse l)) ∙ ap (λ (k : ℕ). get_or (x ∷ l) k 0) (sym e))

-- the next of the cells `vs` is set
turn : (dst vs : List ℕ) (at i v : ℕ) {d : List ℕ} → d ≡ paste dst at vs i → at + i < length dst → i < length vs → v ≡ get_or vs i 0 → set d (at + i) v ≡ paste dst at vs (i + 1)
turn dst vs at i v e a b w = ap (λ (l : List ℕ). set l (at + i) v) e ∙ ap (set (paste dst at vs i) (at + i)) w ∙ paste-suc dst at vs i 0 a b ∙ ap (paste dst at vs) {x = suc i} {y = i + 1} (omega arith)

-- the next cell of a list, which lies in reverse at the far end
pub list_turn : (part₀ part : List ℕ) (n scratch i : ℕ) → n ≤ scratch → n + scratch ≤ length part₀ → i < n → length part ≡ length part₀ → part ≡ paste part₀ 0 (reverse (take n (drop (length part₀ - scratch) part₀))) i
    → set part i (get_or part (length part - scratch + (n - 1 - i)) 0) ≡ paste part₀ 0 (reverse (take n (drop (length part₀ - scratch) part₀))) (i + 1)
list_turn part₀ part n scratch i a b h same e =
    let top : List ℕ = take n (drop (length part₀ - scratch) part₀) in
    let from : ℕ = length part - scratch + (n - 1 - i) in
    let size : length top ≡ n = length-take-le n (drop (length part₀ - scratch) part₀) (omega (arith, length-drop (length part₀ - scratch) part₀)) in
    let back : get_or part from 0 ≡ get_or part₀ from 0 =
    ap (λ (k : ℕ). get_or part k 0) {x = from} {y = i + (from - i)} (omega arith) ∙ sym (get_or-drop i part (from - i) 0)
    ∙ ap (λ (l : List ℕ). get_or l (from - i) 0) (ap (drop i) e ∙ ap (λ (k : ℕ). drop k (paste part₀ 0 (reverse top) i)) {x = i} {y = 0 + i} (omega arith) ∙ drop-paste part₀ 0 (reverse top) i (omega arith) (omega (arith, length-reverse top)) ∙ ap (λ (k : ℕ). drop k part₀) {x = 0 + i} {y = i} (omega arith))
    ∙ get_or-drop i part₀ (from - i) 0 ∙ ap (λ (k : ℕ). get_or part₀ k 0) {x = i + (from - i)} {y = from} (omega arith) in
    let cell : get_or (reverse top) i 0 ≡ get_or part₀ from 0 =
    get_d_reverse top i (omega arith) ∙ ap (λ (k : ℕ). get_or top (k - 1 - i) 0) size ∙ get_or-take n (drop (length part₀ - scratch) part₀) (n - 1 - i) 0 (omega arith)
    ∙ get_or-drop (length part₀ - scratch) part₀ (n - 1 - i) 0 ∙ ap (λ (k : ℕ). get_or part₀ (k - scratch + (n - 1 - i)) 0) (sym same) in
    ap (λ (k : ℕ). set part k (get_or part from 0)) {x = i} {y = 0 + i} (omega arith) ∙ turn part₀ (reverse top) 0 i (get_or part from 0) e (omega arith) (omega (arith, length-reverse top)) (back ∙ sym cell)

-- the next cell of the docs
pub docs_turn : (src dst₀ dst : List ℕ) (at n i : ℕ) → n ≤ length src → at + n ≤ length dst₀ → i < n → dst ≡ paste dst₀ at (reverse (drop (length src - n) src)) i
    → set dst (at + i) (get_or src (length src - 1 - i) 0) ≡ paste dst₀ at (reverse (drop (length src - n) src)) (i + 1)
docs_turn src dst₀ dst at n i a b h e =
    let top : List ℕ = drop (length src - n) src in
    let size : length top ≡ n = length-drop (length src - n) src ∙ (let k : length src - (length src - n) ≡ n = omega arith in k) in
    let cell : get_or (reverse top) i 0 ≡ get_or src (length src - 1 - i) 0 =
    get_d_reverse top i (omega arith) ∙ ap (λ (k : ℕ). get_or top (k - 1 - i) 0) size ∙ get_or-drop (length src - n) src (n - 1 - i) 0
    ∙ ap (λ (k : ℕ). get_or src k 0) {x = length src - n + (n - 1 - i)} {y = length src - 1 - i} (omega arith) in
    turn dst₀ (reverse top) at i (get_or src (length src - 1 - i) 0) e (omega arith) (omega (arith, length-reverse top)) (sym cell)
