-- What a reading promises, from how the roots end.
use Rattle.std.specs.Prelude.{Option, Some, Result as Answered, Ok, Err, MatchResult, IsErrAnd}
use Rattle.std.specs.Result.{is_ok}
use Rattle.ast.specs.declared.ReadError.{ReadError}
use Rattle.ast.specs.declared.ReadError.TheVariants.{Refused}
use mathlib.Core.Path.{◌≡◌, refl, sym, ap, ◌∙◌}
use mathlib.Core.Bool.{Bool, true, false}
use mathlib.Core.List.{List, [], ◌++◌, map, flatten}
use Prim.Native.Nat.{ℕ, ◌*◌, ◌-◌, ◌≤◌}
use native.Mathlib.Omega.{arith}
use lib.Dec.{eqb, ltb}
use lib.ListN.{length, take}
use borrow.Author.Tests.{ltb-false, eqb-true, eqb-false}
use Rattle.lex.specs.Answer.{max_bytes, Answer}
use Rattle.tokens.specs.declared.TableCounts.{TableCounts}
use Rattle.lex.specs.Bytes.{or}
use Rattle.lex.specs.Cells.{zeros, padded}
use Rattle.lex.specs.Refusals.{r_not_cut, number}
use Rattle.lex.specs.declared.diagnostic.Refusal.{Refusal}
use Rattle.lex.specs.declared.diagnostic.Refusal.TheVariants.{TooLong, TooShort, Outside, Malformed, LineTooShort, NoWords, NotCut, SheetTooShort, TooManyLines, PracticeTooShort, PositionsFall, PlacesTooShort}
use Rattle.lex.specs.declared.diagnostic.Diagnostic.{Diagnostic}
use Rattle.tokens.specs.Tables as T
use Rattle.tokens.specs.Tables.{token_table, error_table, is_cut}
use Rattle.tokens.proofs.Promised as TP
use Rattle.rules.specs.Tree.{State, Result, ok, err}
use Rattle.rules.specs.Rules.{stage_one}
use Rattle.rules.specs.Parse.{Reading, read, ended, Gathered, begin, parse, parse_roots, parse_collect, parse_roots_collect}
use Rattle.ast.specs.Layout.{node_width, type_width, diagnostic_width, node_cells, type_cells, diagnostic_cells}
use Rattle.rules.specs.Promise.{Arrays, arrays_of, Outcome, too_short, zeroed, holding, outcome}
use Rattle.ast.specs.Answer.{refusal_number}
use Rattle.rules.specs.Parsed.{Parsed}
use Rattle.rules.specs.Parsed as P
use Rattle.parser_state.specs.declared.Used.{Used}
use Rattle.parser_state.proofs.Steps.{true≢false}
use Rattle.parser_state.proofs.Cells.{nodes-length, types-length}
use Rattle.diagnostics.proofs.Records.{cells-length}
use Rattle.parser.specs.Whole.{refusal, not_read, behind, Begun, Holds, RootsEnd}
use Rattle.parser.specs.Collect.{RootsCollected, in_order, CollectEnds, finished_as, finished}
use Rattle.parser.specs.Steps.{turned_away, any_too_short, read_promised, WholeOutcome, parse_promised}

-- ---- the beginning

pub nothing_used : (u : Used) → (u.nodes ≡ 0) × ((u.values ≡ 0) × ((u.types ≡ 0) × ((u.docs ≡ 0) × ((u.cells ≡ 0) × (u.scratch ≡ 0))))) → u ≡ record { nodes = 0; values = 0; types = 0; docs = 0; cells = 0; scratch = 0 }
nothing_used u e = λ i. record { nodes = e.0 i; values = e.1.0 i; types = e.1.1.0 i; docs = e.1.1.1.0 i; cells = e.1.1.1.1.0 i; scratch = e.1.1.1.1.1 i }

-- ---- trees and errors

-- the used part of an array, and zeros behind
held_as : (a a₁ f : List ℕ) (n : ℕ) → length a₁ ≡ length a → take n a₁ ≡ f → n ≡ length f → padded (length a) f ≡ behind n a₁
held_as a a₁ f n same e count = sym (λ i. e i ++ zeros (same i - count i))

-- the arrays as they are lent and once the roots are read
module _ (x : Reading) (ns ts ls rs ds rs₁ ds₁ : List ℕ) (c : RootsCollected)
    (n : length c.code.nodes ≡ length ns) (t : length c.code.types ≡ length ts) (l : length c.code.lists ≡ length ls) (o : length rs₁ ≡ length rs) (k : length ds₁ ≡ length ds) where
  tree-outcome : {xs : List ℕ} {m : State} (es : List Diagnostic) → x ≡ read (record { arena = m.arena; roots = xs }) es → Holds rs₁ (record { code = c.code; members = c.members }) xs m
      → c.diagnostics ≡ length es → padded (length ds) (flatten (map diagnostic_cells es)) ≡ behind (diagnostic_width * c.diagnostics) ds₁
      → outcome x (arrays_of ns ts ls rs ds) ≡ finished c rs₁ ds₁
  unfolding outcome holding
  tree-outcome {xs} {m} es e h d z =
      let u : Used = c.code.parser.used in
      ap (λ (y : Reading). outcome y (arrays_of ns ts ls rs ds)) e
      ∙ (λ i. record {
        answer = P.Tree (record { nodes = sym h.node_count i; types = sym h.type_count i; cells = sym h.cell_count i; roots = sym h.root_count i; values = sym h.value_count i; diagnostics = sym d i });
        arrays = arrays_of
            (held_as ns c.code.nodes (flatten (map node_cells m.arena.nodes)) (node_width * u.nodes) n h.nodes_held (omega (arith, nodes-length m.arena.nodes, h.node_count)) i)
            (held_as ts c.code.types (flatten (map type_cells m.arena.types)) (type_width * u.types) t h.types_held (omega (arith, types-length m.arena.types, h.type_count)) i)
            (held_as ls c.code.lists m.arena.cells u.cells l h.lists_held h.cell_count i)
            (held_as rs rs₁ xs c.members o h.roots_held h.root_count i) (z i);
      })
      ∙ ap (λ (f : Option Diagnostic). finished_as f c rs₁ ds₁) (sym h.going)

  error-outcome : (e : Diagnostic) → x ≡ ended e → c.code.parser.error ≡ Some e → outcome x (arrays_of ns ts ls rs ds) ≡ finished c rs₁ ds₁
  unfolding outcome zeroed
  error-outcome e w f =
      ap (λ (y : Reading). outcome y (arrays_of ns ts ls rs ds)) w
      ∙ (λ i. record { answer = P.Error e; arrays = arrays_of (zeros (sym n i)) (zeros (sym t i)) (zeros (sym l i)) (zeros (sym o i)) (zeros (sym k i)) })
      ∙ ap (λ (g : Option Diagnostic). finished_as g c rs₁ ds₁) (sym f)

-- the arrays at the end are those that the parser held
pub left_as : {o f : Outcome} {a : Parsed} {ns ts ls rs ds ns₂ ts₂ ls₂ : List ℕ} → o ≡ f → record { answer = a; arrays = arrays_of ns ts ls rs ds } ≡ f → ns₂ ≡ ns → ts₂ ≡ ts → ls₂ ≡ ls → o ≡ record { answer = a; arrays = arrays_of ns₂ ts₂ ls₂ rs ds }
left_as {a = a} {rs = rs} {ds = ds} e g x y z = e ∙ sym g ∙ (λ i. record { answer = a; arrays = arrays_of (sym x i) (sym y i) (sym z i) rs ds })

-- ---- strict

-- the reading, by how the roots end
ending : Result (List ℕ) → Reading
ending res = elim res [ ok roots s ↦ read (record { arena = s.arena; roots = roots }) [] | err e s ↦ ended e ]

parse_ending : (script : List ℕ) → parse stage_one script ≡ ending (parse_roots stage_one script (begin script))
unfolding parse ending
parse_ending script = refl

pub strict_outcome : (script ns ts ls rs ds rs₁ : List ℕ) (c : RootsCollected) → c.diagnostics ≡ 0 → RootsEnd rs₁ (record { code = c.code; members = c.members }) (parse_roots stage_one script (begin script))
    → length c.code.nodes ≡ length ns → length c.code.types ≡ length ts → length c.code.lists ≡ length ls → length rs₁ ≡ length rs
    → outcome (parse stage_one script) (arrays_of ns ts ls rs ds) ≡ finished c rs₁ ds
unfolding ending flatten
strict_outcome script ns ts ls rs ds rs₁ c none ends n t l o = go (parse_roots stage_one script (begin script)) (parse_ending script) ends
  where
    go : (res : Result (List ℕ)) → parse stage_one script ≡ ending res → RootsEnd rs₁ (record { code = c.code; members = c.members }) res → outcome (parse stage_one script) (arrays_of ns ts ls rs ds) ≡ finished c rs₁ ds
    go (ok xs m) e h = tree-outcome (parse stage_one script) ns ts ls rs ds rs₁ ds c n t l o refl [] e h none (ap (λ (k : ℕ). behind (diagnostic_width * k) ds) (sym none))
    go (err y m) e h = error-outcome (parse stage_one script) ns ts ls rs ds rs₁ ds c n t l o refl y e h

-- ---- collecting

collect_ending : List ℕ → Result Gathered → Reading
collect_ending script res = elim res [ ok g s ↦ read (record { arena = s.arena; roots = g.roots }) (in_order script g) | err e s ↦ ended e ]

collect_ending_lem : (script : List ℕ) → parse_collect stage_one script ≡ collect_ending script (parse_roots_collect stage_one script (begin script))
unfolding parse_collect collect_ending
collect_ending_lem script = refl

pub collect_outcome : (script ns ts ls rs ds rs₁ ds₁ : List ℕ) (c : RootsCollected) → CollectEnds script rs₁ ds₁ c (parse_roots_collect stage_one script (begin script))
    → length c.code.nodes ≡ length ns → length c.code.types ≡ length ts → length c.code.lists ≡ length ls → length rs₁ ≡ length rs → length ds₁ ≡ length ds
    → outcome (parse_collect stage_one script) (arrays_of ns ts ls rs ds) ≡ finished c rs₁ ds₁
unfolding collect_ending
collect_outcome script ns ts ls rs ds rs₁ ds₁ c ends n t l o k = go (parse_roots_collect stage_one script (begin script)) (collect_ending_lem script) ends
  where
    go : (res : Result Gathered) → parse_collect stage_one script ≡ collect_ending script res → CollectEnds script rs₁ ds₁ c res → outcome (parse_collect stage_one script) (arrays_of ns ts ls rs ds) ≡ finished c rs₁ ds₁
    go (ok w m) e h = tree-outcome (parse_collect stage_one script) ns ts ls rs ds rs₁ ds₁ c n t l o k (in_order script w) e h.0 h.2 (held_as ds ds₁ (flatten (map diagnostic_cells (in_order script w))) (diagnostic_width * c.diagnostics) k h.1 (omega (arith, h.2, cells-length (in_order script w))))
    go (err y m) e h = error-outcome (parse_collect stage_one script) ns ts ls rs ds rs₁ ds₁ c n t l o k y e h

-- ---- the calls

-- no refusal has the number 0
pub some_number : (r : Refusal) → ¬ (number r ≡ 0)
some_number TooLong e = omega arith
some_number TooShort e = omega arith
some_number Outside e = omega arith
some_number Malformed e = omega arith
some_number LineTooShort e = omega arith
some_number NoWords e = omega arith
some_number NotCut e = omega arith
some_number SheetTooShort e = omega arith
some_number TooManyLines e = omega arith
some_number PracticeTooShort e = omega arith
some_number PositionsFall e = omega arith
some_number PlacesTooShort e = omega arith

-- what is not refused has the number 0
pub unrefused : {n : ℕ} (r : Answered (Unit {0}) Refusal) → true ≡ is_ok r → refusal_number r ≡ n → 0 ≡ n
unrefused (Ok u) e f = f
unrefused (Err x) e f = absurd (true≢false (sym e) refl)

-- a refusal that is handed on as the error of a reading
pub handed_on : (r : Answered (Unit {0}) Refusal) (x : ReadError) → MatchResult r (λ u. ◌≡◌ {A = Answered (Unit {0}) ReadError} (Err x) (Ok u)) (λ d. IsErrAnd {T = Unit {0}} (Err x) (λ y. y ≡ Refused d))
    → (d : Refusal) × (r ≡ Err d) × (x ≡ Refused d)
handed_on (Ok u) x h = absurd (cc)
handed_on (Err d) x h = (d, refl, h)

abbrev refusal_of : List ℕ → List ℕ → List ℕ → Arrays → ℕ
refusal_of script tokens errors l = refusal (length script) (length l.nodes) (length l.types) (length l.lists) (length l.roots) (length l.diagnostics) (length tokens) (length errors)

choosing_number : Bool → Bool → ℕ
choosing_number long short = elim long [ true ↦ 1 | false ↦ elim short [ true ↦ 2 | false ↦ 0 ] ]

abbrev number_by : Bool → ℕ → Bool → ℕ
number_by none n cut = elim none [ true ↦ elim cut [ true ↦ 0 | false ↦ r_not_cut ] | false ↦ n ]

abbrev number_of : ℕ → Bool → ℕ
number_of n cut = number_by (eqb n 0) n cut

or_not : (a b : Bool) → or a b ≡ false → (a ≡ false) × (b ≡ false)
unfolding or
or_not true b e = absurd (true≢false refl e)
or_not false b e = (refl, e)

module _ (how : List ℕ → Reading) (script tokens errors : List ℕ) (l : Arrays) where
  refusal_by : refusal_of script tokens errors l ≡ choosing_number (ltb max_bytes (length script)) (any_too_short script tokens errors l)
  unfolding refusal any_too_short too_short T.too_short choosing_number
  refusal_by = refl

  abbrev reads : Bool → Bool → Bool → Outcome
  reads long short cut = elim long [ true ↦ turned_away 1 l | false ↦ elim short [ true ↦ turned_away 2 l | false ↦ elim cut [ true ↦ outcome (how script) l | false ↦ turned_away 43 l ] ] ]

  abbrev parses : Bool → Bool → WholeOutcome
  parses long short = elim long [
    | true ↦ record { answer = P.Refused 1; arrays = l; tokens = tokens; errors = errors }
    | false ↦ elim short [
      | true ↦ record { answer = P.Refused 2; arrays = l; tokens = tokens; errors = errors }
      | false ↦ record { answer = (outcome (how script) l).answer; arrays = (outcome (how script) l).arrays; tokens = padded (length tokens) (token_table script); errors = padded (length errors) (error_table script) }
    ]
  ]

  read_by : read_promised how script tokens errors l ≡ reads (ltb max_bytes (length script)) (any_too_short script tokens errors l) (is_cut script tokens errors)
  unfolding read_promised
  read_by = refl

  parse_by : parse_promised how script tokens errors l ≡ parses (ltb max_bytes (length script)) (any_too_short script tokens errors l)
  unfolding parse_promised
  parse_by = refl

  -- a script that is refused
  pub parse-refused : (n : ℕ) → n ≡ refusal_of script tokens errors l → ¬ (n ≡ 0) → parse_promised how script tokens errors l ≡ record { answer = P.Refused n; arrays = l; tokens = tokens; errors = errors }
  unfolding choosing_number
  parse-refused n e some = parse_by ∙ go (ltb max_bytes (length script)) (any_too_short script tokens errors l) (e ∙ refusal_by)
    where
      go : (long short : Bool) → n ≡ choosing_number long short → parses long short ≡ record { answer = P.Refused n; arrays = l; tokens = tokens; errors = errors }
      go true short q = ap (λ (k : ℕ). record { answer = P.Refused k; arrays = l; tokens = tokens; errors = errors }) (sym q)
      go false true q = ap (λ (k : ℕ). record { answer = P.Refused k; arrays = l; tokens = tokens; errors = errors }) (sym q)
      go false false q = absurd (some q)

  -- refused, or not the script's tables
  abbrev not_read_of : ℕ
  not_read_of = not_read script tokens errors (length l.nodes) (length l.types) (length l.lists) (length l.roots) (length l.diagnostics)

  not_read_by : not_read_of ≡ number_of (refusal_of script tokens errors l) (is_cut script tokens errors)
  unfolding not_read
  not_read_by = refl

  pub read_turned_away : (n : ℕ) → n ≡ not_read_of → ¬ (n ≡ 0) → read_promised how script tokens errors l ≡ turned_away n l
  unfolding choosing_number
  read_turned_away n e some = read_by ∙ go (ltb max_bytes (length script)) (any_too_short script tokens errors l) (is_cut script tokens errors) (e ∙ not_read_by ∙ ap (λ (k : ℕ). number_of k (is_cut script tokens errors)) refusal_by)
    where
      go : (long short cut : Bool) → n ≡ number_of (choosing_number long short) cut → reads long short cut ≡ turned_away n l
      go true short cut q = ap (λ (k : ℕ). turned_away k l) (sym q)
      go false true cut q = ap (λ (k : ℕ). turned_away k l) (sym q)
      go false false false q = ap (λ (k : ℕ). turned_away k l) (sym q)
      go false false true q = absurd (some q)

  -- neither
  pub record ReadAccepted : Type 0 where
    pub number : 0 ≡ refusal_of script tokens errors l
    pub cut : is_cut script tokens errors ≡ true

  pub read-accepted : (n : ℕ) → n ≡ not_read_of → n ≡ 0 → ReadAccepted
  read-accepted n e none = go (refusal_of script tokens errors l) (is_cut script tokens errors) (eqb (refusal_of script tokens errors l) 0) refl refl refl (sym none ∙ e ∙ not_read_by)
    where
      go : (k : ℕ) (cut none : Bool) → refusal_of script tokens errors l ≡ k → is_cut script tokens errors ≡ cut → eqb k 0 ≡ none → 0 ≡ number_by none k cut → ReadAccepted
      go k true true a b t q = record { number = sym (a ∙ eqb-true k 0 t); cut = b }
      go k false true a b t q = absurd (omega arith)
      go k cut false a b t q = absurd (eqb-false k 0 t (sym q))

  -- and one that is read
  pub record Accepted : Type 0 where
    pub small : length script ≤ max_bytes
    pub enough : too_short script l ≡ false
    pub tables : T.too_short script tokens errors ≡ false
    pub not_long : ltb max_bytes (length script) ≡ false
    pub not_short : any_too_short script tokens errors l ≡ false

  pub accepted : (n : ℕ) → n ≡ refusal_of script tokens errors l → n ≡ 0 → Accepted
  unfolding choosing_number any_too_short
  accepted n e none = go (ltb max_bytes (length script)) (any_too_short script tokens errors l) refl refl (sym none ∙ e ∙ refusal_by)
    where
      go : (long short : Bool) → ltb max_bytes (length script) ≡ long → any_too_short script tokens errors l ≡ short → 0 ≡ choosing_number long short → Accepted
      go true short a b q = absurd (omega arith)
      go false true a b q = absurd (omega arith)
      go false false a b q = let both = or_not (too_short script l) (T.too_short script tokens errors) b in record { small = ltb-false max_bytes (length script) a; enough = both.0; tables = both.1; not_long = a; not_short = b }

  module _ (a : Accepted) where
    pub is_read_lem : is_cut script tokens errors ≡ true → read_promised how script tokens errors l ≡ outcome (how script) l
    is_read_lem e = read_by ∙ (λ i. reads (a.not_long i) (a.not_short i) (e i))

    pub is_parsed : {tokens' errors' : List ℕ} {answer : Answer TableCounts} {o : Outcome} → T.promised script tokens errors ≡ record { answer = answer; tokens = tokens'; errors = errors' } → outcome (how script) l ≡ o
        → parse_promised how script tokens errors l ≡ record { answer = o.answer; arrays = o.arrays; tokens = tokens'; errors = errors' }
    unfolding T.tabled
    is_parsed {tokens'} {errors'} e w =
        let t = sym (TP.taken script tokens errors a.small a.tables) ∙ e in
        parse_by ∙ (λ i. parses (a.not_long i) (a.not_short i)) ∙ (λ i. record { answer = (w i).answer; arrays = (w i).arrays; tokens = ap (λ (x : T.Outcome). x.tokens) t i; errors = ap (λ (x : T.Outcome). x.errors) t i })

    -- what cutting leaves
    pub tables_are : {tokens' errors' : List ℕ} {answer : Answer TableCounts} → T.promised script tokens errors ≡ record { answer = answer; tokens = tokens'; errors = errors' } → length tokens' ≡ length tokens → length errors' ≡ length errors
        → (tokens' ≡ padded (length tokens') (token_table script)) × (errors' ≡ padded (length errors') (error_table script))
    unfolding T.tabled
    tables_are e m n =
        let t = sym (TP.taken script tokens errors a.small a.tables) ∙ e in
        (sym (ap (λ (x : T.Outcome). x.tokens) t) ∙ ap (λ (k : ℕ). padded k (token_table script)) (sym m), sym (ap (λ (x : T.Outcome). x.errors) t) ∙ ap (λ (k : ℕ). padded k (error_table script)) (sym n))

    -- enough is lent
    pub record Enough : Type 0 where
      pub nodes : node_width * length script ≤ length l.nodes
      pub types : type_width * length script ≤ length l.types
      pub lists : 8 * length script ≤ length l.lists
      pub roots : length script ≤ length l.roots
      pub diagnostics : diagnostic_width * length script ≤ length l.diagnostics

    pub enough_of : Enough
    unfolding too_short
    enough_of =
        let w₁ = or_not (ltb (length l.nodes) (node_width * length script)) _ a.enough in
        let w₂ = or_not (ltb (length l.types) (type_width * length script)) _ w₁.1 in
        let w₃ = or_not (ltb (length l.lists) (8 * length script)) _ w₂.1 in
        let w₄ = or_not (ltb (length l.roots) (length script)) _ w₃.1 in
        record {
          nodes = ltb-false (length l.nodes) (node_width * length script) w₁.0;
          types = ltb-false (length l.types) (type_width * length script) w₂.0;
          lists = ltb-false (length l.lists) (8 * length script) w₃.0;
          roots = ltb-false (length l.roots) (length script) w₄.0;
          diagnostics = ltb-false (length l.diagnostics) (diagnostic_width * length script) w₄.1;
        }

    pub begins : (tokens' : List ℕ) → tokens' ≡ padded (length tokens') (token_table script) → Begun script tokens' l.nodes l.types l.lists l.roots
    begins tokens' e = let w = enough_of in record { lent = record { small = a.small; nodes = w.nodes; types = w.types; lists = w.lists }; roots = w.roots; tabled = e }
