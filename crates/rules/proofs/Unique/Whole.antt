-- Unique reading, for whole scripts.
use mathlib.Core.Path.{◌≡◌, refl, sym, ap, ap₂, ◌∙◌, subst}
use mathlib.Core.Bool.{Bool}
use mathlib.Core.Option.{Option, none, some}
use mathlib.Core.List.{List, [], ◌∷◌, ◌++◌, map, append-nil, map-append}
use Prim.Native.Nat.{ℕ, zero, suc, ◌+◌}
use lib.ListN.{length, length-append, length-map}
use native.Mathlib.Omega.{arith}
use Rattle.lex.specs.Kind.{k_eof}
use Rattle.lex.specs.Lex.{cut, tokens_of}
use Rattle.lex.proofs.Spellings.{cut-ended}
use Rattle.rules.specs.Tree.{Notes, State, Result, ok, err, Tree}
use Rattle.rules.specs.Combinators as R
use Rattle.rules.specs.Combinators.{current}
use Rattle.rules.specs.Rules as Q
use Rattle.rules.specs.Rules.{readers, stage_one}
use Rattle.rules.specs.Parse.{Reading, read, ended, begin, parse, parse_roots}
use Rattle.rules.specs.Shape.{Word, word_of, Shape, Shapes, no_shape, shape, node_shape_at, shapes_of, shape_of}
use Rattle.ast.specs.Lists.{map₁, map₂}
use Rattle.rules.specs.Strike.{keep, notes_of, strike, Plain, UniqueReading}
use Rattle.rules.proofs.Unique.Print.{fixed, print, prints}
use Rattle.rules.proofs.Unique.Grow.{◌⊑◌}
use Rattle.rules.proofs.Results.{holds, fails, weaken_both, both, if_kind-ok, bind_ok, pure-ok, fail-ok, loop-ok}
use Rattle.rules.proofs.Counting.Whole.{read-tree, ended≢read, parse_roots-ends}
use Rattle.rules.proofs.Unique.Step.{AllShaped, Holds, TokensOk, NoDocBeforeImport, Invariant, Consumed, ◌▷◌, consumed_as, consumed_refl, keep_append, word-fixed, fold, print_all_snoc, NodeDone}
use Rattle.rules.proofs.Unique.Types.{ReadersOk, parse_type-ok}
use Rattle.rules.proofs.Unique.Exprs.{shapes_fold, parse_expr-ok}
use Rattle.rules.proofs.Unique.Items.{parse_prefix-ok}
use Rattle.rules.proofs.Unique.Lexed.{tokens-ok}
use Rattle.lex.specs.declared.tok.Token.{Token}
use Rattle.ast.specs.declared.NodeId.{NodeId}

-- ---- the knot

pub readers-ok : (power : ℕ → Option ℕ) → power k_eof ≡ none → (script : List ℕ) (l : ℕ) → ReadersOk script (readers power script l)
unfolding readers
readers-ok power eof script zero = record { prefix = λ s c. fail-ok 10 0 s c.all_shaped; expr = λ least s c. fail-ok 10 0 s c.all_shaped; type = λ s c. fail-ok 10 0 s c.all_shaped }
readers-ok power eof script (suc l) =
    let deep : ReadersOk script (readers power script l) = readers-ok power eof script l in
    record { prefix = parse_prefix-ok script _ deep; expr = parse_expr-ok script _ deep power eof; type = parse_type-ok script _ deep }

-- ---- the roots

-- the numbered nodes have these shapes
pub data Are (node : ℕ → Option Shape) : List ℕ → List Shape → Type 0 where
  are[] : Are node [] []
  are∷ : {i : ℕ} {σ : Shape} {is : List ℕ} {σs : List Shape} → node i ≡ some σ → Are node is σs → Are node (i ∷ is) (σ ∷ σs)

pub are_snoc : {node : ℕ → Option Shape} {is : List ℕ} {σs : List Shape} (i : ℕ) (σ : Shape) → Are node is σs → node i ≡ some σ → Are node (is ++ (i ∷ [])) (σs ++ (σ ∷ []))
are_snoc i σ are[] e = are∷ e are[]
are_snoc i σ (are∷ p l) e = are∷ p (are_snoc i σ l e)

pub are_mono : {n m : ℕ → Option Shape} {is : List ℕ} {σs : List Shape} → ((i : ℕ) → n i ⊑ m i) → Are n is σs → Are m is σs
are_mono h are[] = are[]
are_mono h (are∷ {i} {σ} p l) = are∷ (h i σ p) (are_mono h l)

pub are_each : {node : ℕ → Option Shape} {is : List ℕ} {σs : List Shape} → Are node is σs → shapes_of node is ≡ some (fold no_shape shape σs)
unfolding shapes_of fold map₁ map₂
are_each are[] = refl
are_each (are∷ p l) = rw (p, are_each l)

module _ (script : List ℕ) (s₀ : State) where
  record RootsDone (roots : List ℕ) (s : State) : Type 0 where
    pub values : List Shape
    pub are : Are (node_shape_at script s.arena) roots values
    pub consumed : Consumed script s₀ s (prints (fold no_shape shape values))

  roots-snoc : {roots : List ℕ} {s s' : State} {n : NodeId} → RootsDone roots s → NodeDone script s n s' → RootsDone (roots ++ (n.0 ∷ [])) s'
  roots-snoc r q = record {
    values = r.values ++ (q.shape ∷ []);
    are = are_snoc _ _ (are_mono q.consumed.grows.nodes r.are) q.is;
    consumed = consumed_as (ap (λ (x : List Word). x ++ print q.shape) (shapes_fold r.values) ∙ sym (print_all_snoc print r.values q.shape) ∙ sym (shapes_fold (r.values ++ (q.shape ∷ [])))) (r.consumed ▷ q.consumed);
  }

-- ---- the whole

unfoldable pub printed : Option Shapes → List Word
printed none = []
printed (some σs) = prints σs ++ (fixed k_eof ∷ [])

tokens_ok_last : (script : List ℕ) (D : Type 0) (l : List Token) → TokensOk script D l → (current l).kind ≡ k_eof → (t : Token) × (l ≡ t ∷ []) × (t.kind ≡ k_eof)
unfolding current
tokens_ok_last script D [] g e = absurd g
tokens_ok_last script D (t ∷ []) g e = (t, refl, e)
tokens_ok_last script D (t ∷ (u ∷ ts)) g e = absurd (g.0 e)

module _ (script : List ℕ) where
  record Read (roots : List ℕ) (s : State) : Type 0 where
    pub roots_done : RootsDone script (begin script) roots s
    pub ends : (current s.left).kind ≡ k_eof

  pub begin_invariant : Invariant script (begin script)
  unfolding begin
  begin_invariant = record { docs = λ D. refl; tokens_ok = tokens-ok script (NoDocBeforeImport script) (tokens_of (cut script)) (cut-ended script) (λ D. D); docs_well_formed = tt; all_shaped = record { nodes = λ i h. absurd (omega arith); types = λ j h. absurd (omega arith) } }

  module _ (power : ℕ → Option ℕ) (eof : power k_eof ≡ none) where
    roots-ok : Holds script (RootsDone script (begin script)) (parse_roots power script (begin script))
    unfolding parse_roots fold print
    roots-ok = loop-ok (RootsDone script (begin script)) _
        (λ roots s r. if_kind-ok _ _ _ s (λ e. pure-ok _ s r)
        (bind_ok _ _ s ((readers-ok power eof script Q.max_levels).prefix s r.consumed.invariant) (λ n s₁ q. pure-ok _ s₁ (roots-snoc script (begin script) r q))))
        [] (begin script) (record { values = []; are = are[]; consumed = consumed_refl script (begin script) begin_invariant })

    parse_roots-ok : Holds script Read (parse_roots power script (begin script))
    parse_roots-ok = weaken_both (both roots-ok (parse_roots-ends power eof script)) (λ roots s q. record { roots_done = q.0; ends = q.1.at_eof }) (λ s q. q.0)

  -- the words that are left of the tokens taken, and Eof
  words_left : (marks given : List Bool) (ts taken left : List Token) (ws : List Word) (t : Token) → marks ≡ given → ts ≡ taken ++ left → left ≡ t ∷ [] → t.kind ≡ k_eof → length given ≡ length taken → keep given (map (word_of script) taken) ≡ ws
      → keep marks (map (word_of script) ts) ≡ ws ++ (fixed k_eof ∷ [])
  unfolding keep
  words_left marks given ts taken left ws t m l e k n h =
      ap₂ (λ (x : List Bool) (y : List Token). keep x (map (word_of script) y)) (m ∙ sym (append-nil given)) (l ∙ ap (λ (y : List Token). taken ++ y) e)
      ∙ ap (keep (given ++ [])) (map-append (word_of script) taken (t ∷ []))
      ∙ keep_append given [] (map (word_of script) taken) (word_of script t ∷ []) (n ∙ sym (length-map taken (word_of script)))
      ∙ ap₂ (λ (x : List Word) (y : Word). x ++ (y ∷ [])) h (word-fixed script k_eof t k refl)

  module _ (tree : Tree) where
    -- how a strict reading ends, and its notes
    abbrev reading_of : Result (List ℕ) → Reading
    reading_of r = elim r as (λ r'. Reading) [ ok roots s ↦ read (record { arena = s.arena; roots = roots }) [] | err e s ↦ ended e ]

    abbrev notes_in : Result (List ℕ) → Notes
    notes_in r = elim r as (λ r'. Notes) [ ok roots s ↦ s.notes | err e s ↦ s.notes ]

    shape_in_lem : (r : Result (List ℕ)) → Holds script Read r → reading_of r ≡ read tree [] → (σs : Shapes) × (shape_of script tree ≡ some σs)
    unfolding shape_of
    shape_in_lem r (holds {a = roots} {s} q) e = (fold no_shape shape q.roots_done.values, ap (shape_of script) (sym (read-tree _ tree [] [] e)) ∙ are_each q.roots_done.are)
    shape_in_lem r (fails {e = x} u) e = ended≢read x tree [] e

    all_in : (r : Result (List ℕ)) → Holds script Read r → reading_of r ≡ read tree [] → AllShaped script tree.arena
    all_in r (holds {a = roots} {s} q) e = subst (λ (t : Tree). AllShaped script t.arena) (read-tree _ tree [] [] e) q.roots_done.consumed.invariant.all_shaped
    all_in r (fails {e = x} u) e = ended≢read x tree [] e

    words_in_lem : (r : Result (List ℕ)) → Holds script Read r → reading_of r ≡ read tree [] → (notes_in r).after_default ≡ 0 → NoDocBeforeImport script → keep (notes_in r).marks (map (word_of script) (tokens_of (cut script))) ≡ printed (shape_of script tree)
    unfolding printed shape_of begin
    words_in_lem r (holds {a = roots} {s} q) e l D =
        let d = q.roots_done.consumed in
        let z = tokens_ok_last script (NoDocBeforeImport script) s.left d.invariant.tokens_ok q.ends in
        words_left s.notes.marks d.given _ d.taken s.left _ z.0 d.marks d.left z.1 z.2 d.even (d.kept l D).1
        ∙ ap printed (sym (are_each q.roots_done.are) ∙ ap (shape_of script) (read-tree _ tree [] [] e))
    words_in_lem r (fails {e = x} u) e l D = ended≢read x tree [] e

    marks_in : (r : Result (List ℕ)) → Holds script Read r → reading_of r ≡ read tree [] → length (notes_in r).marks + 1 ≡ length (tokens_of (cut script))
    unfolding begin
    marks_in r (holds {a = roots} {s} q) e =
        let d = q.roots_done.consumed in
        let z = tokens_ok_last script (NoDocBeforeImport script) s.left d.invariant.tokens_ok q.ends in
        omega (arith, ap length d.marks, d.even, ap length d.left, length-append d.taken s.left, ap length z.1)
    marks_in r (fails {e = x} u) e = ended≢read x tree [] e

module _ (power : ℕ → Option ℕ) (eof : power k_eof ≡ none) (script : List ℕ) (tree : Tree) where
  -- every tree that strict mode returns has a shape
  pub shaped : parse power script ≡ read tree [] → (σs : Shapes) × (shape_of script tree ≡ some σs)
  unfolding parse
  shaped e = shape_in_lem script tree (parse_roots power script (begin script)) (parse_roots-ok script power eof) e

  -- and so has every record of it, orphans included
  pub all_shaped : parse power script ≡ read tree [] → AllShaped script tree.arena
  unfolding parse
  all_shaped e = all_in script tree (parse_roots power script (begin script)) (parse_roots-ok script power eof) e

  -- and what striking leaves is the words of that shape
  pub strike_print : Plain power script tree → strike power script ≡ printed (shape_of script tree)
  unfolding strike notes_of parse
  strike_print p = words_in_lem script tree (parse_roots power script (begin script)) (parse_roots-ok script power eof) p.accepted p.matches p.docs

  -- each token but Eof has its mark
  pub marked : parse power script ≡ read tree [] → length (notes_of power script).marks + 1 ≡ length (tokens_of (cut script))
  unfolding notes_of parse
  marked e = marks_in script tree (parse_roots power script (begin script)) (parse_roots-ok script power eof) e

-- demand 3, for every set of infix signs without Eof
pub unique : (power : ℕ → Option ℕ) → power k_eof ≡ none → UniqueReading power
unique power eof s₁ s₂ t₁ t₂ p q e = strike_print power eof s₁ t₁ p ∙ ap printed e ∙ sym (strike_print power eof s₂ t₂ q)

-- demand 3
pub unique_reading : UniqueReading stage_one
unfolding stage_one R.choose
unique_reading = unique stage_one refl
