-- The two ways to read a script: strict, which ends at the first error, and collecting.
use Rattle.std.specs.Prelude.{true, false, List, [], ◌∷◌, ◌++◌, ℕ, zero, suc, ◌+◌, ◌-◌, eqb, leb, length}
use Rattle.std.proofs.Math.Option.{Option}
use Rattle.lex.specs.Kind.{k_eof, k_import, k_extern, k_let, k_fn, k_match, k_curly_right}
use Rattle.lex.specs.Lex.{Occurrence, cut, tokens_of, faults_of}
use Rattle.lex.specs.declared.diagnostic.Diagnostic.{Diagnostic}
use Rattle.lex.specs.Errors.{e_too_deep}
use Rattle.rules.specs.Tree.{empty_arena, State, Result, ok, err, Tree}
use Rattle.rules.specs.Combinators.{Rule, ◌>>=◌, ◌>>◌, pure, advance, by_kind, if_kind, choose, with_docs, ControlFlow, continue, break, loop}
use Rattle.rules.specs.Rules.{readers, max_levels}
use Rattle.ast.specs.declared.NodeId.{NodeId}

-- how a reading ends: with a tree and the errors gathered, or at an error
pub data Reading : Type 0 where
  read : Tree → List Diagnostic → Reading
  ended : Diagnostic → Reading

unfoldable pub begin : List ℕ → State
begin script = record { left = tokens_of (cut script); docs = []; arena = empty_arena; notes = record { marks = []; after_default = 0 } }

-- what may begin a root, and Eof, ends the loop before it, `}` past it; past any other it goes on
abbrev pub synchronize_by_kind : ℕ → ℕ → Rule (ControlFlow ℕ)
synchronize_by_kind n = choose
    ((k_let, pure (break n)) ∷ (k_fn, pure (break n)) ∷ (k_import, pure (break n)) ∷ (k_extern, pure (break n)) ∷ (k_match, pure (break n)) ∷ (k_eof, pure (break n)) ∷
    (k_curly_right, advance >> pure (break n)) ∷ [])
    (advance >> pure (continue n))

abbrev pub synchronize_step : ℕ → Rule (ControlFlow ℕ)
synchronize_step n = by_kind (synchronize_by_kind n)

-- to the next token that may begin a root, past it where it is `}`
unfoldable pub synchronize_root : State → Result ℕ
synchronize_root s = loop synchronize_step 0 (with_docs [] s)

-- the roots so far, and the errors so far, each with the number of tokens read before it
pub record Gathered : Type 0 where
  pub roots : List ℕ
  pub errors : List Occurrence

-- lexer and parser errors in the order in which they are met
unfoldable pub merged : ℕ → List Occurrence → List Occurrence → List Diagnostic
merged zero fs es = []
merged (suc n) [] [] = []
merged (suc n) (f ∷ fs) [] = f.diagnostic ∷ merged n fs []
merged (suc n) [] (e ∷ es) = e.diagnostic ∷ merged n [] es
merged (suc n) (f ∷ fs) (e ∷ es) = elim (leb f.after e.after) [ true ↦ f.diagnostic ∷ merged n fs (e ∷ es) | false ↦ e.diagnostic ∷ merged n (f ∷ fs) es ]

module _ (power : ℕ → Option ℕ) (script : List ℕ) where
  abbrev pub root : Rule NodeId
  root = (readers power script max_levels).prefix

  -- ---- strict

  unfoldable pub parse_roots : Rule (List ℕ)
  parse_roots = loop (λ roots. if_kind k_eof (pure (break roots)) (root >>= (λ n. pure (continue (roots ++ (n.0 ∷ [])))))) []

  unfoldable pub parse : Reading
  parse = elim (parse_roots (begin script)) [ ok roots s ↦ read (record { arena = s.arena; roots = roots }) [] | err e s ↦ ended e ]

  -- ---- collecting

  -- 10 ends a reading; any other error is gathered
  unfoldable pub recover : Gathered → Diagnostic → State → Result (ControlFlow Gathered)
  recover g e s = elim (eqb e.number e_too_deep) [
    | true ↦ err e s
    | false ↦ (synchronize_root >> pure (continue (record { roots = g.roots; errors = g.errors ++ (record { after = length (begin script).left - length s.left; diagnostic = e } ∷ []) }))) s
  ]

  unfoldable pub parse_roots_collect : Rule Gathered
  parse_roots_collect = loop (λ g. if_kind k_eof (pure (break g)) (λ s. elim (root s) [
    | ok n s₁ ↦ ok (continue (record { roots = g.roots ++ (n.0 ∷ []); errors = g.errors })) s₁
    | err e s₁ ↦ recover g e s₁
  ])) (record { roots = []; errors = [] })

  unfoldable pub parse_collect : Reading
  parse_collect = elim (parse_roots_collect (begin script)) [
    | ok g s ↦ (let fs = faults_of 0 (cut script) in read (record { arena = s.arena; roots = g.roots }) (merged (length fs + length g.errors) fs g.errors))
    | err e s ↦ ended e
  ]
