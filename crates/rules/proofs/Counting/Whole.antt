-- Whole readings: what they may make; and that strict reading, where it accepts, goes to the end of
-- the script.
use mathlib.Core.Path.{◌≡◌, refl, subst}
use mathlib.Core.Option.{Option, none}
use mathlib.Core.List.{List, [], ◌∷◌}
use Prim.Native.Nat.{ℕ, ◌+◌, ◌≤◌, ◌<◌}
use lib.ListN.{length, length-append}
use native.Mathlib.Omega.{arith}
use Rattle.lex.specs.Kind.{k_eof}
use Rattle.lex.specs.Lex.{cut, tokens_of}
use Rattle.lex.proofs.Spellings.{Ended, cut-ended}
use Rattle.lex.proofs.Steps.{cut_le}
use Rattle.lex.specs.declared.diagnostic.Diagnostic.{Diagnostic}
use Rattle.lex.specs.declared.tok.Token.{Token}
use Rattle.rules.specs.Tree.{State, Result, ok, err, Tree}
use Rattle.rules.specs.Combinators.{current}
use Rattle.rules.specs.Rules.{max_levels}
use Rattle.rules.specs.Parse.{Reading, read, ended, begin, parse, parse_roots}
use Rattle.rules.proofs.Results.{Ends, holds, fails, weaken_both, if_kind-ok, bind_ok, pure-ok, again, out, loop_out}
use Rattle.rules.proofs.Counting.Step.{WellEnded, not_empty, pending, budget, Accounted, start, forget, restart, onward}
use Rattle.rules.proofs.Counting.Rules.{readers-take}

-- ---- the beginning

pub ended_well_ended : (script : List ℕ) (l : List Token) → Ended script l → WellEnded l
ended_well_ended script [] e = e
ended_well_ended script (t ∷ []) e = e.0
ended_well_ended script (t ∷ (u ∷ ts)) e = (e.0, ended_well_ended script (u ∷ ts) e.1)

pub begin_accounted : (script : List ℕ) → Accounted (budget (begin script)) 0 0 (begin script)
unfolding begin
begin_accounted script = start (begin script) (ended_well_ended script (tokens_of (cut script)) (cut-ended script)) (omega arith)

pub begin-left : (script : List ℕ) → length (begin script).left ≡ length (tokens_of (cut script))
unfolding begin
begin-left script = refl

pub begin_pending : (script : List ℕ) → pending (begin script) ≤ length (begin script).left
unfolding begin
begin_pending script = omega arith

-- a reading of `script` that has come so far
abbrev pub Reached : List ℕ → State → Type 0
Reached script s = Accounted (budget (begin script)) 0 0 s

-- and one that has come to the end, with these roots
pub record Finished (script : List ℕ) (roots : List ℕ) (s : State) : Type 0 where
  pub reached : Reached script s
  pub at_eof : (current s.left).kind ≡ k_eof
  pub few_roots : length roots + length s.left ≤ length (begin script).left

-- how much a tree has: no more nodes than value numbers, types and value numbers together no more
-- than the tokens but Eof, and so many roots at most
pub record Bounded (script : List ℕ) (tree : Tree) : Type 0 where
  pub nodes : length tree.arena.nodes ≤ tree.arena.values
  pub made : length tree.arena.types + tree.arena.values < length (tokens_of (cut script))
  pub roots : length tree.roots < length (tokens_of (cut script))

pub bounded : (script roots : List ℕ) (s : State) → Finished script roots s → Bounded script (record { arena = s.arena; roots = roots })
unfolding begin
bounded script roots s q = let z = not_empty s.left q.reached.ended in record { nodes = q.reached.numbered; made = omega (arith, q.reached.potential); roots = omega (arith, q.few_roots) }

-- against the bytes
pub record InBytes (script : List ℕ) (tree : Tree) : Type 0 where
  pub nodes : length tree.arena.nodes ≤ length script
  pub made : length tree.arena.types + tree.arena.values ≤ length script
  pub roots : length tree.roots ≤ length script

pub in_bytes : (script : List ℕ) (tree : Tree) → Bounded script tree → InBytes script tree
in_bytes script tree b = omega (arith, cut_le script)

pub read-tree : (t u : Tree) (es fs : List Diagnostic) → read t es ≡ read u fs → t ≡ u
read-tree t u es fs e = cc

pub ended≢read : {P : Type 0} (e : Diagnostic) (t : Tree) (es : List Diagnostic) → ended e ≡ read t es → P
ended≢read e t es p = let z : ◌≡◌ {A = ℕ} 0 1 = cc in absurd (omega arith)

module _ (power : ℕ → Option ℕ) (eof : power k_eof ≡ none) (script : List ℕ) where
  -- the roots go to the end: the turns of their loop do not run out
  pub parse_roots-ends : Ends (Finished script) (Reached script) (parse_roots power script (begin script))
  unfolding parse_roots
  parse_roots-ends = loop_out (λ s. length s.left) (λ roots s. Reached script s × (length roots + length s.left ≤ length (begin script).left)) _ (λ roots s q. not_empty s.left q.0.ended) _
      (λ roots s q. if_kind-ok k_eof _ _ s (λ e. pure-ok _ s (out (record { reached = q.0; at_eof = e; few_roots = q.1 })))
      (bind_ok _ _ s (weaken_both ((readers-take power eof script max_levels).prefix s (restart q.0)) (λ n s₁ z. z) (λ s₁ z. onward q.0 z)) (λ n s₁ z.
      pure-ok _ s₁ (again (forget (onward q.0 z), omega (arith, q.1, z.tokens, length-append roots (n.0 ∷ []))) (omega (arith, z.tokens))))))
      [] (begin script) (begin_accounted script, omega arith) (omega arith)

  pub parse_bounded : (tree : Tree) → parse power script ≡ read tree [] → Bounded script tree
  unfolding parse
  parse_bounded tree e = go (parse_roots power script (begin script)) parse_roots-ends e
    where
      go : (r : Result (List ℕ)) → Ends (Finished script) (Reached script) r → elim r as (λ r'. Reading) [ ok roots s ↦ read (record { arena = s.arena; roots = roots }) [] | err x s ↦ ended x ] ≡ read tree [] → Bounded script tree
      go r (holds {a = roots} {s} q) e = subst (Bounded script) (read-tree _ tree [] [] e) (bounded script roots s q)
      go r (fails {e = x} q) e = ended≢read x tree [] e
