-- The name of a kind is what its text has, and no text where a number is no kind.
use Rattle.std.proofs.Common.{◌≡◌, ◌∙◌, refl, sym, ℕ, zero, suc, List, [], Bool, true, false, ◌≤◌, arith}
use Rattle.std.specs.Prelude.{Option, Some, None, MatchOption}
use Rattle.std.specs.Option.{unwrap_or}
use Rattle.std.specs.Borrow.{Bor}
use lib.Dec.{ltb}
use lib.ListN.{get_or-eq_default}
use borrow.Author.Tests.{ltb-true, ltb-false}
use Rattle.lex.specs.Bytes.{between}
use Rattle.lex.specs.Kind.{kind_names, kind_name}
use Rattle.lex.proofs.Bits.{within}
use Rattle.lex.proofs.Laws.{false-true}

no_kind : (k : ℕ) → between 1 43 (suc k) ≡ false → 44 ≤ suc k
no_kind k e = go (ltb k 43) refl
  where
    go : (t : Bool) → ltb k 43 ≡ t → 44 ≤ suc k
    go true q = let h = ltb-true k 43 q in false-true (sym e ∙ within 1 43 (suc k) (omega arith) (omega arith))
    go false q = omega (arith, ltb-false k 43 q)

no_name : (k : ℕ) → between 1 43 k ≡ false → [] ≡ kind_name k
unfolding kind_name kind_names
no_name zero e = refl
no_name (suc k) e = sym (get_or-eq_default kind_names [] (no_kind k e))

pub named : (k : ℕ) (o : Option (Bor (List ℕ))) (none : Bor (List ℕ)) → none.now ≡ []
    → MatchOption o (between 1 43 k ≡ false) (λ n. (between 1 43 k ≡ true) × (n.now ≡ kind_name k)) → (unwrap_or o none).now ≡ kind_name k
named k None none e h = e ∙ no_name k h
named k (Some n) none e h = h.1
