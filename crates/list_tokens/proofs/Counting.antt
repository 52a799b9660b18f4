-- What a call of the iterator takes is the first of the tokens from the position on, or a fault
-- before them.
use Rattle.std.proofs.Common.{◌≡◌, ◌+◌, ◌<◌, ◌≤◌, ℕ, List, length, arith}
use Rattle.std.specs.Prelude.{Some, None, Result, Ok, Err}
use Rattle.std.specs.Result.{is_ok}
use Rattle.lex.specs.declared.tok.Token.{Token}
use Rattle.lex.specs.declared.tok.Fault.{Fault}
use Rattle.lex.specs.Bytes.{bit}
use Rattle.lex.specs.Lex.{step_at, step_of, tokens_of, tokens_from}
use Rattle.lex.proofs.Steps.{step_forward, cut_step}

module _ (script : List ℕ) (pos next : ℕ) where
  -- `more` of the tokens are behind a position that lies further on, within the script
  pub record Takes (more : ℕ) : Type 0 where
    pub moves : pos < next
    pub within : next ≤ length script
    pub counts : length (tokens_from script pos) ≡ more + length (tokens_from script next)

  pub takes : (piece : Result Token Fault) → step_at script pos ≡ step_of (Some piece) next → Takes (bit (is_ok piece) 1)
  unfolding tokens_from tokens_of bit
  takes (Ok t) e =
      let f = rw e at (step_forward script pos) in
      record { moves = omega (arith, f); within = omega (arith, f); counts = rw (cut_step script pos, e) (omega arith) }
  takes (Err x) e =
      let f = rw e at (step_forward script pos) in
      record { moves = omega (arith, f); within = omega (arith, f); counts = rw (cut_step script pos, e) (omega arith) }

  pub ends : step_at script pos ≡ step_of None next → length (tokens_from script pos) ≡ 1
  unfolding tokens_from tokens_of
  ends e = rw (cut_step script pos, e)
