-- Where the lexer stands after so many tokens: what is left of the cut, and the position.
use Rattle.std.specs.Prelude.{◌≡◌, List, ℕ, zero, suc, ◌≤◌, length}
use Rattle.lex.specs.Lex.{Cut, eof, cut_token, cut_fault, cut_at, cut}

-- what is left of a cut after `n` tokens; past the last one, its end
unfoldable pub cut_after : ℕ → Cut → Cut
cut_after zero c = c
cut_after (suc n) (eof at) = eof at
cut_after (suc n) (cut_token t next c) = cut_after n c
cut_after (suc n) (cut_fault e c) = cut_after (suc n) c

-- the position after `n` tokens of a cut that begins at `pos`
unfoldable pub end_of : ℕ → ℕ → Cut → ℕ
end_of pos zero c = pos
end_of pos (suc n) (eof at) = at
end_of pos (suc n) (cut_token t next c) = end_of next n c
end_of pos (suc n) (cut_fault e c) = end_of pos (suc n) c

-- the lexer stands at `pos` after `n` tokens of the script
pub record StandsAfter (script : List ℕ) (n pos : ℕ) : Type 0 where
  pub rest : cut_at script pos ≡ cut_after n (cut script)
  pub position : pos ≡ end_of 0 n (cut script)
  pub inside : pos ≤ length script
