-- `tokens::put_token` meets its contract.
use Rattle.std.proofs.Common.{arith, ◌∙◌, ap, [], ◌∷◌, ◌++◌, ℕ, ◌+◌, ◌*◌, take, drop}
use borrow.Author.Rules.{part_to_end}
use Rattle.lex.specs.Spelling.{spelling_start}
use Rattle.tokens.specs.Tables.{token_record}
use Rattle.tokens.proofs.Arrays.{four_stores}
use Rattle.tokens.proofs.Progress.{offset_le}
use Rattle.tokens.proofs.put_token.Goals as goal

pub overflow_add-begins : goal.overflow_add-begins
overflow_add-begins c = omega (arith, rw part_to_end at c.spelling_offset.ensures, offset_le c.args.t.kind (drop c.args.t.start c.args.script.now))

pub overflow_cast-tokens-3 : goal.overflow_cast-tokens-3
overflow_cast-tokens-3 c = omega (arith, rw part_to_end at c.spelling_offset.ensures, offset_le c.args.t.kind (drop c.args.t.start c.args.script.now))

pub returns : goal.returns
unfolding token_record spelling_start
returns c =
    let xs = c.args.tokens.now in
    let t = c.args.t in
    four_stores xs (4 * c.args.n) _ _ _ _ (omega arith)
    ∙ ap (λ (b : ℕ). take (4 * c.args.n) xs ++ (t.kind ∷ t.start ∷ t.len ∷ (t.start + b) ∷ []) ++ drop (4 * c.args.n + 4) xs) (rw part_to_end at c.spelling_offset.ensures)
