-- `tokens::same_cells` meets its contract.
use Rattle.std.proofs.Common.{ℕ, ◌≡◌, ◌+◌, ◌-◌, arith, ap, ◌∙◌, take, drop}
use Rattle.lex.specs.Kind.{same_bytes}
use Rattle.lex.proofs.Laws.{same-pointwise}
use Rattle.tokens.proofs.same_cells.Goals as goal

pub returns : goal.returns
returns c =
    let n : c.args.at + c.args.n - c.args.at ≡ c.args.n = omega arith in
    c.eq.ensures ∙ same-pointwise _ _
    ∙ ap (λ (k : ℕ). same_bytes (take k (drop c.args.at c.args.b.now)) (take c.args.n c.args.a.now)) n
