-- `parser_state::Parser::push_doc` meets its contract.
use Rattle.std.proofs.Common.{ℕ, ◌+◌, ◌-◌, [], ◌∷◌, length, ap, ◌∙◌, arith}
use Rattle.std.proofs.Math.Seq.{paste}
use Rattle.parser_state.specs.Represents.{code_of}
use Rattle.parser_state.proofs.Leaves.{no_place}
use Rattle.parser_state.proofs.Steps.{left-some}
use Rattle.parser_state.proofs.Docs.{keeping}
use Rattle.std.specs.Prelude.{None}
use Rattle.parser_state.specs.Wherever.{lending}
use Rattle.parser_state.proofs.Parser.push_doc.Goals as goal

pub returns-in_default-clause-wherever : goal.returns-in_default-clause-wherever
returns-in_default-clause-wherever c =
    λ n nodes lists. no_place (rw c.in_default.is at c.place.ensures) (λ R L stack m h. (omega (arith, h.credit.records, h.lent.small, left-some h), omega (arith, h.credit.records, h.lent.types, left-some h)))

pub returns-in_default-clause-reads : goal.returns-in_default-clause-reads
returns-in_default-clause-reads c = λ n. returns-in_default-clause-wherever c n None None

pub returns-clause-wherever : goal.returns-clause-wherever
returns-clause-wherever c =
    let types = c.args.self.now.types.now in
    let d = c.token_at-d.result in
    let place = rw c.in-Some.is at c.place.ensures in
    λ n nodes lists. keeping c.args.tokens.now (lending nodes None lists (code_of c.args.self.now)) c.args.at n _ place.0 c.token_at-d.ensures (c.put.ensures ∙ ap (λ (before : ℕ). paste types (length types - (before + 3)) (d.len ∷ d.start ∷ d.kind ∷ []) 3) place.2) (omega arith)

pub returns-clause-reads : goal.returns-clause-reads
returns-clause-reads c = λ n. returns-clause-wherever c n None None
