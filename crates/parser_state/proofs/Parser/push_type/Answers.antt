-- `parser_state::Parser::push_type` meets its contract.
use Rattle.std.proofs.Common.{ℕ, ◌∷◌, length, ap, ◌∙◌, arith}
use Rattle.ast.specs.Layout.{type_width}
use Rattle.std.proofs.Math.Seq.{paste}
use Rattle.parser_state.specs.Represents.{code_of}
use Rattle.parser_state.proofs.Leaves.{no_place}
use Rattle.parser_state.proofs.Steps.{left-some}
use Rattle.parser_state.proofs.Cells.{padded-length, cells-length, making}
use Rattle.std.specs.Prelude.{None}
use Rattle.parser_state.specs.Wherever.{lending}
use Rattle.parser_state.proofs.Parser.push_type.Goals as goal

pub returns-then-this-clause-wherever : goal.returns-then-this-clause-wherever
returns-then-this-clause-wherever g c =
    λ tokens t e nodes lists. absurd (omega (arith, ap length e ∙ cells-length t, padded-length type_width (c.args.kind ∷ c.args.fields), c.if-this.true, c.well_formed))

pub returns-then-this-clause-reads : goal.returns-then-this-clause-reads
returns-then-this-clause-reads g c = λ tokens t e. returns-then-this-clause-wherever g c tokens t e None None

pub returns-in_default-clause-wherever : goal.returns-in_default-clause-wherever
returns-in_default-clause-wherever g c =
    λ tokens t w nodes lists. no_place (rw c.in_default.is at c.place.ensures) (λ R L stack m h. (omega (arith, h.credit.records, h.lent.small, left-some h), omega (arith, h.credit.records, h.lent.types, left-some h)))

pub returns-in_default-clause-reads : goal.returns-in_default-clause-reads
returns-in_default-clause-reads g c = λ tokens t w. returns-in_default-clause-wherever g c tokens t w None None

pub returns-clause-wherever : goal.returns-clause-wherever
returns-clause-wherever g c =
    let cells = c.record-cells.result in
    let place = rw c.in-Some.is at c.place.ensures in
    λ tokens t w nodes lists. making tokens cells (lending nodes None lists (code_of c.args.self.now)) t place.0 (c.record-cells.ensures ∙ w) (c.put.ensures ∙ ap (λ (at : ℕ). paste c.args.self.now.types.now at cells (length cells)) place.2) (omega arith)

pub returns-clause-reads : goal.returns-clause-reads
returns-clause-reads g c = λ tokens t w. returns-clause-wherever g c tokens t w None None
