-- `parser_state::Parser::push_node` meets its contract.
use Rattle.std.proofs.Common.{ℕ, ◌∷◌, length, ap, ◌∙◌, arith}
use Rattle.ast.specs.Layout.{node_width}
use Rattle.std.proofs.Math.Seq.{paste}
use Rattle.parser_state.specs.Represents.{code_of}
use Rattle.parser_state.proofs.Leaves.{full, no_place}
use Rattle.parser_state.proofs.Steps.{left-some}
use Rattle.parser_state.proofs.Cells.{padded-length, node-length, node_making}
use Rattle.std.specs.Prelude.{None}
use Rattle.parser_state.specs.Wherever.{lending}
use Rattle.parser_state.proofs.Parser.push_node.Goals as goal

pub returns-then-this-clause-wherever : goal.returns-then-this-clause-wherever
returns-then-this-clause-wherever g c =
    λ tokens f rooms few e types lists. absurd (omega (arith, ap length e ∙ node-length (f c.args.self.now.used.values), padded-length node_width (c.args.kind ∷ c.args.self.now.used.values ∷ c.args.fields), c.if-this.true, c.well_formed))

pub returns-then-this-clause-reads : goal.returns-then-this-clause-reads
returns-then-this-clause-reads g c = λ tokens f rooms few e. returns-then-this-clause-wherever g c tokens f rooms few e None None

pub returns-in_default-clause-wherever : goal.returns-in_default-clause-wherever
returns-in_default-clause-wherever g c =
    λ tokens f rooms few e types lists. no_place (rw c.in_default.is at c.place.ensures) (λ R L stack m h. (omega (arith, h.credit.records, h.lent.small, left-some h), omega (arith, h.credit.records, h.lent.nodes, left-some h)))

pub returns-in_default-clause-reads : goal.returns-in_default-clause-reads
returns-in_default-clause-reads g c = λ tokens f rooms few e. returns-in_default-clause-wherever g c tokens f rooms few e None None

pub returns-then-values-ge-MAX_VALUES-clause-wherever : goal.returns-then-values-ge-MAX_VALUES-clause-wherever
returns-then-values-ge-MAX_VALUES-clause-wherever g c = λ tokens f rooms few e types lists. full (λ R L stack m h. omega (arith, h.credit.numbers, h.lent.small, left-some h))

pub returns-then-values-ge-MAX_VALUES-clause-reads : goal.returns-then-values-ge-MAX_VALUES-clause-reads
returns-then-values-ge-MAX_VALUES-clause-reads g c = λ tokens f rooms few e. returns-then-values-ge-MAX_VALUES-clause-wherever g c tokens f rooms few e None None

pub returns-clause-wherever : goal.returns-clause-wherever
returns-clause-wherever g c =
    let cells = c.record-cells.result in
    let place = rw c.in-Some.is at c.place.ensures in
    λ tokens f rooms few e types lists. node_making tokens cells (lending None types lists (code_of c.args.self.now)) f _ rooms few place.0 (c.record-cells.ensures ∙ e) (c.put.ensures ∙ ap (λ (at : ℕ). paste c.args.self.now.nodes.now at cells (length cells)) place.2) (omega arith)

pub returns-clause-reads : goal.returns-clause-reads
returns-clause-reads g c = λ tokens f rooms few e. returns-clause-wherever g c tokens f rooms few e None None
