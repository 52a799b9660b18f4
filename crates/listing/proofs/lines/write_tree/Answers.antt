-- `listing::lines::write_tree` meets its contract.
use Rattle.std.proofs.Common.{rules, sym, take}
use lib.Seq.{length-take-le}
use Rattle.ast.specs.Decode.{node_at, type_at}
use Rattle.text.specs.Text.{bytes}
use Rattle.text.proofs.EmitLaws.{and_then, writes_by}
use Rattle.listing.specs.Listing.{held, node_text, type_text, node_line, type_line, numbers_line, tree_text}
use Rattle.listing.proofs.EmitLaws.{done, fails, refused, unlisted_by, unlisted-first, unlisted-then}
use Rattle.listing.proofs.LineLaws.{tree_in, tree_out, cells-inside, roots-inside, errors-inside, roots_are, errors_are}
use Rattle.listing.proofs.lines.write_tree.Goals as goal

pub returns-then-not-holds : goal.returns-then-not-holds
returns-then-not-holds c = refused (tree_out (held c.args.arrays.now) c.args.c c.if-not-holds.ensures)

pub slice_bounds-lists-end : goal.slice_bounds-lists-end
slice_bounds-lists-end c = sym (length-take-le _ _ (cells-inside (held c.args.arrays.now) c.args.c c.if-not-holds.ensures))

pub returns-in_err-write_records : goal.returns-in_err-write_records
unfolding tree_text node_line bytes
returns-in_err-write_records c =
    fails c.from_residual.ensures.0 (unlisted_by (tree_in (held c.args.arrays.now) c.args.c c.if-not-holds.ensures)
    (unlisted-then c.write_counts.ensures
    (unlisted-first (c.in_err-write_records.ensures (λ i. node_text (take c.args.c.cells c.args.arrays.now.lists.now) (node_at c.args.arrays.now.nodes.now i)) (λ j u r v h p. search rules)).answers _)))

pub returns-in_err-write_records-2 : goal.returns-in_err-write_records-2
unfolding tree_text node_line type_line bytes
returns-in_err-write_records-2 c =
    fails c.from_residual-in_err-write_records-2.ensures.0 (unlisted_by (tree_in (held c.args.arrays.now) c.args.c c.if-not-holds.ensures)
    (unlisted-then c.write_counts.ensures
    (unlisted-then (c.in_ok-write_records.ensures (λ i. node_text (take c.args.c.cells c.args.arrays.now.lists.now) (node_at c.args.arrays.now.nodes.now i)) (λ j u r v h p. search rules)).answers
    (unlisted-first (c.in_err-write_records-2.ensures (λ i. type_text (take c.args.c.cells c.args.arrays.now.lists.now) (type_at c.args.arrays.now.types.now i)) (λ j u r v h p. search rules)).answers _))))

pub slice_bounds-write_line-end-2 : goal.slice_bounds-write_line-end-2
slice_bounds-write_line-end-2 c = sym (length-take-le _ _ (roots-inside (held c.args.arrays.now) c.args.c c.if-not-holds.ensures))

pub returns : goal.returns
unfolding tree_text node_line type_line bytes
returns c =
    done (writes_by (tree_in (held c.args.arrays.now) c.args.c c.if-not-holds.ensures)
    (and_then c.write_counts.ensures
    (and_then (c.in_ok-write_records.ensures (λ i. node_text (take c.args.c.cells c.args.arrays.now.lists.now) (node_at c.args.arrays.now.nodes.now i)) (λ j u r v h p. search rules)).answers
    (and_then (c.in_ok-write_records-2.ensures (λ i. type_text (take c.args.c.cells c.args.arrays.now.lists.now) (type_at c.args.arrays.now.types.now i)) (λ j u r v h p. search rules)).answers
    (and_then (writes_by (roots_are c.args.arrays.now.roots.now c.args.c.roots (roots-inside (held c.args.arrays.now) c.args.c c.if-not-holds.ensures)) c.write_line.ensures)
    (writes_by (errors_are (numbers_line (bytes "diag")) c.args.arrays.now.diagnostics.now c.args.c.diagnostics (errors-inside (held c.args.arrays.now) c.args.c c.if-not-holds.ensures)) c.write_diagnostics.ensures))))))

pub slice_bounds-diagnostics-end : goal.slice_bounds-diagnostics-end
slice_bounds-diagnostics-end c = sym (length-take-le _ _ (errors-inside (held c.args.arrays.now) c.args.c c.if-not-holds.ensures))
