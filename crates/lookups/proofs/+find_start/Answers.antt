-- `lookups::find_start` meets its contract.
use Rattle.std.proofs.Common.{◌∙◌, sym, ap}
use Rattle.ast.specs.Answer.{lent_of, cells_of}
use Rattle.lookups.proofs.Descent.{finish, finish_below, finish_past, steps}
use Rattle.lookups.proofs.+find_start.Goals as goal

pub returns-in_default : goal.returns-in_default
unfolding finish
returns-in_default t c =
    let l = lent_of c.args.tree.now in
    ap (finish l.script (cells_of l) l.nodes c.args.id.0) c.in_default.ensures
    ∙ steps l.script (cells_of l) l.nodes c.args.start.now c.args.id.0

pub returns-then-child-id : goal.returns-then-child-id
returns-then-child-id t c =
    let l = lent_of c.args.tree.now in
    c.find_start.ensures
    ∙ sym (finish_below l.script (cells_of l) l.nodes c.args.id.0 _ _ c.if-child-id.true)
    ∙ ap (finish l.script (cells_of l) l.nodes c.args.id.0) c.in-Some.ensures
    ∙ steps l.script (cells_of l) l.nodes c.args.start.now c.args.id.0

pub returns-else-child-id : goal.returns-else-child-id
returns-else-child-id t c =
    let l = lent_of c.args.tree.now in
    sym (finish_past l.script (cells_of l) l.nodes c.args.id.0 _ _ c.if-child-id.false)
    ∙ ap (finish l.script (cells_of l) l.nodes c.args.id.0) c.in-Some.ensures
    ∙ steps l.script (cells_of l) l.nodes c.args.start.now c.args.id.0
