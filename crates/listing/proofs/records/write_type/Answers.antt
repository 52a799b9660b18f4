-- `listing::records::write_type` meets its contract.
use Rattle.std.proofs.Common.{sym, ap}
use Rattle.text.specs.Text.{bytes}
use Rattle.listing.specs.Text.{type_expr}
use Rattle.listing.proofs.EmitLaws.{lists_by}
use Rattle.listing.proofs.records.write_type.Goals as goal

pub returns-in-Atom : goal.returns-in-Atom
unfolding type_expr bytes
returns-in-Atom c = lists_by (ap (type_expr c.args.lists.now) (sym c.in-Atom.is)) c.write_form.ensures

pub returns-in-Foreign : goal.returns-in-Foreign
unfolding type_expr bytes
returns-in-Foreign c = lists_by (ap (type_expr c.args.lists.now) (sym c.in-Foreign.is)) c.write_form-in-Foreign.ensures

pub returns-in-Option : goal.returns-in-Option
unfolding type_expr bytes
returns-in-Option c = lists_by (ap (type_expr c.args.lists.now) (sym c.in-Option.is)) c.write_form-in-Option.ensures

pub returns-in-Array : goal.returns-in-Array
unfolding type_expr bytes
returns-in-Array c = lists_by (ap (type_expr c.args.lists.now) (sym c.in-Array.is)) c.write_form-in-Array.ensures

pub returns-in-Record : goal.returns-in-Record
unfolding type_expr bytes
returns-in-Record c = lists_by (ap (type_expr c.args.lists.now) (sym c.in-Record.is)) c.write_form-in-Record.ensures
