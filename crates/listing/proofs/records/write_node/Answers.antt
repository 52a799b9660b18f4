-- `listing::records::write_node` meets its contract.
use Rattle.std.proofs.Common.{sym, ap}
use Rattle.text.specs.Text.{bytes}
use Rattle.listing.specs.Text.{node}
use Rattle.listing.proofs.EmitLaws.{lists_by}
use Rattle.listing.proofs.records.write_node.Goals as goal

pub returns-in-Atom : goal.returns-in-Atom
unfolding node bytes
returns-in-Atom c = lists_by (ap (node c.args.lists.now) (sym c.in-Atom.is)) c.write_form.ensures

pub returns-in-Ident : goal.returns-in-Ident
unfolding node bytes
returns-in-Ident c = lists_by (ap (node c.args.lists.now) (sym c.in-Ident.is)) c.write_form-in-Ident.ensures

pub returns-in-Bin : goal.returns-in-Bin
unfolding node bytes
returns-in-Bin c = lists_by (ap (node c.args.lists.now) (sym c.in-Bin.is)) c.write_form-in-Bin.ensures

pub returns-in-Unary : goal.returns-in-Unary
unfolding node bytes
returns-in-Unary c = lists_by (ap (node c.args.lists.now) (sym c.in-Unary.is)) c.write_form-in-Unary.ensures

pub returns-in-Let : goal.returns-in-Let
unfolding node bytes
returns-in-Let c = lists_by (ap (node c.args.lists.now) (sym c.in-Let.is)) c.write_form-in-Let.ensures

pub returns-in-Fn : goal.returns-in-Fn
unfolding node bytes
returns-in-Fn c = lists_by (ap (node c.args.lists.now) (sym c.in-Fn.is)) c.write_form-in-Fn.ensures

pub returns-in-Match : goal.returns-in-Match
unfolding node bytes
returns-in-Match c = lists_by (ap (node c.args.lists.now) (sym c.in-Match.is)) c.write_form-in-Match.ensures

pub returns-in-Call : goal.returns-in-Call
unfolding node bytes
returns-in-Call c = lists_by (ap (node c.args.lists.now) (sym c.in-Call.is)) c.write_form-in-Call.ensures

pub returns-in-Field : goal.returns-in-Field
unfolding node bytes
returns-in-Field c = lists_by (ap (node c.args.lists.now) (sym c.in-Field.is)) c.write_form-in-Field.ensures

pub returns-in-Cast : goal.returns-in-Cast
unfolding node bytes
returns-in-Cast c = lists_by (ap (node c.args.lists.now) (sym c.in-Cast.is)) c.write_form-in-Cast.ensures

pub returns-in-Import : goal.returns-in-Import
unfolding node bytes
returns-in-Import c = lists_by (ap (node c.args.lists.now) (sym c.in-Import.is)) c.write_form-in-Import.ensures

pub returns-in-Extern : goal.returns-in-Extern
unfolding node bytes
returns-in-Extern c = lists_by (ap (node c.args.lists.now) (sym c.in-Extern.is)) c.write_form-in-Extern.ensures

pub returns-in-Record : goal.returns-in-Record
unfolding node bytes
returns-in-Record c = lists_by (ap (node c.args.lists.now) (sym c.in-Record.is)) c.write_form-in-Record.ensures

pub returns-in-Array : goal.returns-in-Array
unfolding node bytes
returns-in-Array c = lists_by (ap (node c.args.lists.now) (sym c.in-Array.is)) c.write_form-in-Array.ensures
