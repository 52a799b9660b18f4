-- `compare::node::Order::last` meets its contract.
use mathlib.Core.Path.{refl}
use Rattle.ast.specs.Schema.{node_schema}
use Rattle.compare.specs.Parts.{sort_at, cell_at, parts}
use Rattle.compare.proofs.node.Order.last.Goals as goal

pub returns-in-Atom : goal.returns-in-Atom
unfolding sort_at cell_at parts node_schema
returns-in-Atom c = rw c.in-Atom.is refl

pub returns-in-Ident : goal.returns-in-Ident
unfolding sort_at cell_at parts node_schema
returns-in-Ident c = rw c.in-Ident.is refl

pub returns-in-Bin : goal.returns-in-Bin
unfolding sort_at cell_at parts node_schema
returns-in-Bin c = rw c.in-Bin.is (refl, refl)

pub returns-in-Unary : goal.returns-in-Unary
unfolding sort_at cell_at parts node_schema
returns-in-Unary c = rw c.in-Unary.is (refl, refl)

pub returns-in-Let : goal.returns-in-Let
unfolding sort_at cell_at parts node_schema
returns-in-Let c = rw c.in-Let.is (refl, refl)

pub returns-in-Fn : goal.returns-in-Fn
unfolding sort_at cell_at parts node_schema
returns-in-Fn c = rw c.in-Fn.is (refl, refl)

pub returns-in-Match : goal.returns-in-Match
unfolding sort_at cell_at parts node_schema
returns-in-Match c = rw c.in-Match.is (refl, refl)

pub returns-in-Call : goal.returns-in-Call
unfolding sort_at cell_at parts node_schema
returns-in-Call c = rw c.in-Call.is (refl, refl)

pub returns-in-Field : goal.returns-in-Field
unfolding sort_at cell_at parts node_schema
returns-in-Field c = rw c.in-Field.is (refl, refl)

pub returns-in-Cast : goal.returns-in-Cast
unfolding sort_at cell_at parts node_schema
returns-in-Cast c = rw c.in-Cast.is (refl, refl)

pub returns-in-Import : goal.returns-in-Import
unfolding sort_at cell_at parts node_schema
returns-in-Import c = rw c.in-Import.is refl

pub returns-in-Extern : goal.returns-in-Extern
unfolding sort_at cell_at parts node_schema
returns-in-Extern c = rw c.in-Extern.is refl

pub returns-in-Record : goal.returns-in-Record
unfolding sort_at cell_at parts node_schema
returns-in-Record c = rw c.in-Record.is (refl, refl)

pub returns-in-Array : goal.returns-in-Array
unfolding sort_at cell_at parts node_schema
returns-in-Array c = rw c.in-Array.is (refl, refl)

pub returns-in-RightLast : goal.returns-in-RightLast
unfolding sort_at cell_at parts node_schema
returns-in-RightLast c = rw c.in-RightLast.is (refl, refl)

pub returns-in-ArgumentsLast : goal.returns-in-ArgumentsLast
unfolding sort_at cell_at parts node_schema
returns-in-ArgumentsLast c = rw c.in-ArgumentsLast.is (refl, refl)
