-- `compare::node::Order::first` meets its contract.
use mathlib.Core.Path.{refl}
use Rattle.ast.specs.Schema.{node_schema}
use Rattle.compare.specs.Parts.{sort_at, cell_at, parts}
use Rattle.compare.proofs.Orders.{are_first}
use Rattle.compare.proofs.node.Order.first.Goals as goal

pub returns-in-Atom : goal.returns-in-Atom
unfolding sort_at cell_at parts node_schema
returns-in-Atom c = are_first _ _ _ _ _ c.in-Atom.is (refl, refl) (refl, refl) (refl, refl) (refl, refl)

pub returns-in-Ident : goal.returns-in-Ident
unfolding sort_at cell_at parts node_schema
returns-in-Ident c = are_first _ _ _ _ _ c.in-Ident.is (refl, refl) (refl, refl) (refl, refl) (refl, refl)

pub returns-in-Bin : goal.returns-in-Bin
unfolding sort_at cell_at parts node_schema
returns-in-Bin c = are_first _ _ _ _ _ c.in-Bin.is (refl, refl) (refl, refl) (refl, refl) (refl, refl)

pub returns-in-Unary : goal.returns-in-Unary
unfolding sort_at cell_at parts node_schema
returns-in-Unary c = are_first _ _ _ _ _ c.in-Unary.is (refl, refl) (refl, refl) (refl, refl) (refl, refl)

pub returns-in-Let : goal.returns-in-Let
unfolding sort_at cell_at parts node_schema
returns-in-Let c = are_first _ _ _ _ _ c.in-Let.is (refl, refl) (refl, refl) (refl, refl) (refl, refl)

pub returns-in-Fn : goal.returns-in-Fn
unfolding sort_at cell_at parts node_schema
returns-in-Fn c = are_first _ _ _ _ _ c.in-Fn.is (refl, refl) (refl, refl) (refl, refl) (refl, refl)

pub returns-in-Match : goal.returns-in-Match
unfolding sort_at cell_at parts node_schema
returns-in-Match c = are_first _ _ _ _ _ c.in-Match.is (refl, refl) (refl, refl) (refl, refl) (refl, refl)

pub returns-in-Call : goal.returns-in-Call
unfolding sort_at cell_at parts node_schema
returns-in-Call c = are_first _ _ _ _ _ c.in-Call.is (refl, refl) (refl, refl) (refl, refl) (refl, refl)

pub returns-in-Field : goal.returns-in-Field
unfolding sort_at cell_at parts node_schema
returns-in-Field c = are_first _ _ _ _ _ c.in-Field.is (refl, refl) (refl, refl) (refl, refl) (refl, refl)

pub returns-in-Cast : goal.returns-in-Cast
unfolding sort_at cell_at parts node_schema
returns-in-Cast c = are_first _ _ _ _ _ c.in-Cast.is (refl, refl) (refl, refl) (refl, refl) (refl, refl)

pub returns-in-Import : goal.returns-in-Import
unfolding sort_at cell_at parts node_schema
returns-in-Import c = are_first _ _ _ _ _ c.in-Import.is (refl, refl) (refl, refl) (refl, refl) (refl, refl)

pub returns-in-Extern : goal.returns-in-Extern
unfolding sort_at cell_at parts node_schema
returns-in-Extern c = are_first _ _ _ _ _ c.in-Extern.is (refl, refl) (refl, refl) (refl, refl) (refl, refl)

pub returns-in-Record : goal.returns-in-Record
unfolding sort_at cell_at parts node_schema
returns-in-Record c = are_first _ _ _ _ _ c.in-Record.is (refl, refl) (refl, refl) (refl, refl) (refl, refl)

pub returns-in-Array : goal.returns-in-Array
unfolding sort_at cell_at parts node_schema
returns-in-Array c = are_first _ _ _ _ _ c.in-Array.is (refl, refl) (refl, refl) (refl, refl) (refl, refl)

pub returns-in-RightLast : goal.returns-in-RightLast
unfolding sort_at cell_at parts node_schema
returns-in-RightLast c = are_first _ _ _ _ _ c.in-RightLast.is (refl, refl) (refl, refl) (refl, refl) (refl, refl)

pub returns-in-ArgumentsLast : goal.returns-in-ArgumentsLast
unfolding sort_at cell_at parts node_schema
returns-in-ArgumentsLast c = are_first _ _ _ _ _ c.in-ArgumentsLast.is (refl, refl) (refl, refl) (refl, refl) (refl, refl)
