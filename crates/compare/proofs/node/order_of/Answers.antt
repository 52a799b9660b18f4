-- `compare::node::order_of` meets its contract.
use mathlib.Core.Path.{◌≡◌}
use native.Mathlib.Omega.{arith}
use Rattle.compare.specs.Parts.{own, right_last, arguments_last}
use Rattle.compare.proofs.node.order_of.Goals as goal

pub returns-in-1 : goal.returns-in-1
returns-in-1 c = rw c.in-1.is own

pub returns-in-2 : goal.returns-in-2
returns-in-2 c = rw c.in-2.is own

pub returns-then-is_leaf : goal.returns-then-is_leaf
returns-then-is_leaf c = rw c.in-3.is right_last

pub returns-else-is_leaf : goal.returns-else-is_leaf
returns-else-is_leaf c = rw c.in-3.is own

pub returns-in-4 : goal.returns-in-4
returns-in-4 c = rw c.in-4.is own

pub returns-in-5 : goal.returns-in-5
returns-in-5 c = rw c.in-5.is own

pub returns-in-6 : goal.returns-in-6
returns-in-6 c = rw c.in-6.is own

pub returns-in-7 : goal.returns-in-7
returns-in-7 c = rw c.in-7.is own

pub returns-then-is_leaf-2 : goal.returns-then-is_leaf-2
returns-then-is_leaf-2 c = rw c.in-8.is arguments_last

pub returns-else-is_leaf-2 : goal.returns-else-is_leaf-2
returns-else-is_leaf-2 c = rw c.in-8.is own

pub returns-in-9 : goal.returns-in-9
returns-in-9 c = rw c.in-9.is own

pub returns-in-10 : goal.returns-in-10
returns-in-10 c = rw c.in-10.is own

pub returns-in-11 : goal.returns-in-11
returns-in-11 c = rw c.in-11.is own

pub returns-in-12 : goal.returns-in-12
returns-in-12 c = rw c.in-12.is own

pub returns-in-13 : goal.returns-in-13
returns-in-13 c = rw c.in-13.is own

pub returns-in_default : goal.returns-in_default
returns-in_default c = let k : c.args.kind ≡ 14 = omega arith in rw k own
