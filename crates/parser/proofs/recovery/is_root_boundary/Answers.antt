-- `parser::recovery::is_root_boundary` meets its contract.
use Rattle.std.proofs.Common.{arith, inl, inr}
use Rattle.parser.proofs.Synchronize.{boundary_outside, boundary_inside, boundary_end}
use Rattle.parser.proofs.recovery.is_root_boundary.Goals as goal

pub returns-in_default : goal.returns-in_default
returns-in_default c = boundary_outside _ (inl (omega arith)) (λ e. omega arith)

pub returns-in_default-2 : goal.returns-in_default-2
returns-in_default-2 c = boundary_outside _ (inr (omega arith)) (λ e. omega arith)

pub returns-in-29 : goal.returns-in-29
returns-in-29 c = boundary_end _ c.in-29.is

pub returns-in-29-2 : goal.returns-in-29-2
returns-in-29-2 c = boundary_inside _ (omega arith) (omega arith)
