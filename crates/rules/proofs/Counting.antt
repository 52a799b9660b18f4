-- A reading makes at most as many nodes, types and values as it takes tokens, and eight list cells
-- for each.
pub mod Step
pub mod Rules
pub mod Whole
pub mod Collect
pub mod Cells
