-- The rules of the language over the lexer's, in the order in which a script meets them; then what
-- is stated of them.
pub mod Tree
pub mod Combinators
pub mod Rules
pub mod Parse
pub mod Parsed
pub mod Promise
pub mod Shape
pub mod Strike
pub mod Law
pub mod Parents
pub mod Merge
pub mod MergedCells
