-- Merging: two readings side by side, the tokens of two scripts joined, and the tree of both.
pub mod Match
pub mod Arena
pub mod Beside
pub mod Rules
pub mod Tokens
pub mod Whole
pub mod Layout
pub mod Walk
