-- The lookups: where a node starts, and the token of a type.
pub mod Lookup
pub mod Descent
