-- The laws of items and expressions.
pub mod Tables
pub mod Calls
pub mod Matches
pub mod Exprs
