-- The tree in lent arrays: laying out its records and reading them, the schema, and what is lent.
pub mod Layout
pub mod Decode
pub mod Schema
pub mod Lists
pub mod Tabulate
pub mod Answer
