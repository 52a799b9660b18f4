-- What the contracts about types with one inside and about import paths are written in.
pub mod Inner
pub mod Paths
