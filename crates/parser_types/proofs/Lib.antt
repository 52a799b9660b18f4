-- Which rule reads a type, and what is struck out of an import.
pub mod TypeKinds
pub mod Imports
