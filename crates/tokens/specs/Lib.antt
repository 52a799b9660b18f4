-- The token and error tables of a script.
pub mod Tables
pub mod Table
pub mod Filling
