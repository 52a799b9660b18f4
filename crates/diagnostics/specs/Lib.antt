-- The diagnostics array, and the faults of a part of the script.
pub mod Records
pub mod Faults
