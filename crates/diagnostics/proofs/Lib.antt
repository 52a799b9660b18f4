-- Laws of the diagnostics array, of the faults of a part of the script, and of their order.
pub mod Records
pub mod Faults
pub mod Order
pub mod Examples
