-- The laws that the functions' proofs cite.
mod Agree
mod Lists
mod Words
mod Walk
mod Listing
mod RecordCells
mod Types
mod Nodes
mod Last
mod Roots
pub mod Compare
pub mod Held
mod Orders
