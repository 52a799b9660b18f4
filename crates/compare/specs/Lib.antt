-- Same shape of two trees in lent arrays.
pub mod Shapes
pub mod Agree
pub mod Parts
pub mod Same
pub mod Compare
pub mod Returned
pub mod Pairs
pub mod Orders
