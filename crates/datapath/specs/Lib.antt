pub mod Parts
pub mod Data
pub mod Text
pub mod Moves
pub mod Code
pub mod Clauses
