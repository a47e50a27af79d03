pub mod Lines
pub mod Stores
pub mod Answers
pub mod Totals
pub mod Printouts
