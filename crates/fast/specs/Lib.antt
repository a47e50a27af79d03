pub mod Performed
pub mod Clauses
