pub mod Fast
pub mod Clauses
