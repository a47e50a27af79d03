pub mod Access
pub mod Program
pub mod Journal
pub mod Clauses
