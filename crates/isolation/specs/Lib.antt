pub mod Sealed
pub mod Execution
pub mod Isolation
