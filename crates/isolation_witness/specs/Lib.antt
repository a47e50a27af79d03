pub mod Memories
pub mod Witness
pub mod Premises
pub mod Counterexamples
