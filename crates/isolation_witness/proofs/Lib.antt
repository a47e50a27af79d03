mod MemoryLaws
mod TestLaws
pub mod Witness
pub mod Premises
