pub mod Numbering
pub mod Calls
