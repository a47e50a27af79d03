pub mod Exceptions
pub mod Answers
pub mod Bytes
