pub mod Records
pub mod Conversions
