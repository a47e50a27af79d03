pub mod Dues
pub mod Traces
