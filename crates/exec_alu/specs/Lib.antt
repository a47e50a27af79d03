pub mod Modes
pub mod Results
