pub mod Conversion
pub mod Stopping
pub mod Loop
