pub mod Loads
pub mod RoundTrip
pub mod BoardMemory
pub mod Examples
pub mod Programs
