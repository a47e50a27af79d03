pub mod Unused
pub mod RoundTrip
