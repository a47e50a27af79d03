pub mod RoundTrip
pub mod WordLaws
