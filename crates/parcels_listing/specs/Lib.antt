pub mod Listing
pub mod Portions
pub mod OneParcelList
pub mod Instructions
