pub mod ListingLaws
pub mod LineLaws
pub mod PortionLaws
pub mod RisingLaws
pub mod OneParcelList
pub mod Instructions
