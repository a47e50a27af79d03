pub mod Fields
pub mod Lists
pub mod Products
pub mod Shifts
pub mod Signed
pub mod Sums
pub mod Tags
pub mod Widths
