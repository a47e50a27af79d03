pub mod Registers
pub mod Masks
pub mod Cache
pub mod Bits
pub mod Status
pub mod Record
pub mod Shapes
