pub mod Shapes
pub mod SetApart
pub mod FormBit
pub mod Calls
pub mod EveryParcel
