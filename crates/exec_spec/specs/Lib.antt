pub mod Operands
pub mod Alu
pub mod Dyadic
pub mod Control
pub mod Stack
pub mod EventFrames
pub mod Execute
