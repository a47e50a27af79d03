pub mod Followed
pub mod EffectFree
pub mod Quads
