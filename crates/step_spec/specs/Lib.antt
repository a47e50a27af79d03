pub mod Events
pub mod Timers
pub mod Step
