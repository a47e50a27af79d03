pub mod Run
pub mod Stopping
pub mod Boards
