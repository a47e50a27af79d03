pub mod Conversation
pub mod Code
pub mod Blocks
pub mod Loop
