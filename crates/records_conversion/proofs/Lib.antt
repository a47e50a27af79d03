pub mod LineLaws
pub mod BlockLaws
pub mod ExchangeLaws
pub mod LoopLaws
pub mod RefusalLaws
pub mod Stopping
