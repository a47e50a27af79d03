pub mod LineLaws
pub mod LoopLaws
pub mod PrintedLaws
pub mod RoomLaws
mod AnswerLaws
mod ExchangeLaws
mod PartLaws
