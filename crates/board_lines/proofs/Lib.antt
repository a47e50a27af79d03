pub mod AnswerLaws
pub mod DigitLaws
pub mod FrameLaws
mod StoreLaws
pub mod TotalsLaws
