mod StoreLaws
pub mod AnswerLaws
pub mod ByteLaws
pub mod PlaceLaws
