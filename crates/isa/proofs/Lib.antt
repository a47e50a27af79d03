pub mod BoundLaws
pub mod FieldLaws
pub mod LengthLaws
pub mod AnswerLaws
pub mod Carried
