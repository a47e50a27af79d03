pub mod MatchLaws
pub mod CaseLaws
pub mod EveryLaws
pub mod ListLaws
pub mod FieldLaws
mod SumLaws
mod FlagLaws
pub mod WordLaws
pub mod MeaningLaws
pub mod ProductLaws
pub mod WidthLaws
