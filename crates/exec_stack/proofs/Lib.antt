pub mod TargetLaws
pub mod EnterLaws
pub mod CatchLaws
pub mod ReturnLaws
