pub mod EventLaws
pub mod StepLaws
