pub mod EndLaws
pub mod WordLaws
pub mod FlowLaws
