pub mod FlowLaws
pub mod FrameLaws
pub mod RegisterLaws
