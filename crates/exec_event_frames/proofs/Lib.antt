pub mod PushLaws
pub mod SequenceLaws
pub mod KernelLaws
