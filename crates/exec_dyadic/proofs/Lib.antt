pub mod FindLaws
pub mod ResultLaws
pub mod MoveLaws
pub mod TagLaws
pub mod PerformLaws
