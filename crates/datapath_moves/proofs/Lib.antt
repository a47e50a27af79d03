pub mod FlushLaws
pub mod FillLaws
