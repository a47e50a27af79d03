pub mod WordLaws
pub mod ManyLaws
