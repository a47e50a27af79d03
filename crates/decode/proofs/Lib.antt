pub mod ShortLaws
pub mod DyadicLaws
pub mod FormLaws
pub mod RestLaws
