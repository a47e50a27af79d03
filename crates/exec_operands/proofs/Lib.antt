pub mod PlaceLaws
pub mod ReadLaws
pub mod WriteLaws
pub mod CheckLaws
pub mod RestLaws
