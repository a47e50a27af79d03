pub mod AccessLaws
pub mod GiveLaws
pub mod CacheWordLaws
pub mod PlaceLaws
pub mod AfterSourceLaws
pub mod TwoLaws
