pub mod FetchedText
pub mod StopCodes
