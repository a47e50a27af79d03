pub mod MonadicLaws
pub mod NiladicLaws
pub mod ExecuteLaws
pub mod ActLaws
pub mod AttemptLaws
