mod ByteLaws
mod LoadLaws
mod RecordLaws
mod StoreFrameLaws
mod StoreRecordLaws
mod FramesLaws
mod MemoryLaws
pub mod RoundTrip
pub mod BoardMemory
pub mod Examples
pub mod Programs
