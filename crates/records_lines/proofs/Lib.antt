pub mod ConversionLaws
pub mod FrameLaws
pub mod RecordLaws
pub mod SizeLaws
pub mod StoreLaws
pub mod SumLaws
