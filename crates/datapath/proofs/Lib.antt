pub mod DataLaws
pub mod BindLaws
pub mod PartLaws
pub mod TextLaws
pub mod OperandLaws
