pub mod CarryLaws
pub mod CutLaws
pub mod SearchLaws
pub mod TextLaws
