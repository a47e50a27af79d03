pub mod FlowLaws
pub mod InstructionLaws
pub mod TextLaws
pub mod TurnLaws
