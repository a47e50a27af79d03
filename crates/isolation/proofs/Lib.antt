mod TableLaws
mod ChangeLaws
mod AccessLaws
mod ProgramLaws
mod RefusalLaws
mod TurnLaws
pub mod Isolation
pub mod ExecutionLaws
pub mod UnconfinedLaws
