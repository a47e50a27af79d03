pub mod BackLaws
pub mod TurnLaws
pub mod RunLaws
