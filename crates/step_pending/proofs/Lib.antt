pub mod CountLaws
pub mod EventLaws
pub mod Laws
pub mod TakenLaws
pub mod TimerLaws
pub mod TracedLaws
