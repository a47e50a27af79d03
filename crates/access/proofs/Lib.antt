pub mod JournalLaws
pub mod AccessLaws
pub mod QuadLaws
pub mod EffectFreeLaws
pub mod UndoLaws
