pub mod InterpretLaws
pub mod BoundedLaws
pub mod RouteLaws
pub mod ByteLaws
pub mod UndoLaws
pub mod UndoingLaws
