pub mod BesideLaws
mod WalkLaws
pub mod MarkLaws
pub mod ShapeLaws
