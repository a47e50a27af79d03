pub mod ModeLaws
pub mod PswLaws
pub mod ResultLaws
