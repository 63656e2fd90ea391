pub mod WordLaws
pub mod TableLaws
pub mod WidthLaws
