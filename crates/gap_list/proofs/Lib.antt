pub mod GapLaws
pub mod InPlace
