pub mod Appended
pub mod AskLaws
pub mod Bounds
