pub mod Views
pub mod Rounds
