pub mod Labels
pub mod Needs
