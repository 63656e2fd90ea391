pub mod Needs
pub mod Matched
