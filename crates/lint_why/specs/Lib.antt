pub mod Choices
pub mod Why
