pub mod Answering
pub mod Roots
