pub mod Does
pub mod Kept
