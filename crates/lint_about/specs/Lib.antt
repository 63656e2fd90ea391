pub mod About
pub mod Within
pub mod Parts
pub mod Own
