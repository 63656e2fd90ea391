pub mod Plain
pub mod Shapes
