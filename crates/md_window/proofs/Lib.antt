pub mod Tabled
pub mod Shapes
