pub mod Agreed
pub mod Called
pub mod Equated
pub mod Effects
pub mod Rows
pub mod OneLine
pub mod Computes
pub mod TwoLines
