pub mod Tabled
pub mod Lowest
pub mod Choosing
