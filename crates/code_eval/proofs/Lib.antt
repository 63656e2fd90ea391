pub mod Zeros
pub mod Symbols
pub mod Lawful
