pub mod RunMemory
pub mod Symbols
