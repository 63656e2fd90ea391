pub mod Registers
pub mod Classes
