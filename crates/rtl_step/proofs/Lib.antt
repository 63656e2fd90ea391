pub mod Registers
pub mod Values
pub mod Too
pub mod Readings
