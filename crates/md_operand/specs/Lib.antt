pub mod Addresses
pub mod Operand
