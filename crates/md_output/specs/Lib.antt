pub mod Operand
pub mod Sequence
pub mod Filled
pub mod Read
