pub mod Operands
pub mod Patterns
pub mod Functions
