pub mod Moved
pub mod Registers
pub mod Moves
