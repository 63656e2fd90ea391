pub mod Registers
pub mod Entry
pub mod Labels
pub mod Places
pub mod Kept
