pub mod Wells
pub mod Plains
pub mod ReadBack
pub mod News
pub mod Operands
pub mod Windows
pub mod Planned
pub mod Jumps
