pub mod Lines
pub mod Layout
pub mod Block
pub mod Old
