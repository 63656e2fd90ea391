pub mod Named
pub mod Emitted
