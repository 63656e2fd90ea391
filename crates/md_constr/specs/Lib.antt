pub mod Inputs
pub mod Admits
pub mod Early
pub mod Fits
pub mod machine
pub use Rattle.md_attr.specs as md_attr
