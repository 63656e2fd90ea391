pub mod Addressed
pub mod Fitting
pub mod Taken
pub use Rattle.md_desc.specs as md_desc
