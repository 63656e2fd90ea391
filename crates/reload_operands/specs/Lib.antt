pub mod Put
pub mod Directions
pub mod Bases
pub mod Changes
pub mod Operands
pub use Rattle.md_constr.specs as md_constr
