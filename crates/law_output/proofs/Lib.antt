pub mod Shapes
pub mod Places
pub mod Written
pub use Rattle.law_pass_needs.proofs as law_pass_needs
