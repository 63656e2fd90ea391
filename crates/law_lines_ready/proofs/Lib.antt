pub mod Notes
pub mod Sound
pub mod Reloaded
pub mod Framed
pub mod Split
pub mod Written
pub mod Given
pub use Rattle.law_output.proofs as law_output
pub use Rattle.law_no_pseudos.proofs as law_no_pseudos
