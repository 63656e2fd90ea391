pub mod One
pub mod Comes
pub mod Does
pub use Rattle.law_assembly.proofs.func_text as func_text
pub use Rattle.law_assembly.proofs as law_assembly
