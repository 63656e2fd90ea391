pub mod Same
pub use Rattle.func_text.proofs as func_text
