pub mod New
pub mod Window
pub use Rattle.law_lines_ready.proofs as law_lines_ready
