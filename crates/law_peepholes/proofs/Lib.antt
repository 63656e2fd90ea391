pub mod Placed
pub mod Hard
pub use Rattle.law_window_placed.proofs.law_lines_ready as law_lines_ready
