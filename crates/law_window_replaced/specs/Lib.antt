pub mod Natural
pub mod Replaced
pub use Rattle.law_window_kept.specs as law_window_kept
pub use Rattle.law_window_lines.specs as law_window_lines
