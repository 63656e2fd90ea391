pub mod Frame
pub mod Kept
pub mod Keeps
pub use Rattle.law_window_replaced.specs as law_window_replaced
