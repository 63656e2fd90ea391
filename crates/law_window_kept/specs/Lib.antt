pub mod Same
pub use Rattle.law_function_kept.specs as law_function_kept
