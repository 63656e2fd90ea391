pub mod Meant
pub mod Means
pub mod Needs
pub mod Shows
pub use Rattle.sym_insns.specs as sym_insns
pub use Rattle.law_window_runs.specs as law_window_runs
