pub mod Items
pub mod ForLines
pub mod Left
pub use Rattle.law_window_runs.specs as law_window_runs
pub use Rattle.law_window_runs.specs.same_behaviour as same_behaviour
