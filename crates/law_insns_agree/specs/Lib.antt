pub use Rattle.law_window_kept.specs as law_window_kept
pub use Rattle.law_states_agree.specs.law_window_runs as law_window_runs
