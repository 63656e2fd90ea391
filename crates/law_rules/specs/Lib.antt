pub mod Admitted
pub mod Sorts
pub mod ForLines
pub use Rattle.form_needs.specs as form_needs
pub use Rattle.law_window_lines.specs.same_behaviour as same_behaviour
