pub mod Reload
pub mod Outcome
pub mod Windows
pub mod machine
pub use Rattle.form_needs.specs as form_needs
pub use Rattle.law_frame.specs as law_frame
pub use Rattle.law_pass_needs.specs.law_rules as law_rules
pub use Rattle.law_pass_needs.specs as law_pass_needs
