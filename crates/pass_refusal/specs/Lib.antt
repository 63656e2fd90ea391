pub mod Refused
pub mod Outcome
pub mod machine
pub use Rattle.equate.specs as equate
pub use Rattle.form_needs.specs as form_needs
pub use Rattle.md_forms.specs as md_forms
pub use Rattle.equate.specs.sym_diff as sym_diff
