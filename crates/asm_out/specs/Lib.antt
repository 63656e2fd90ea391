pub mod Frame
pub mod Filled
pub mod Refused
pub mod Comes
pub mod Written
pub mod Outcome
pub mod machine
pub use Rattle.pass_refusal.specs.equate as equate
pub use Rattle.pass_refusal.specs.form_needs as form_needs
pub use Rattle.md_desc.specs as md_desc
pub use Rattle.pass_refusal.specs.sym_diff as sym_diff
pub use Rattle.pass_refusal.specs.equate.sym_lines as sym_lines
pub use Rattle.pass_refusal.specs as pass_refusal
