pub mod Ready
pub mod Reloadable
pub mod Left
pub use Rattle.law_rules.specs.form_needs as form_needs
pub use Rattle.law_rules.specs as law_rules
pub use Rattle.sym_insns.specs as sym_insns
pub use Rattle.sym_insns.specs.sym_state as sym_state
