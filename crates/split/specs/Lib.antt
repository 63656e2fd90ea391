pub mod Split
pub mod Left
pub mod machine
pub use Rattle.form_needs.specs as form_needs
pub use Rattle.law_insn_replaced.specs as law_insn_replaced
pub use Rattle.law_insn_replaced.specs.insn_replace as insn_replace
