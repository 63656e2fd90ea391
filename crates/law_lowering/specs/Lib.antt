pub use Rattle.law_insn_replaced.specs as law_insn_replaced
pub use Rattle.law_insn_replaced.specs.law_pass_needs as law_pass_needs
