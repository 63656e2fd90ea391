pub mod Sound
pub use Rattle.insn_replace.specs.equate as equate
pub use Rattle.insn_replace.specs as insn_replace
pub use Rattle.md_emit.specs as md_emit
pub use Rattle.law_pass_needs.specs as law_pass_needs
pub use Rattle.insn_replace.specs.pass_refusal as pass_refusal
pub use Rattle.law_pass_needs.specs.sym_insns as sym_insns
pub use Rattle.law_pass_needs.specs.sym_state as sym_state
pub use Rattle.law_window_replaced.specs.law_window_lines as law_window_lines
