pub mod EndsLines
pub mod ShowsLine
pub use Rattle.law_insn_terms.specs.sym_insns as sym_insns
pub use Rattle.sym_lines.specs as sym_lines
pub use Rattle.law_insn_terms.specs as law_insn_terms
