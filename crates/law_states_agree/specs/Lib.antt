pub use Rattle.same_behaviour.specs as same_behaviour
pub use Rattle.sym_diff.specs as sym_diff
pub use Rattle.law_line_terms.specs.sym_insns as sym_insns
pub use Rattle.law_line_terms.specs.law_insn_terms as law_insn_terms
pub use Rattle.sym_diff.specs.sym_state as sym_state
pub use Rattle.law_window_runs.specs as law_window_runs
