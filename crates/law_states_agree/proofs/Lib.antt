pub mod Windows
pub mod LinesKeep
pub mod Codes
pub mod Twice
pub mod Covered
pub mod Behind
pub mod Ends
pub mod Visible
pub mod Told
pub mod Calls
pub mod Does
pub mod Agreeing
pub use Rattle.law_line_terms.proofs.law_insn_terms as law_insn_terms
pub use Rattle.sym_diff.proofs.sym_term as sym_term
