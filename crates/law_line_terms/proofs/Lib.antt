pub mod Accesses
pub mod Before
pub mod Computing
pub mod Ends
pub mod Leads
pub mod Lines
pub mod Reading
pub mod Runs
pub mod Setting
pub mod Steps
pub mod Tables
pub use Rattle.sym_lines.proofs as sym_lines
pub use Rattle.law_insn_terms.proofs as law_insn_terms
