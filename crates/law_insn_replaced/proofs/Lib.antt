pub mod Lists
pub mod Windows
pub mod Shapes
pub mod Vars
pub mod Uids
pub mod Marks
pub mod Labels
pub mod Jumps
pub mod Keeping
pub mod Inputs
pub mod Finished
pub use Rattle.insn_replace.proofs.equate as equate
pub use Rattle.law_pass_needs.proofs as law_pass_needs
pub use Rattle.insn_replace.proofs as insn_replace
pub use Rattle.insn_replace.proofs.pass_refusal as pass_refusal
pub use Rattle.insn_replace.proofs.law_insn_terms as law_insn_terms
