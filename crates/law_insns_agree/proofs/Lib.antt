pub mod Numbers
pub mod Covered
pub mod Told
pub mod Shapes
pub mod Memories
pub mod Calls
pub mod Ends
pub mod Behind
pub mod Keeping
pub use Rattle.law_states_agree.proofs as law_states_agree
pub use Rattle.law_states_agree.proofs.law_insn_terms as law_insn_terms
