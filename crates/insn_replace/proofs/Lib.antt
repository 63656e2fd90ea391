pub mod Calls
pub mod MadeLaws
pub mod OneReplaced
pub use Rattle.pass_refusal.proofs.law_insns_agree as law_insns_agree
pub use Rattle.pass_refusal.proofs.equate as equate
pub use Rattle.pass_refusal.proofs.law_insn_terms as law_insn_terms
pub use Rattle.pass_refusal.proofs as pass_refusal
