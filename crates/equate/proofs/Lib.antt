pub mod VerdictLaws
pub mod Soundness
pub use Rattle.law_insns_agree.proofs as law_insns_agree
pub use Rattle.law_insns_agree.proofs.law_insn_terms as law_insn_terms
