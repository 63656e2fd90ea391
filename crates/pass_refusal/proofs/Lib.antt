pub mod Refusing
pub use Rattle.equate.proofs.law_insns_agree as law_insns_agree
pub use Rattle.equate.proofs as equate
pub use Rattle.equate.proofs.law_insn_terms as law_insn_terms
