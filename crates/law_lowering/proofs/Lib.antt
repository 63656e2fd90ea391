pub mod Keeping
pub mod Emitting
pub mod Standard
pub mod Prepared
pub mod Sequence
pub mod Made
pub mod Arguments
pub use Rattle.law_insn_replaced.proofs as law_insn_replaced
pub use Rattle.law_insn_replaced.proofs.law_pass_needs as law_pass_needs
