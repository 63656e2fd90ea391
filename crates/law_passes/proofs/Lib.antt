pub mod Nearer
pub mod Restored
pub mod Whole
pub mod Made
pub use Rattle.law_insn_replaced.proofs as law_insn_replaced
