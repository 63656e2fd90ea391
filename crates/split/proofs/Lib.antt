pub mod Forms
pub mod Made
pub mod Insns
pub mod Running
pub mod One
pub mod Left
pub mod Kept
pub mod Uids
pub mod Sound
pub use Rattle.law_insn_replaced.proofs as law_insn_replaced
