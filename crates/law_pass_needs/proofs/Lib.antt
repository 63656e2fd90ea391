pub mod Places
pub mod Made
pub mod Ready
pub use Rattle.law_rules.proofs as law_rules
pub use Rattle.sym_insns.proofs as sym_insns
