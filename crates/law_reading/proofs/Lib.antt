pub mod Trees
pub mod Natural
pub use Rattle.law_rules.proofs as law_rules
