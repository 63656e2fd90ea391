pub mod Each
pub mod After
pub mod Leads
pub use Rattle.law_passes.specs.law_insn_replaced as law_insn_replaced
