pub mod Each
pub mod Told
pub mod ChangeLaws
pub mod PassLaws
pub mod PassesLaws
pub mod OneAfter
pub mod Changes
pub mod Passing
pub mod Kept
pub mod Short
pub mod Stages
pub mod Hard
pub mod Keeping
pub use Rattle.law_passes.proofs.law_insn_replaced as law_insn_replaced
pub use Rattle.law_peepholes.proofs.law_lines_ready.law_output as law_output
