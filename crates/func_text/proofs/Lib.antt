pub mod Wholes
pub mod Pieces
pub mod OneAssembly
pub mod Laws
pub mod Behaviour
pub mod Parts
pub mod Comes
pub mod CodeLaws
pub mod One
pub mod Told
pub mod Line
pub mod CycleLine
pub mod Looked
pub mod CyclesOne
pub mod CyclesTold
pub mod DumpOne
pub mod DumpTold
pub use Rattle.func_after.proofs as func_after
pub use Rattle.func_after.proofs.law_insn_replaced as law_insn_replaced
