pub mod NewTrees
pub mod Readings
pub mod ReadTrees
pub mod Putting
pub mod StraightLaws
pub mod Registers
pub mod Settings
pub mod Fetches
pub mod Cells
pub mod Delays
pub mod Instead
pub mod Elements
pub mod Ends
pub mod Valued
pub mod Addresses
pub mod Jumping
pub mod Calling
pub mod Turning
pub mod Keyed
pub mod PutValues
pub mod PutParts
pub mod SetTurns
pub mod SetWidth
pub mod Keying
pub mod ElementTurns
pub mod EffectTurns
pub mod HiddenTurns
pub mod InsnTurns
pub mod WholeTurns
pub mod SetValues
pub mod EffectsThere
pub mod JumpTrees
pub use Rattle.bits64.proofs as bits64
pub use Rattle.law_frame.proofs as law_frame
pub use Rattle.md_match.proofs as md_match
pub use Rattle.reload_operands.proofs as reload_operands
pub use Rattle.rtl_func.proofs as rtl_func
pub use Rattle.rtl_step.proofs as rtl_step
pub use Rattle.rtx_tree.proofs as rtx_tree
pub use Rattle.run_memory.proofs as run_memory
