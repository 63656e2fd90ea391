pub mod Spare
pub mod Places
pub mod Straight
pub mod Held
pub use Rattle.bits64.specs as bits64
pub use Rattle.law_frame.specs as law_frame
pub use Rattle.law_window_kept.specs as law_window_kept
pub use Rattle.md_constr.specs as md_constr
pub use Rattle.md_match.specs as md_match
pub use Rattle.reload_operands.specs as reload_operands
pub use Rattle.rtl_func.specs as rtl_func
pub use Rattle.rtl_step.specs as rtl_step
pub use Rattle.rtx_tree.specs as rtx_tree
pub use Rattle.run_memory.specs as run_memory
pub use Rattle.sym_insns.specs as sym_insns
