pub mod Onwards
pub mod Tame
pub use Rattle.assign.specs as assign
pub use Rattle.law_operands_replaced.specs.bits64 as bits64
pub use Rattle.c_eval.specs as c_eval
pub use Rattle.law_operands_replaced.specs.law_frame as law_frame
pub use Rattle.law_homes.specs as law_homes
pub use Rattle.law_operands_replaced.specs as law_operands_replaced
pub use Rattle.law_operands_replaced.specs.law_window_kept as law_window_kept
pub use Rattle.law_operands_replaced.specs.md_constr as md_constr
pub use Rattle.law_operands_replaced.specs.md_match as md_match
pub use Rattle.md_operand.specs as md_operand
pub use Rattle.reload_choice.specs as reload_choice
pub use Rattle.reload_homes.specs as reload_homes
pub use Rattle.reload_moves.specs as reload_moves
pub use Rattle.law_operands_replaced.specs.reload_operands as reload_operands
pub use Rattle.law_operands_replaced.specs.rtl_func as rtl_func
pub use Rattle.law_operands_replaced.specs.rtl_step as rtl_step
pub use Rattle.law_operands_replaced.specs.rtx_tree as rtx_tree
pub use Rattle.law_operands_replaced.specs.run_memory as run_memory
pub use Rattle.rv_regs.specs as rv_regs
pub use Rattle.same_behaviour.specs as same_behaviour
pub use Rattle.law_operands_replaced.specs.sym_insns as sym_insns
