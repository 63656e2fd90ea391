pub mod Chosen
pub use Rattle.law_operands_fetched.specs as law_operands_fetched
pub use Rattle.law_operands_fetched.specs.law_operands_replaced as law_operands_replaced
pub use Rattle.law_operands_fetched.specs.law_frame as law_frame
pub use Rattle.law_operands_fetched.specs.reload_choice as reload_choice
pub use Rattle.law_operands_fetched.specs.reload_choice.reload_fit as reload_fit
pub use Rattle.law_operands_fetched.specs.reload_operands as reload_operands
pub use Rattle.law_operands_fetched.specs.sym_insns as sym_insns
pub use Rattle.law_operands_fetched.specs.law_frame.law_window_replaced as law_window_replaced
