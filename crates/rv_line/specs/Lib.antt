pub mod Step
pub mod Run
pub mod machine
pub use Rattle.run_memory.specs as run_memory
pub use Rattle.rv_text.specs as rv_text
pub use Rattle.rtx_tree.specs as rtx_tree
pub mod Standing
