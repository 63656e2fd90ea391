pub mod Compute
pub mod Step
pub mod Run
pub mod machine
pub use Rattle.sym_state.specs as sym_state
