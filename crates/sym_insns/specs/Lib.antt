pub mod Value
pub mod Effects
pub mod Shape
pub mod Run
pub mod machine
pub use Rattle.sym_state.specs as sym_state
