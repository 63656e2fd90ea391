pub mod Difference
pub mod Registers
pub mod Compared
pub mod States
pub mod Views
pub mod machine
pub mod Agree
pub use Rattle.sym_state.specs as sym_state
