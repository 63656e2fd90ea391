pub mod Insns
pub mod Lines
pub mod Beside
pub mod Uses
pub mod Same
pub use Rattle.same_behaviour.specs as same_behaviour
pub use Rattle.same_behaviour.specs.rtl_step as rtl_step
