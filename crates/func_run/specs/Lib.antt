pub mod Run
pub use Rattle.rtl_step.specs as rtl_step
pub mod Standing
