pub mod Movable
pub mod Insns
pub mod Choice
pub mod Sound
pub mod machine
pub use Rattle.reload_fit.specs as reload_fit
