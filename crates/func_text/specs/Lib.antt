pub mod Summary
pub mod Assembly
pub mod Compile
pub mod Lines
pub mod Same
pub mod Code
pub mod Recog
pub mod Cycles
pub mod Dump
pub mod machine
pub use Rattle.func_after.specs as func_after
