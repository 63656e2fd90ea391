pub mod Each
pub mod Inner
pub mod Meanings
pub mod Smallest
pub mod Taken
pub mod Behind
pub mod OneCode
pub mod OneList
pub mod HasReason
pub use Rattle.lisp_read.proofs as lisp_read
