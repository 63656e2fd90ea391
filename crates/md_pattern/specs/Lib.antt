pub mod Reason
pub mod Word
pub mod Operand
pub mod Pattern
pub mod HasReason
pub mod machine
pub use Rattle.lisp_read.specs as lisp_read
