pub mod Refusing
pub mod Any
pub mod One
pub mod Unread
pub mod Readings
pub mod Firsts
pub mod Comes
pub mod Inputs
pub use Rattle.run_refusal.proofs.rtl_print as rtl_print
