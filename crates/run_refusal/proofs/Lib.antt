pub mod Joined
pub use Rattle.rtl_print.proofs as rtl_print
