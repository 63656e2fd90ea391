pub mod Ready
pub use Rattle.law_pass_needs.specs as law_pass_needs
